-- A place that is to be replaced is dirty.
use Rattle.std.proofs.Common.{Bool, List, [], ap, false, refl, sym, true, ◌&&◌, ◌||◌, ◌∙◌, ◌∷◌, ◌≡◌}
use Rattle.std.specs.List.{list_any}
use Rattle.swarm_model.specs.Settle.{has_waiting_place}
use Rattle.swarm_objects.specs.Loops.Update.{is_to_replace}
use Rattle.swarm_objects.specs.Tasks.Places.{has_dirty_place, is_dirty_place, place_numbers}
use Rattle.swarm_objects.specs.World.{Tables}
use Rattle.swarm_objects.specs.declared.services.Service.{Service}

or_true : (a : Bool) → (a || true) ≡ true
or_true true = refl
or_true false = refl

first_of_both : (a b : Bool) → (a && b) ≡ true → a ≡ true
first_of_both true b e = refl
first_of_both false b e = e

-- what passes the one test passes the other
weaker : {X : Type 0} (p q : X → Bool) → ((x : X) → q x ≡ true → p x ≡ true) → (xs : List X) → list_any q xs ≡ true
    → list_any p xs ≡ true
weaker p q h [] e = e
weaker p q h (x ∷ xs) e = go (q x) refl (weaker p q h xs)
  where
    go : (b : Bool) → q x ≡ b → (list_any q xs ≡ true → list_any p xs ≡ true) → (p x || list_any p xs) ≡ true
    go true passes behind = ap (λ b. b || list_any p xs) (h x passes)
    go false fails behind =
        ap (λ b. p x || b) (behind (sym (ap (λ b. b || list_any q xs) fails) ∙ e)) ∙ or_true (p x)

pub waiting_is_dirty : (t : Tables) (s : Service) → has_waiting_place t s ≡ true → has_dirty_place t s ≡ true
waiting_is_dirty t s =
    weaker (is_dirty_place t s) (is_to_replace t s) (λ k. first_of_both (is_dirty_place t s k) _) (place_numbers t s)
