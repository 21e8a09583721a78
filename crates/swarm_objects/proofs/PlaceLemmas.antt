-- Tasks of places.
use Rattle.std.proofs.Common.{◌≡◌, Bool, true, false, cond, List, [], ◌∷◌, refl, sym, ap, ◌∙◌}
use Rattle.std.proofs.lemmas.List.Sums.{length-filter}
use Rattle.std.specs.List.{list_any}
use Rattle.std.specs.Prelude.{◌==◌, ◌&&◌, ◌||◌, count_by, filter, length, not}
use Rattle.swarm_objects.proofs.Filters.{filter_again}
use Rattle.swarm_objects.specs.Same.{same_place}
use Rattle.swarm_objects.specs.Services.Words.{is_job}
use Rattle.swarm_objects.specs.Tasks.Places.{counts_for, is_in_place, tasks_of_place}
use Rattle.swarm_objects.specs.Tasks.Words.{is_at, is_of}
use Rattle.swarm_objects.specs.declared.services.Service.{Service}
use Rattle.swarm_objects.specs.declared.tasks.Place.{Place}
use Rattle.swarm_objects.specs.declared.tasks.Task.{Task}

pub and_left : (a b : Bool) → (a && b) ≡ true → a ≡ true
and_left true b e = refl
and_left false b e = e

pub in_place_of_service : (s : Service) (p : Place) (tasks : List Task)
    → filter (is_in_place s p) (filter (is_of s.id) tasks) ≡ tasks_of_place s p tasks
in_place_of_service s p tasks = filter_again (is_in_place s p) (is_of s.id) tasks (λ x e. and_left _ _ (and_left _ _ e))

stands_at : (a b c : Bool) → (a && b) && c ≡ true → a && c ≡ true
stands_at true true c e = e
stands_at true false c e = cc
stands_at false b c e = e

pub in_place_at : (s : Service) (p : Place) (tasks : List Task)
    → filter (is_in_place s p) (filter (is_at s.id p) tasks) ≡ tasks_of_place s p tasks
in_place_at s p tasks = filter_again (is_in_place s p) (is_at s.id p) tasks (λ (x : Task) e. stands_at (x.service == s.id)
    (not (is_job s.spec.mode) || x.iteration == s.iteration) (same_place x.place p) e)

pub counted_of_service : (s : Service) (tasks : List Task) → filter (counts_for s) (filter (is_of s.id) tasks)
    ≡ filter (counts_for s) tasks
counted_of_service s tasks = filter_again (counts_for s) (is_of s.id) tasks (λ x e. and_left _ _ e)

pub count_again : {X : Type 0} (p q : X → Bool) (xs : List X) → ((x : X) → p x ≡ true → q x ≡ true)
    → count_by p (filter q xs) ≡ count_by p xs
count_again p q xs implies =
    sym (length-filter p (filter q xs)) ∙ ap length (filter_again p q xs implies) ∙ length-filter p xs

pub any_again : {X : Type 0} (p q : X → Bool) (xs : List X) → ((x : X) → p x ≡ true → q x ≡ true)
    → list_any p (filter q xs) ≡ list_any p xs
any_again p q [] implies = refl
any_again p q (x ∷ xs) implies = go (p x) refl (q x) refl (any_again p q xs implies)
  where
    go : (a : Bool) → p x ≡ a → (b : Bool) → q x ≡ b → list_any p (filter q xs) ≡ list_any p xs
        → list_any p (cond b (x ∷ filter q xs) (filter q xs)) ≡ (a || list_any p xs)
    go a e true f k = ap (λ c. c || list_any p (filter q xs)) e ∙ ap (λ c. a || c) k
    go true e false f k = absurd (differs (sym f ∙ implies x e))
      where
        differs : false ≡ true → ⊥
        differs d = absurd cc
    go false e false f k = k
