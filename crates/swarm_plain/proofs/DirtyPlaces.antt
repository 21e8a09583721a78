-- The tasks that make a place dirty.
use Rattle.std.proofs.Common.{◌≡◌, ℕ, Bool, true, false, List, [], ◌∷◌, Option, Some, None, inl, inr, refl, ◌∙◌}
use Rattle.std.specs.Prelude.{◌⊎◌, ◌&&◌, ◌||◌, not}
use Rattle.std.specs.List.{last_or, list_any}
use Rattle.swarm_plain.proofs.Numbers.{number_at, one_place}
use Rattle.swarm_model.proofs.Laws.Any.{any-has}
use Rattle.swarm_objects.proofs.Tests.{second_so}
use Rattle.swarm_objects.specs.Rows.{Has, is_some_and}
use Rattle.swarm_objects.specs.Same.{same_place}
use Rattle.swarm_objects.specs.Services.Words.{is_live_dirty}
use Rattle.swarm_objects.specs.Tasks.Places.{closes_dirty, counts_for, has_live, is_dirty_place, is_in_place, newest, place_at, place_number, place_tasks}
use Rattle.swarm_objects.specs.World.{Tables}
use Rattle.swarm_objects.specs.declared.services.Service.{Service}
use Rattle.swarm_objects.specs.declared.tasks.Task.{Task}

-- Places.

pub at_number : (s : Service) (k : ℕ) (x : Task) → is_in_place s (place_at s.spec.mode k) x ≡ true → place_number x.place
    ≡ k
at_number s k x e =
    one_place x.place (place_at s.spec.mode k)
    (second_so (counts_for s x) (same_place x.place (place_at s.spec.mode k)) e)
    ∙ number_at s.spec.mode k

pub both_true : (a b : Bool) → a ≡ true → b ≡ true → (a && b) ≡ true
both_true true b e f = f
both_true false b e f = absurd cc

last_has : {X : Type 0} (xs : List X) (o : Option X) (x : X) → last_or o xs ≡ Some x → (o ≡ Some x) ⊎ Has xs x
last_has [] o x e = inl e
last_has (y ∷ ys) o x e = go (last_has ys (Some y) x e)
  where
    go : (Some y ≡ Some x) ⊎ Has ys x → (o ≡ Some x) ⊎ Has (y ∷ ys) x
    go (inl same) = inr (inl cc)
    go (inr h) = inr (inr h)

newest_has : (xs : List Task) (x : Task) → newest xs ≡ Some x → Has xs x
newest_has xs x e = go (last_has xs None x e)
  where
    go : (None ≡ Some x) ⊎ Has xs x → Has xs x
    go (inl none) = absurd cc
    go (inr h) = h

-- Dirty places.

pub both_ways : (a b : Bool) → (a ≡ true → b ≡ true) → (b ≡ true → a ≡ true) → a ≡ b
both_ways true true to from = refl
both_ways true false to from = absurd (let e : false ≡ true = to refl in cc)
both_ways false true to from = absurd (let e : false ≡ true = from refl in cc)
both_ways false false to from = refl

-- a dirty place has a task that makes it so
pub suspect_in : (t : Tables) (s : Service) (k : ℕ) → is_dirty_place t s k ≡ true →
    (x : Task) × Has (place_tasks t s k) x × ((is_live_dirty s x || closes_dirty s x) ≡ true)
suspect_in t s k dirty = go (list_any (is_live_dirty s) (place_tasks t s k)) refl dirty
  where
    either_left : (a b : Bool) → a ≡ true → (a || b) ≡ true
    either_left true b e = refl
    either_left false b e = absurd cc

    either_right : (a b : Bool) → b ≡ true → (a || b) ≡ true
    either_right true b e = refl
    either_right false b e = e

    closed : (o : Option Task) → newest (place_tasks t s k) ≡ o → is_some_and (closes_dirty s) o ≡ true →
        (x : Task) × Has (place_tasks t s k) x × ((is_live_dirty s x || closes_dirty s x) ≡ true)
    closed None is e = absurd cc
    closed (Some x) is e =
        (x, newest_has (place_tasks t s k) x is, either_right (is_live_dirty s x) (closes_dirty s x) e)

    go : (b : Bool) → list_any (is_live_dirty s) (place_tasks t s k) ≡ b →
        (b || (not (has_live t s k) && is_some_and (closes_dirty s) (newest (place_tasks t s k)))) ≡ true →
        (x : Task) × Has (place_tasks t s k) x × ((is_live_dirty s x || closes_dirty s x) ≡ true)
    go true is e =
        let x = any-has (is_live_dirty s) (place_tasks t s k) is in
        (x.0, x.1, either_left (is_live_dirty s x.0) (closes_dirty s x.0) x.2)
    go false is e =
        closed (newest (place_tasks t s k)) refl
        (second_so (not (has_live t s k)) (is_some_and (closes_dirty s) (newest (place_tasks t s k))) e)
