-- A place is dirty only where a task of its service may make it so.
use Rattle.std.proofs.Common.{◌≡◌, ℕ, Bool, true, false, List, [], ◌∷◌, Option, Some, None, refl, sym, ◌∙◌}
use Rattle.std.specs.List.{list_any}
use Rattle.std.specs.Prelude.{◌&&◌, ◌||◌, filter, not}
use Rattle.swarm_objects.proofs.RowLemmas.{Has-filter, Has-filter_cases}
use Rattle.swarm_objects.proofs.Newest.{newest_has}
use Rattle.swarm_objects.proofs.PlaceLemmas.{and_left}
use Rattle.swarm_objects.proofs.Tests.{any-has, both, first_so, has-any, or_left, or_right, second_so}
use Rattle.swarm_objects.specs.Loops.Update.{is_to_replace}
use Rattle.swarm_objects.specs.Rows.{Has, is_some_and}
use Rattle.swarm_objects.specs.Same.{same_place}
use Rattle.swarm_objects.specs.Services.Words.{is_dirty, is_live_dirty}
use Rattle.swarm_objects.specs.Tasks.Places.{closes, closes_dirty, counts_for, has_clean, has_dirty_place, has_live, is_dirty_place, is_in_place, newest, place_at, place_numbers, place_tasks}
use Rattle.swarm_objects.specs.Tasks.Words.{is_live, is_of}
use Rattle.swarm_objects.specs.World.{Tables}
use Rattle.swarm_objects.specs.declared.services.Service.{Service}
use Rattle.swarm_objects.specs.declared.tasks.Task.{Task}
use Rattle.role_words.specs.Suspects.{is_suspect}

abbrev pub any_suspect : Service → List Task → Bool
any_suspect s tasks = list_any (is_suspect s) (filter (is_of s.id) tasks)

placed : (t : Tables) (s : Service) (k : ℕ) (x : Task) → Has (place_tasks t s k) x → is_suspect s x ≡ true
    → any_suspect s t.tasks ≡ true
placed t s k x has suspect =
    let place = place_at s.spec.mode k in
    let found = Has-filter_cases (is_in_place s place) t.tasks x has in
    let own = and_left _ _ (and_left (counts_for s x) (same_place x.place place) found.1) in
    has-any (is_suspect s) (filter (is_of s.id) t.tasks) x (Has-filter (is_of s.id) t.tasks x found.0 own) suspect

closing : (t : Tables) (s : Service) (k : ℕ) (o : Option Task) → newest (place_tasks t s k) ≡ o
    → is_some_and (closes_dirty s) o ≡ true → any_suspect s t.tasks ≡ true
closing t s k None is e = absurd cc
closing t s k (Some z) is e =
    placed t s k z (newest_has (place_tasks t s k) z is)
    (both (is_live z || closes z) (is_dirty s z) (or_right (is_live z) (closes z) (first_so (closes z) (is_dirty s z) e))
    (second_so (closes z) (is_dirty s z) e))

dirty_place : (t : Tables) (s : Service) (k : ℕ) → is_dirty_place t s k ≡ true → any_suspect s t.tasks ≡ true
dirty_place t s k e = go (list_any (is_live_dirty s) (place_tasks t s k)) refl e
  where
    closed : Bool
    closed = is_some_and (closes_dirty s) (newest (place_tasks t s k))

    go : (b : Bool) → list_any (is_live_dirty s) (place_tasks t s k) ≡ b → (b || (not (has_live t s k) && closed)) ≡ true
        → any_suspect s t.tasks ≡ true
    go true live f =
        let found = any-has (is_live_dirty s) (place_tasks t s k) live in
        let x = found.0 in
        placed t s k x found.1
        (both (is_live x || closes x) (is_dirty s x) (or_left (is_live x) (closes x) (first_so (is_live x) (is_dirty s x) found.2))
        (second_so (is_live x) (is_dirty s x) found.2))
    go false live f = closing t s k (newest (place_tasks t s k)) refl (second_so (not (has_live t s k)) closed f)

none_passes : {X : Type 0} (p : X → Bool) (xs : List X) → ((x : X) → p x ≡ true → false ≡ true) → list_any p xs ≡ false
none_passes p [] no' = refl
none_passes p (x ∷ xs) no' = go (p x) (no' x) (none_passes p xs no')
  where
    go : (b : Bool) → (b ≡ true → false ≡ true) → list_any p xs ≡ false → (b || list_any p xs) ≡ false
    go true wrong rest = sym (wrong refl)
    go false wrong rest = rest

pub none_suspect : (t : Tables) (s : Service) → any_suspect s t.tasks ≡ false → has_dirty_place t s ≡ false
none_suspect t s none =
    none_passes (is_dirty_place t s) (place_numbers t s) (λ k e. sym none ∙ dirty_place t s k e)

-- nor is a place to be replaced
pub none_waiting : (t : Tables) (s : Service) → any_suspect s t.tasks ≡ false
    → list_any (is_to_replace t s) (place_numbers t s) ≡ false
none_waiting t s none = none_passes (is_to_replace t s) (place_numbers t s)
    (λ k e. sym none ∙ dirty_place t s k (first_so (is_dirty_place t s k) (not (has_clean t s k)) e))
