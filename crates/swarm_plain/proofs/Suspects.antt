-- A test that only dirty places pass asks the tasks alone that may make one dirty.
use Rattle.std.proofs.Common.{◌≡◌, ℕ, Bool, true, List, [], sym, ap, subst, ◌∙◌}
use Rattle.std.specs.Prelude.{◌&&◌, ◌||◌}
use Rattle.std.specs.List.{list_any}
use Rattle.swarm_plain.proofs.AnyOf.{and_true}
use Rattle.swarm_plain.proofs.DirtyPlaces.{at_number, both_true, both_ways, suspect_in}
use Rattle.swarm_plain.proofs.Numbers.{any_number}
use Rattle.swarm_plain.specs.Inside.OfPlace.{is_suspect}
use Rattle.swarm_model.proofs.Laws.Any.{any-has, has-any}
use Rattle.swarm_objects.proofs.RowLemmas.{Has-filter_cases}
use Rattle.swarm_objects.proofs.Tests.{any_same, first_so, second_so}
use Rattle.swarm_objects.specs.Rows.{Has}
use Rattle.swarm_objects.specs.Same.{same_place}
use Rattle.swarm_objects.specs.Services.Words.{is_live_dirty}
use Rattle.swarm_objects.specs.Tasks.Places.{closes_dirty, counts_for, has_dirty_place, is_dirty_place, is_in_place, numbers_of, place_at, place_number, place_numbers}
use Rattle.swarm_objects.specs.World.{Tables}
use Rattle.swarm_objects.specs.declared.services.Service.{Service}
use Rattle.swarm_objects.specs.declared.tasks.Task.{Task}

-- the numbers that pass are those of the tasks that are asked
abbrev IsEnough : (Task → Bool) → (ℕ → Bool) → Service → List Task → Type 0
IsEnough is_asked p s tasks =
    (q : ℕ → Bool) →
    list_any (λ x. is_asked x && (p (place_number x.place) && q (place_number x.place))) tasks
    ≡ list_any (λ k. p k && q k) (numbers_of s tasks)

-- Only those tasks are asked that may make their place pass.

abbrev Marks : (Task → Bool) → (ℕ → Bool) → Service → List Task → Type 0
Marks is_asked p s tasks =
    (k : ℕ) → p k ≡ true → (x : Task) × Has tasks x × (is_asked x ≡ true) × (place_number x.place ≡ k)

marked_pass : (is_asked : Task → Bool) (p : ℕ → Bool) (s : Service) (tasks : List Task) →
    ((x : Task) → is_asked x ≡ true → counts_for s x ≡ true) → Marks is_asked p s tasks → IsEnough is_asked p s tasks
marked_pass is_asked p s tasks among marks q =
    both_ways _ _ some all ∙ any_number (λ k. p k && q k) s tasks
  where
    mine : Task → Bool
    mine x = is_asked x && (p (place_number x.place) && q (place_number x.place))

    its : Task → Bool
    its x = counts_for s x && (p (place_number x.place) && q (place_number x.place))

    some : list_any mine tasks ≡ true → list_any its tasks ≡ true
    some e =
        let x = any-has mine tasks e in
        let n = place_number x.0.place in
        has-any its tasks x.0 x.1
        (both_true (counts_for s x.0) (p n && q n) (among x.0 (first_so (is_asked x.0) (p n && q n) x.2))
        (second_so (is_asked x.0) (p n && q n) x.2))

    all : list_any its tasks ≡ true → list_any mine tasks ≡ true
    all e =
        let x = any-has its tasks e in
        let n = place_number x.0.place in
        let pass = second_so (counts_for s x.0) (p n && q n) x.2 in
        let y = marks n (first_so (p n) (q n) pass) in
        has-any mine tasks y.0 y.1
        (both_true (is_asked y.0) (p (place_number y.0.place) && q (place_number y.0.place)) y.2
        (subst (λ k. (p k && q k) ≡ true) (sym y.3) pass))

any_marked : (is_asked : Task → Bool) (p : ℕ → Bool) (s : Service) (tasks : List Task) →
    ((x : Task) → is_asked x ≡ true → counts_for s x ≡ true) → Marks is_asked p s tasks →
    list_any (λ x. is_asked x && p (place_number x.place)) tasks ≡ list_any p (numbers_of s tasks)
any_marked is_asked p s tasks among marks =
    sym (any_same (λ (x : Task). is_asked x && (p (place_number x.place) && true))
    (λ (x : Task). is_asked x && p (place_number x.place)) tasks
    (λ x. ap (λ b. is_asked x && b) (and_true (p (place_number x.place)))))
    ∙ marked_pass is_asked p s tasks among marks (λ k. true)
    ∙ any_same (λ k. p k && true) p (numbers_of s tasks) (λ k. and_true (p k))

suspect_counts : (s : Service) (x : Task) → is_suspect s x ≡ true → counts_for s x ≡ true
suspect_counts s x e = first_so (counts_for s x) (is_live_dirty s x || closes_dirty s x) e

suspect_marks : (t : Tables) (s : Service) (p : ℕ → Bool) → ((k : ℕ) → p k ≡ true → is_dirty_place t s k ≡ true) →
    Marks (is_suspect s) p s t.tasks
suspect_marks t s p dirty k passes =
    let x = suspect_in t s k (dirty k passes) in
    let placed = Has-filter_cases (is_in_place s (place_at s.spec.mode k)) t.tasks x.0 x.1 in (
      x.0,
      placed.0,
      both_true (counts_for s x.0) (is_live_dirty s x.0 || closes_dirty s x.0)
          (first_so (counts_for s x.0) (same_place x.0.place (place_at s.spec.mode k)) placed.1) x.2,
      at_number s k x.0 placed.1,
    )

pub any_suspect : (t : Tables) (s : Service) (p : ℕ → Bool) →
    ((k : ℕ) → p k ≡ true → is_dirty_place t s k ≡ true) →
    list_any (λ x. is_suspect s x && p (place_number x.place)) t.tasks ≡ list_any p (place_numbers t s)
any_suspect t s p dirty =
    any_marked (is_suspect s) p s t.tasks (suspect_counts s) (suspect_marks t s p dirty)

-- a place of the service is dirty
pub suspects : (t : Tables) (s : Service) →
    list_any (λ x. is_suspect s x && is_dirty_place t s (place_number x.place)) t.tasks ≡ has_dirty_place t s
suspects t s = any_suspect t s (is_dirty_place t s) (λ k dirty. dirty)
