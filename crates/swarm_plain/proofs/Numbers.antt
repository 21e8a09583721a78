-- Whether any of the numbers of a service's places passes a test.
use Rattle.std.proofs.Common.{◌≡◌, ℕ, Bool, true, false, cond, eqb, ltb, List, [], ◌∷◌, refl, sym, ap, ◌∙◌, arith}
use Rattle.std.specs.Prelude.{◌||◌, ◌&&◌, ◌==◌, filter, fold, not}
use Rattle.std.specs.List.{list_any}
use Rattle.std.proofs.lemmas.Bool.Decides.{nat_tests}
use Rattle.swarm_plain.proofs.AnyOf.{any_more, none_left, or_swap}
use Rattle.swarm_objects.proofs.Tests.{both, first_so, or_false, second_so}
use Rattle.swarm_objects.specs.Rows.{is_some_and, with_number}
use Rattle.swarm_objects.specs.Same.{same_place}
use Rattle.swarm_objects.specs.Tasks.Places.{closes, counts_for, has_other, is_held, is_held_place, is_in_place, newest, numbers_of, place_at, place_number, place_numbers, place_tasks, tasks_of_place}
use Rattle.swarm_objects.specs.Tasks.Words.{is_live}
use Rattle.swarm_objects.specs.World.{Tables}
use Rattle.swarm_objects.specs.declared.services.Mode.{Mode}
use Rattle.swarm_objects.specs.declared.services.Mode.TheVariants as mode
use Rattle.swarm_objects.specs.declared.services.Service.{Service}
use Rattle.swarm_objects.specs.declared.tasks.Place.{Place}
use Rattle.swarm_objects.specs.declared.tasks.Place.TheVariants.{On, Slot}
use Rattle.swarm_objects.specs.declared.tasks.Task.{Task}
use Rattle.swarm_plain.proofs.Passes.{any_both}

same_number : (k j : ℕ) → eqb k j ≡ true → k ≡ j
same_number k j e = grind (arith, nat_tests)

or_twice : (a b c : Bool) → a ≡ b → (a || c) ≡ (a || (b || c))
or_twice true b c e = refl
or_twice false true c e = absurd cc
or_twice false false c e = refl

or_turned : (a b c : Bool) → (a || (b || c)) ≡ (b || (a || c))
or_turned true true c = refl
or_turned true false c = refl
or_turned false true c = refl
or_turned false false c = refl

pub any_with : (p : ℕ → Bool) (k : ℕ) (ks : List ℕ) → list_any p (with_number k ks) ≡ (p k || list_any p ks)
any_with p k [] = refl
any_with p k (j ∷ js) = go (ltb k j) (eqb k j) (same_number k j) (any_with p k js)
  where
    go : (a b : Bool) → (b ≡ true → k ≡ j) → list_any p (with_number k js) ≡ (p k || list_any p js) →
        list_any p (cond a (k ∷ j ∷ js) (cond b (k ∷ js) (j ∷ with_number k js))) ≡ (p k || (p j || list_any p js))
    go true b same e = refl
    go false true same e = or_twice (p k) (p j) (list_any p js) (ap p (same refl))
    go false false same e = ap (λ c. p j || c) e ∙ or_turned (p j) (p k) (list_any p js)

any_fold : (p : ℕ → Bool) (tasks : List Task) (ks : List ℕ) →
    list_any p (fold (λ ks (t : Task). with_number (place_number t.place) ks) ks tasks)
    ≡ (list_any p ks || list_any (λ (t : Task). p (place_number t.place)) tasks)
any_fold p [] ks = sym (or_false (list_any p ks))
any_fold p (t ∷ tasks) ks =
    any_fold p tasks (with_number (place_number t.place) ks)
    ∙ ap (λ b. b || list_any (λ (x : Task). p (place_number x.place)) tasks) (any_with p (place_number t.place) ks)
    ∙ or_swap (p (place_number t.place)) (list_any p ks) (list_any (λ (x : Task). p (place_number x.place)) tasks)

-- a number passes exactly where that of a task that counts does
pub any_number : (p : ℕ → Bool) (s : Service) (tasks : List Task) →
    list_any (λ x. counts_for s x && p (place_number x.place)) tasks ≡ list_any p (numbers_of s tasks)
any_number p s tasks =
    any_both (counts_for s) (λ (x : Task). p (place_number x.place)) tasks
    ∙ sym (any_fold p (filter (counts_for s) tasks) [])

-- whether a row of the place passes, where the rows and the place were had first
pub any_at : (t : Tables) (s : Service) (k : ℕ) (rows : List Task) (p : Place) (test : Task → Bool) (found : Bool) →
    rows ≡ t.tasks → p ≡ place_at s.spec.mode k → found ≡ list_any (λ x. is_in_place s p x && test x) rows →
    found ≡ list_any test (place_tasks t s k)
any_at t s k rows p test found are is any =
    any
    ∙ any_both (is_in_place s p) test rows
    ∙ ap (λ q. list_any test (tasks_of_place s q rows)) is
    ∙ ap (λ xs. list_any test (tasks_of_place s (place_at s.spec.mode k) xs)) are

-- whether another live task stands in the task's place
pub any_beside : (t : Tables) (s : Service) (x : Task) (rows : List Task) (found : Bool) → rows ≡ t.tasks →
    found ≡ list_any (λ y. is_in_place s x.place y && (is_live y && not (y.id == x.id))) rows → found ≡ has_other t s x
any_beside t s x rows found are any =
    any
    ∙ any_both (is_in_place s x.place) (λ y. is_live y && not (y.id == x.id)) rows
    ∙ ap (λ xs. list_any (λ y. is_live y && not (y.id == x.id)) (tasks_of_place s x.place xs)) are

-- A place that is held has a number.

pub one_place : (a b : Place) → same_place a b ≡ true → place_number a ≡ place_number b
one_place (Slot k) (Slot j) e = same_number k j e
one_place (Slot k) (On j) e = absurd cc
one_place (On k) (Slot j) e = absurd cc
one_place (On k) (On j) e = same_number k j e

pub number_at : (m : Mode) (k : ℕ) → place_number (place_at m k) ≡ k
number_at (mode.Replicated n) k = refl
number_at mode.Global k = refl
number_at (mode.Job c n) k = refl

some_task : (s : Service) (p : Place) (tasks : List Task) → is_held s p tasks ≡ true →
    list_any (is_in_place s p) tasks ≡ true
some_task s p tasks e = go (list_any (is_in_place s p) tasks) (none_left (is_in_place s p) tasks)
  where
    empty : (xs : List Task) → xs ≡ [] → (list_any is_live xs || is_some_and closes (newest xs)) ≡ true → ⊥
    empty [] is held = cc
    empty (x ∷ xs) is held = cc

    go : (b : Bool) → (b ≡ false → filter (is_in_place s p) tasks ≡ []) → b ≡ true
    go true below = refl
    go false below = absurd (empty (filter (is_in_place s p) tasks) (below refl) e)

equal_number : (k j : ℕ) → j ≡ k → eqb k j ≡ true
equal_number k j e = grind (arith, nat_tests)

pub held_number : (t : Tables) (s : Service) (k : ℕ) → is_held_place t s k ≡ true →
    list_any (eqb k) (place_numbers t s) ≡ true
held_number t s k held =
    sym (any_number (eqb k) s t.tasks)
    ∙ any_more (is_in_place s (place_at s.spec.mode k)) (λ x. counts_for s x && eqb k (place_number x.place)) t.tasks
    (λ x e. both (counts_for s x) (eqb k (place_number x.place))
    (first_so (counts_for s x) (same_place x.place (place_at s.spec.mode k)) e)
    (equal_number k (place_number x.place)
    (one_place x.place (place_at s.spec.mode k)
    (second_so (counts_for s x) (same_place x.place (place_at s.spec.mode k)) e)
    ∙ number_at s.spec.mode k)))
    (some_task s (place_at s.spec.mode k) t.tasks held)

-- Rising numbers.
