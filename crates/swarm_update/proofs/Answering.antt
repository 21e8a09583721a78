-- The first place that is as a question asks, by the marks.
use Rattle.std.proofs.Common.{◌≡◌, ◌⊎◌, inl, inr, ℕ, ◌<◌, Bool, true, false, cond, eqb, List, [], ◌∷◌, Option, None, Some, refl, sym, ap, subst, ◌∙◌, arith}
use Rattle.std.specs.List.{list_any}
use Rattle.std.specs.Option.{IfSome}
use Rattle.std.proofs.lemmas.Bool.Decides.{nat_tests}
use Rattle.std.specs.Prelude.{◌||◌, filter, is_some}
use Rattle.swarm_objects.specs.Rows.{first_of, itself, IsRising, RisesFrom}
use Rattle.swarm_objects.specs.Tasks.Places.{has_dirty_place, place_numbers}
use Rattle.swarm_objects.specs.World.{Tables}
use Rattle.swarm_objects.specs.declared.services.Service.{Service}
use Rattle.swarm_objects.proofs.Tests.{or_cases}
use Rattle.role_words.specs.Marks.{has_number, tasks_at}
use Rattle.role_words.proofs.Dirty.{any_first}
use Rattle.role_words.proofs.Numbers.{numbers-rising, same_number}
use Rattle.role_words.proofs.Stepping.{rises_from}
use Rattle.swarm_update.specs.Marks.{answers, is_so, mark_at, mark_of, IsFirst, NoneBefore, ShowsPlaces}
use Rattle.swarm_update.specs.declared.marks.Places.{Places}
use Rattle.swarm_update.specs.declared.marks.Question.{Question}
use Rattle.swarm_update.specs.declared.marks.Question.TheVariants as question
use Rattle.swarm_update.specs.declared.marks.TheConstants.{WIDTH}
use Rattle.swarm_update.proofs.Marking.{are_numbered, true_false}

-- The first of rising numbers.

abbrev has : ℕ → List ℕ → Bool
has k ks = list_any (λ j. eqb j k) ks

has_above : (n k : ℕ) (ks : List ℕ) → RisesFrom itself n ks → has k ks ≡ true → n < k
has_above n k [] r e = absurd cc
has_above n k (j ∷ js) r e = elim (or_cases (eqb j k) (has k js) e) [
  | inl here ↦ let same : j ≡ k = same_number j k here in omega (arith, r.0, same)
  | inr there ↦ let above = has_above j k js r.1 there in omega (arith, r.0, above)
]

first_is : (p : ℕ → Bool) (ks : List ℕ) (k : ℕ) → IsRising itself ks → has k ks ≡ true → p k ≡ true
    → ((j : ℕ) → j < k → p j ≡ false) → first_of (filter p ks) ≡ Some k
first_is p [] k r e passes none = absurd cc
first_is p (j ∷ js) k r e passes none =
    go (p j) refl (or_cases (eqb j k) (has k js) e) (λ there. first_is p js k (rises_from j js r) there passes none)
  where
    go : (b : Bool) → p j ≡ b → (eqb j k ≡ true) ⊎ (has k js ≡ true)
        → (has k js ≡ true → first_of (filter p js) ≡ Some k)
        → first_of (cond b (j ∷ filter p js) (filter p js)) ≡ Some k
    go true f (inl here) below = ap Some (same_number j k here)
    go true f (inr there) below = absurd (true_false (p j) f (none j (has_above j k js r there)))
    go false f (inl here) below = absurd (true_false (p k) passes (sym (ap p (same_number j k here)) ∙ f))
    go false f (inr there) below = below there

later_or : (a b : Bool) → b ≡ true → (a || b) ≡ true
later_or true b e = refl
later_or false b e = e

none_is : (p : ℕ → Bool) (ks : List ℕ) → ((k : ℕ) → has k ks ≡ true → p k ≡ false)
    → first_of (filter p ks) ≡ None
none_is p [] none = refl
none_is p (j ∷ js) none = go (p j) refl (none_is p js (λ k e. none k (later k e)))
  where
    later : (k : ℕ) → has k js ≡ true → has k (j ∷ js) ≡ true
    later k e = later_or (eqb j k) (has k js) e

    here : has j (j ∷ js) ≡ true
    here = let self : eqb j j ≡ true = grind (arith, nat_tests) in ap (λ b. b || has j js) self

    go : (b : Bool) → p j ≡ b → first_of (filter p js) ≡ None
        → first_of (cond b (j ∷ filter p js) (filter p js)) ≡ None
    go true f below = absurd (true_false (p j) f (none j here))
    go false f below = below

-- By the marks.

so_is : (t : Tables) (s : Service) (q : Question) (k : ℕ)
    → answers q (mark_of t s (tasks_at s t.tasks k)) ≡ is_so t s q k
so_is t s question.Swap k = refl
so_is t s question.Replace k = refl
so_is t s question.Dirty k = refl

never : (t : Tables) (s : Service) (q : Question) → answers q (mark_of t s []) ≡ false
never t s question.Swap = refl
never t s question.Replace = refl
never t s question.Dirty = refl

answer_is : (v : Places) (t : Tables) (s : Service) (q : Question) (k : ℕ) → ShowsPlaces v t s t.tasks → k < WIDTH
    → answers q (mark_at v k) ≡ is_so t s q k
answer_is v t s q k h lt = ap (answers q) (h.marks k lt) ∙ so_is t s q k

so_has : (t : Tables) (s : Service) (q : Question) (k : ℕ) → is_so t s q k ≡ true → has_number s t.tasks k ≡ true
so_has t s q k e = go (has_number s t.tasks k) refl
  where
    go : (b : Bool) → has_number s t.tasks k ≡ b → b ≡ true
    go true f = refl
    go false f = absurd (true_false (is_so t s q k) e
        (sym (so_is t s q k) ∙ ap (λ xs. answers q (mark_of t s xs)) (are_numbered s t.tasks k f) ∙ never t s q))

abbrev pub first_so : Tables → Service → Question → Option ℕ
first_so t s q = first_of (filter (is_so t s q) (place_numbers t s))

pub found : (v : Places) (t : Tables) (s : Service) (q : Question) (o : Option ℕ) (k : ℕ)
    → ShowsPlaces v t s t.tasks → IfSome o (λ i. IsFirst v q i) → o ≡ Some k → Some k ≡ first_so t s q
found v t s q o k h some is =
    let first : IsFirst v q k = subst (λ a. IfSome a (λ i. IsFirst v q i)) is some in
    let so : is_so t s q k ≡ true = sym (answer_is v t s q k h first.within) ∙ first.is_so in
    sym (first_is (is_so t s q) (place_numbers t s) k (numbers-rising s t.tasks) (so_has t s q k so) so
    (λ j lt. let below : j < WIDTH = omega (arith, lt, first.within) in
    sym (answer_is v t s q j h below) ∙ first.none_before j lt below))

pub missing : (v : Places) (t : Tables) (s : Service) (q : Question) → ShowsPlaces v t s t.tasks
    → NoneBefore v.reach v q → v.has_far ≡ false → None ≡ first_so t s q
missing v t s q h none near =
    sym (none_is (is_so t s q) (place_numbers t s)
    (λ k e. let lt = h.far near k e in sym (answer_is v t s q k h lt) ∙ none k (h.reach k e lt) lt))

-- a place is dirty where one is the first such place
pub any_dirty : (t : Tables) (s : Service) (o : Option ℕ) → o ≡ first_so t s question.Dirty
    → is_some o ≡ has_dirty_place t s
any_dirty t s o e = ap is_some e ∙ any_first (is_so t s question.Dirty) (place_numbers t s)
