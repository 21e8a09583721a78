-- What one task more says of the numbers of a service's places, and of each place.
use Rattle.std.proofs.Common.{◌≡◌, ◌⊎◌, inl, inr, ℕ, Bool, true, false, cond, eqb, ltb, List, [], ◌∷◌, ◌++◌, refl, sym, ap, subst, ◌∙◌, arith}
use Rattle.std.proofs.lemmas.Bool.Decides.{nat_tests}
use Rattle.std.proofs.lemmas.List.Elements.{filter-append}
use Rattle.std.proofs.lemmas.List.Folds.{list_any-append}
use Rattle.std.proofs.lemmas.List.Sums.{fold-append}
use Rattle.std.specs.List.{list_any, last_or}
use Rattle.std.specs.Prelude.{◌||◌, ◌&&◌, None, Some, Option, filter, fold}
use Rattle.swarm_objects.specs.Rows.{is_some_and, itself, with_number, IsRising}
use Rattle.swarm_objects.specs.Same.{same_place}
use Rattle.swarm_objects.specs.Tasks.Places.{closes, counts_for, is_in_place, newest, numbers_of, place_at, place_number}
use Rattle.swarm_objects.specs.Tasks.Words.{is_live}
use Rattle.swarm_objects.specs.declared.services.Mode.{Mode}
use Rattle.swarm_objects.specs.declared.services.Mode.TheVariants as mode
use Rattle.swarm_objects.specs.declared.services.Service.{Service}
use Rattle.swarm_objects.specs.declared.tasks.Place.{Place}
use Rattle.swarm_objects.specs.declared.tasks.Place.TheVariants.{On, Slot}
use Rattle.swarm_objects.specs.declared.tasks.Task.{Task}
use Rattle.swarm_objects.proofs.Gaps.{IsRising-with_row}
use Rattle.role_words.specs.Marks.{has_number, mark_of, mark_with, stands, tasks_at}
use Rattle.role_words.specs.declared.window.Mark.{Mark}

pub same_number : (k j : ℕ) → eqb k j ≡ true → k ≡ j
same_number k j e = grind (arith, nat_tests)

pub number_equal : (k j : ℕ) → k ≡ j → eqb k j ≡ true
number_equal k j e = grind (arith, nat_tests)

pub and_left : (a b : Bool) → (a && b) ≡ true → a ≡ true
and_left true b e = refl
and_left false b e = e

pub and_right : (a b : Bool) → (a && b) ≡ true → b ≡ true
and_right true b e = e
and_right false b e = absurd cc

or_cases : (a b : Bool) → (a || b) ≡ true → (a ≡ true) ⊎ (b ≡ true)
or_cases true b e = inl refl
or_cases false b e = inr e

or_true : (a b : Bool) → b ≡ true → (a || b) ≡ true
or_true true b e = refl
or_true false b e = e

pub or_false : (b : Bool) → (b || false) ≡ b
or_false true = refl
or_false false = refl

or_twice : (a b c : Bool) → a ≡ b → (a || c) ≡ (a || (b || c))
or_twice true b c e = refl
or_twice false true c e = absurd cc
or_twice false false c e = refl

or_turned : (a b c : Bool) → (a || (b || c)) ≡ (b || (a || c))
or_turned true true c = refl
or_turned true false c = refl
or_turned false true c = refl
or_turned false false c = refl

any_with : (p : ℕ → Bool) (k : ℕ) (ks : List ℕ) → list_any p (with_number k ks) ≡ (p k || list_any p ks)
any_with p k [] = refl
any_with p k (j ∷ js) = go (ltb k j) (eqb k j) (same_number k j) (any_with p k js)
  where
    go : (a b : Bool) → (b ≡ true → k ≡ j) → list_any p (with_number k js) ≡ (p k || list_any p js) →
        list_any p (cond a (k ∷ j ∷ js) (cond b (k ∷ js) (j ∷ with_number k js))) ≡ (p k || (p j || list_any p js))
    go true b same e = refl
    go false true same e = or_twice (p k) (p j) (list_any p js) (ap p (same refl))
    go false false same e = ap (λ c. p j || c) e ∙ or_turned (p j) (p k) (list_any p js)

-- The numbers.

abbrev put_number : List ℕ → Task → List ℕ
put_number ks t = with_number (place_number t.place) ks

numbers_more : (s : Service) (tasks : List Task) (x : Task) → numbers_of s (tasks ++ x ∷ [])
    ≡ cond (counts_for s x) (with_number (place_number x.place) (numbers_of s tasks)) (numbers_of s tasks)
numbers_more s tasks x =
    ap (fold put_number []) (filter-append (counts_for s) tasks (x ∷ [])) ∙ go (counts_for s x)
  where
    go : (b : Bool) → fold put_number [] (filter (counts_for s) tasks ++ cond b (x ∷ []) [])
        ≡ cond b (with_number (place_number x.place) (numbers_of s tasks)) (numbers_of s tasks)
    go true = fold-append put_number [] (filter (counts_for s) tasks) (x ∷ [])
    go false = fold-append put_number [] (filter (counts_for s) tasks) []

has_more : (s : Service) (tasks : List Task) (x : Task) (k : ℕ) → has_number s (tasks ++ x ∷ []) k
    ≡ ((counts_for s x && eqb (place_number x.place) k) || has_number s tasks k)
has_more s tasks x k = ap (list_any (λ j. eqb j k)) (numbers_more s tasks x) ∙ go (counts_for s x)
  where
    go : (b : Bool) → list_any (λ j. eqb j k)
        (cond b (with_number (place_number x.place) (numbers_of s tasks)) (numbers_of s tasks))
        ≡ ((b && eqb (place_number x.place) k) || has_number s tasks k)
    go true = any_with (λ j. eqb j k) (place_number x.place) (numbers_of s tasks)
    go false = refl

pub has_cases : (s : Service) (tasks : List Task) (x : Task) (k : ℕ) → has_number s (tasks ++ x ∷ []) k ≡ true
    → ((counts_for s x ≡ true) × (place_number x.place ≡ k)) ⊎ (has_number s tasks k ≡ true)
has_cases s tasks x k e =
    elim (or_cases (counts_for s x && eqb (place_number x.place) k) (has_number s tasks k)
    (sym (has_more s tasks x k) ∙ e)) [
      | inl both ↦ inl (
        and_left (counts_for s x) (eqb (place_number x.place) k) both,
        same_number (place_number x.place) k (and_right (counts_for s x) (eqb (place_number x.place) k) both),
      )
      | inr old ↦ inr old
    ]

pub has_keeps : (s : Service) (tasks : List Task) (x : Task) (k : ℕ) → has_number s tasks k ≡ true
    → has_number s (tasks ++ x ∷ []) k ≡ true
has_keeps s tasks x k e =
    has_more s tasks x k ∙ or_true (counts_for s x && eqb (place_number x.place) k) (has_number s tasks k) e

pub has_new : (s : Service) (tasks : List Task) (x : Task) (k : ℕ) → counts_for s x ≡ true → place_number x.place ≡ k
    → has_number s (tasks ++ x ∷ []) k ≡ true
has_new s tasks x k counts is =
    has_more s tasks x k
    ∙ ap (λ b. (b && eqb (place_number x.place) k) || has_number s tasks k) counts
    ∙ ap (λ b. b || has_number s tasks k) (number_equal (place_number x.place) k is)

folded_rising : (ns : List ℕ) (tasks : List Task) → IsRising itself ns → IsRising itself (fold put_number ns tasks)
folded_rising ns [] r = r
folded_rising ns (x ∷ tasks) r =
    folded_rising (with_number (place_number x.place) ns) tasks (IsRising-with_row itself (place_number x.place) ns r)

pub numbers-rising : (s : Service) (tasks : List Task) → IsRising itself (numbers_of s tasks)
numbers-rising s tasks = folded_rising [] (filter (counts_for s) tasks) tt

-- The places.

pub one_place : (a b : Place) → same_place a b ≡ true → place_number a ≡ place_number b
one_place (Slot k) (Slot j) e = same_number k j e
one_place (Slot k) (On j) e = absurd cc
one_place (On k) (Slot j) e = absurd cc
one_place (On k) (On j) e = same_number k j e

pub number_at : (m : Mode) (k : ℕ) → place_number (place_at m k) ≡ k
number_at (mode.Replicated n) k = refl
number_at mode.Global k = refl
number_at (mode.Job c n) k = refl

abbrev pub mark : Bool → Bool → Bool → Mark
mark a b c = record { has_task = a; is_live = b; is_closed = c }

pub same_mark : (a d b e c f : Bool) → a ≡ d → b ≡ e → c ≡ f → mark a b c ≡ mark d e f
same_mark a d b e c f p q r = ap (λ x. mark x b c) p ∙ ap (λ x. mark d x c) q ∙ ap (λ x. mark d e x) r

live_more : (tasks : List Task) (x : Task) (b : Bool)
    → list_any is_live (tasks ++ cond b (x ∷ []) []) ≡ (list_any is_live tasks || (b && is_live x))
live_more tasks x true =
    list_any-append is_live tasks (x ∷ []) ∙ ap (λ b. list_any is_live tasks || b) (or_false (is_live x))
live_more tasks x false = list_any-append is_live tasks []

last_more : (o : Option Task) (tasks : List Task) (x : Task) (b : Bool)
    → last_or o (tasks ++ cond b (x ∷ []) []) ≡ cond b (Some x) (last_or o tasks)
last_more o [] x true = refl
last_more o [] x false = refl
last_more o (y ∷ tasks) x b = last_more (Some y) tasks x b

closed_more : (tasks : List Task) (x : Task) (b : Bool)
    → is_some_and closes (newest (tasks ++ cond b (x ∷ []) []))
    ≡ cond b (closes x) (is_some_and closes (newest tasks))
closed_more tasks x b = ap (is_some_and closes) (last_more None tasks x b) ∙ go b
  where
    go : (c : Bool) → is_some_and closes (cond c (Some x) (newest tasks))
        ≡ cond c (closes x) (is_some_and closes (newest tasks))
    go true = refl
    go false = refl

pub tasks_more : (s : Service) (tasks : List Task) (x : Task) (k : ℕ) → tasks_at s (tasks ++ x ∷ []) k
    ≡ tasks_at s tasks k ++ cond (is_in_place s (place_at s.spec.mode k) x) (x ∷ []) []
tasks_more s tasks x k = filter-append (is_in_place s (place_at s.spec.mode k)) tasks (x ∷ [])

-- a task more that counts, at the place of its number
pub mark_here : (s : Service) (tasks : List Task) (x : Task) (k : ℕ) → counts_for s x ≡ true → place_number x.place ≡ k
    → mark_of s (tasks ++ x ∷ []) k ≡ mark_with s x (mark_of s tasks k)
mark_here s tasks x k counts is =
    subst (λ n. mark_of s (tasks ++ x ∷ []) n ≡ mark_with s x (mark_of s tasks n)) is
    (same_mark _ _ _ _ _ _ (has_new s tasks x (place_number x.place) counts refl)
    (ap (list_any is_live) more ∙ live_more (tasks_at s tasks (place_number x.place)) x (stands s x))
    (ap (λ xs. is_some_and closes (newest xs)) more
    ∙ closed_more (tasks_at s tasks (place_number x.place)) x (stands s x)))
  where
    more : tasks_at s (tasks ++ x ∷ []) (place_number x.place)
        ≡ tasks_at s tasks (place_number x.place) ++ cond (stands s x) (x ∷ []) []
    more = tasks_more s tasks x (place_number x.place)

away : (s : Service) (x : Task) (k : ℕ) → ¬ ((counts_for s x ≡ true) × (place_number x.place ≡ k))
    → is_in_place s (place_at s.spec.mode k) x ≡ false
away s x k apart = go (is_in_place s (place_at s.spec.mode k) x) refl
  where
    go : (b : Bool) → is_in_place s (place_at s.spec.mode k) x ≡ b → b ≡ false
    go true e = absurd (apart (
      and_left (counts_for s x) (same_place x.place (place_at s.spec.mode k)) e,
      one_place x.place (place_at s.spec.mode k)
          (and_right (counts_for s x) (same_place x.place (place_at s.spec.mode k)) e)
          ∙ number_at s.spec.mode k,
    ))
    go false e = refl

no_more : (s : Service) (tasks : List Task) (x : Task) (k : ℕ)
    → ¬ ((counts_for s x ≡ true) × (place_number x.place ≡ k))
    → has_number s (tasks ++ x ∷ []) k ≡ has_number s tasks k
no_more s tasks x k apart =
    go (has_number s (tasks ++ x ∷ []) k) refl (has_number s tasks k) refl
  where
    go : (a : Bool) → has_number s (tasks ++ x ∷ []) k ≡ a → (b : Bool) → has_number s tasks k ≡ b → a ≡ b
    go true e true f = refl
    go true e false f =
        elim (has_cases s tasks x k e) [ inl both ↦ absurd (apart both) | inr old ↦ sym old ∙ f ]
    go false e true f = sym e ∙ has_keeps s tasks x k f
    go false e false f = refl

-- at all other places nothing changes
pub mark_away : (s : Service) (tasks : List Task) (x : Task) (k : ℕ)
    → ¬ ((counts_for s x ≡ true) × (place_number x.place ≡ k))
    → mark_of s (tasks ++ x ∷ []) k ≡ mark_of s tasks k
mark_away s tasks x k apart =
    same_mark _ _ _ _ _ _ (no_more s tasks x k apart)
    (ap (list_any is_live) same ∙ live_more (tasks_at s tasks k) x false ∙ or_false (list_any is_live (tasks_at s tasks k)))
    (ap (λ xs. is_some_and closes (newest xs)) same ∙ closed_more (tasks_at s tasks k) x false)
  where
    same : tasks_at s (tasks ++ x ∷ []) k ≡ tasks_at s tasks k ++ []
    same =
        tasks_more s tasks x k
        ∙ ap (λ b. tasks_at s tasks k ++ cond b (x ∷ []) []) (away s x k apart)
