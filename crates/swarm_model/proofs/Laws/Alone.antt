-- A new task is alone among the live tasks of its place.
use Rattle.std.proofs.Common.{Bool, List, [], ap, arith, false, inl, inr, refl, subst, sym, true, ℕ, ◌∙◌, ◌∷◌, ◌≡◌}
use Rattle.std.specs.Bool.{Decides}
use Rattle.std.specs.List.{list_any}
use Rattle.std.specs.Prelude.{filter, fold, not, ◌&&◌, ◌==◌, ◌||◌}
use Rattle.swarm_model.proofs.Laws.Kept.{IsNewOf, IsPlaceOf}
use Rattle.swarm_model.proofs.Moves.Duties.{good-next}
use Rattle.swarm_model.proofs.Moves.Tables.{good-new}
use Rattle.swarm_objects.proofs.Gaps.{Has-with_number_keeps, Has-with_row, IsRising-filter, IsRising-with_row, first_gap-free}
use Rattle.swarm_objects.proofs.RowLemmas.{Has-filter, Has-filter_cases}
use Rattle.swarm_objects.proofs.SameLemmas.{Decides-same_place}
use Rattle.swarm_objects.proofs.Tests.{first_so, neither_left, never-both, second_so}
use Rattle.swarm_objects.specs.Loops.Restart.{next_task}
use Rattle.swarm_objects.specs.Rows.{Has, IsRising, first_gap, itself, with_number}
use Rattle.swarm_objects.specs.Same.{same_place, same_template}
use Rattle.swarm_objects.specs.Services.Words.{is_job, is_live_clean}
use Rattle.swarm_objects.specs.Tasks.New.{new_task}
use Rattle.swarm_objects.specs.Tasks.Places.{counts_for, has_clean, held_places, is_held_place, is_in_place, place_at, place_number, place_numbers, place_tasks, tasks_of_place}
use Rattle.swarm_objects.specs.Tasks.Words.{is_live}
use Rattle.swarm_objects.specs.World.{Tables}
use Rattle.swarm_objects.specs.declared.services.Mode.TheVariants as mode
use Rattle.swarm_objects.specs.declared.services.Mode.{Mode}
use Rattle.swarm_objects.specs.declared.services.Service.{Service}
use Rattle.swarm_objects.specs.declared.tasks.Desired.{Desired}
use Rattle.swarm_objects.specs.declared.tasks.Place.{Place}
use Rattle.swarm_objects.specs.declared.tasks.Task.{Task}

-- Places that aren't held.

none-passes : {X : Type 0} (test : X → Bool) (xs : List X) (x : X) → Has xs x → list_any test xs ≡ false →
    test x ≡ false
none-passes test [] x h e = absurd h
none-passes test (y ∷ ys) x h e = go (test y) refl h e (none-passes test ys x)
  where
    go : (b : Bool) → test y ≡ b → Has (y ∷ ys) x → (b || list_any test ys) ≡ false →
        (Has ys x → list_any test ys ≡ false → test x ≡ false) → test x ≡ false
    go true t k none rest = absurd cc
    go false t (inl same) none rest = subst (λ z. test z ≡ false) same t
    go false t (inr k) none rest = rest k none

pub none-of-any : {X : Type 0} (test : X → Bool) (xs : List X) → list_any test xs ≡ false → (x : X) → Has xs x →
    test x ≡ false
none-of-any test xs e x h = none-passes test xs x h e

pub with-keeps : (numbers : List ℕ) (xs : List Task) (k : ℕ) → Has numbers k →
    Has (fold (λ ks t. with_number (place_number t.place) ks) numbers xs) k
with-keeps numbers [] k h = h
with-keeps numbers (x ∷ xs) k h =
    with-keeps (with_number (place_number x.place) numbers) xs k (Has-with_number_keeps
    (place_number x.place) k numbers h)

pub has-number : (numbers : List ℕ) (xs : List Task) (x : Task) → Has xs x →
    Has (fold (λ ks t. with_number (place_number t.place) ks) numbers xs) (place_number x.place)
has-number numbers [] x h = absurd h
has-number numbers (y ∷ ys) x (inl e) =
    with-keeps (with_number (place_number y.place) numbers) ys (place_number x.place)
    (subst (λ (z : Task). Has (with_number (place_number y.place) numbers) (place_number z.place)) e
    (Has-with_row itself (place_number y.place) numbers))
has-number numbers (y ∷ ys) x (inr h) = has-number (with_number (place_number y.place) numbers) ys x h

pub numbers-rise : (numbers : List ℕ) (xs : List Task) → IsRising itself numbers →
    IsRising itself (fold (λ ks t. with_number (place_number t.place) ks) numbers xs)
numbers-rise numbers [] rises = rises
numbers-rise numbers (x ∷ xs) rises =
    numbers-rise (with_number (place_number x.place) numbers) xs
    (IsRising-with_row itself (place_number x.place) numbers rises)

pub held-rise : (t : Tables) (s : Service) → IsRising itself (held_places t s)
held-rise t s =
    IsRising-filter itself (is_held_place t s) (place_numbers t s) (numbers-rise [] (filter (counts_for s) t.tasks) tt)

pub is-place : (p q : Place) → same_place p q ≡ true → p ≡ q
is-place p q e = go (same_place p q) (Decides-same_place p q) e
  where
    go : (b : Bool) → Decides b (p ≡ q) → b ≡ true → p ≡ q
    go true d k = d.0 refl
    go false d k = absurd cc

pub number-at : (m : Mode) (k : ℕ) → place_number (place_at m k) ≡ k
number-at (mode.Replicated n) k = refl
number-at mode.Global k = refl
number-at (mode.Job c n) k = refl

refuted : (b : Bool) → ¬ (b ≡ true) → b ≡ false
refuted true no_way = absurd (no_way refl)
refuted false no_way = refl

-- no live task stands in a place that isn't held
pub free-place : (t : Tables) (s : Service) (k : ℕ) → ¬ (Has (held_places t s) k) → (y : Task) → Has t.tasks y →
    is_in_place s (place_at s.spec.mode k) y ≡ true → is_live y ≡ false
free-place t s k free y h there =
    let counts = first_so (counts_for s y) (same_place y.place (place_at s.spec.mode k)) there in
    let at = is-place y.place (place_at s.spec.mode k) (second_so (counts_for s y)
    (same_place y.place (place_at s.spec.mode k)) there) in
    let is : place_number y.place ≡ k = ap place_number at ∙ number-at s.spec.mode k in
    let number : Has (place_numbers t s) k =
    subst (Has (place_numbers t s)) is (has-number [] (filter (counts_for s) t.tasks) y
    (Has-filter (counts_for s) t.tasks y h counts)) in
    let unheld : is_held_place t s k ≡ false =
    refuted (is_held_place t s k) (λ held. free (Has-filter (is_held_place t s) (place_numbers t s) k number held)) in
    none-of-any is_live (tasks_of_place s (place_at s.spec.mode k) t.tasks)
    (neither_left (list_any is_live (tasks_of_place s (place_at s.spec.mode k) t.tasks)) _ unheld) y
    (Has-filter (is_in_place s (place_at s.spec.mode k)) t.tasks y h there)

-- New tasks.

-- of no live task is the new one's place
pub new-alone : (version : ℕ) (t : Tables) (s : Service) (k : ℕ) (d : Desired) →
    ((y : Task) → Has t.tasks y → is_in_place s (place_at s.spec.mode k) y ≡ true → is_live y ≡ true →
    same_template y.template s.spec.template ≡ false) →
    IsNewOf t s (new_task version t s (place_at s.spec.mode k) d)
new-alone version t s k d alone = record {
  id = refl;
  service = refl;
  iteration = refl;
  template = refl;
  state = refl;
  addresses = refl;
  since = refl;
  created = refl;
  raise_at = omega arith;
  good = good-new version t s (place_at s.spec.mode k) d;
  goal = refl;
  place = inl (k, refl);
  alone = alone;
}

pub next-alone : (version : ℕ) (t : Tables) (s : Service) (p : Place) → IsPlaceOf t s p →
    ((y : Task) → Has t.tasks y → is_in_place s p y ≡ true → is_live y ≡ true →
    same_template y.template s.spec.template ≡ false) →
    IsNewOf t s (next_task version t s p)
next-alone version t s p place alone = record {
  id = refl;
  service = refl;
  iteration = refl;
  template = refl;
  state = refl;
  addresses = refl;
  since = refl;
  created = refl;
  raise_at = omega arith;
  good = good-next version t s p;
  goal = refl;
  place = place;
  alone = alone;
}

pub free-new : (version : ℕ) (t : Tables) (s : Service) (k : ℕ) (d : Desired) → ¬ (Has (held_places t s) k) →
    IsNewOf t s (new_task version t s (place_at s.spec.mode k) d)
free-new version t s k d free =
    new-alone version t s k d
    (λ y h there live. never-both (is_live y) (free-place t s k free y h there) live)

pub gap-new : (version : ℕ) (t : Tables) (s : Service) (from k : ℕ) (d : Desired) → k ≡ first_gap from
    (held_places t s) →
    IsNewOf t s (new_task version t s (place_at s.spec.mode k) d)
gap-new version t s from k d is =
    free-new version t s k d
    (subst (λ (z : ℕ). ¬ (Has (held_places t s) z)) (sym is) (first_gap-free from (held_places t s) (held-rise t s)))

-- a place that isn't held is none of those that are
pub unheld-new : (version : ℕ) (t : Tables) (s : Service) (k : ℕ) (d : Desired) → is_held_place t s k ≡ false →
    IsNewOf t s (new_task version t s (place_at s.spec.mode k) d)
unheld-new version t s k d unheld =
    free-new version t s k d
    (λ h. never-both (is_held_place t s k) unheld (Has-filter_cases (is_held_place t s) (place_numbers t s) k h).1)

-- a live task of a place without clean ones is dirty
pub dirty-new : (version : ℕ) (t : Tables) (s : Service) (k : ℕ) (d : Desired) → is_job s.spec.mode ≡ false →
    has_clean t s k ≡ false → IsNewOf t s (new_task version t s (place_at s.spec.mode k) d)
dirty-new version t s k d no_job none =
    new-alone version t s k d
    (λ y h there live.
    unclean (is_live y) (same_template y.template s.spec.template) (is_job s.spec.mode)
    (y.iteration == s.iteration) live no_job
    (none-of-any (is_live_clean s) (place_tasks t s k) none y
    (Has-filter (is_in_place s (place_at s.spec.mode k)) t.tasks y h there)))
  where
    unclean : (live same job now : Bool) → live ≡ true → job ≡ false → (live && (same && (not job || now))) ≡ false →
        same ≡ false
    unclean false same job now l j e = absurd cc
    unclean true true true now l j e = absurd cc
    unclean true true false now l j e = absurd cc
    unclean true false job now l j e = refl
