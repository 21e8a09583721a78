-- What a tally of all places of a service tells.
use Rattle.std.proofs.Common.{◌≡◌, ℕ, ◌+◌, ◌<◌, ◌≤◌, Bool, true, false, cond, eqb, ltb, List, [], ◌∷◌, refl, sym, ap, subst, ◌∙◌, arith, length, map, suc}
use Rattle.std.proofs.lemmas.Bool.Decides.{nat_tests}
use Rattle.std.proofs.lemmas.List.Sums.{count_by-le-length, length-filter}
use Rattle.std.specs.Prelude.{◌&&◌, filter, fold, if◌then◌else◌}
use Rattle.swarm_objects.specs.Rows.{first_gap, itself, with_number, IsRising, RisesFrom}
use Rattle.swarm_objects.specs.Tasks.Places.{has_live, held_places, is_held_place, numbers_of, place_number, counts_for}
use Rattle.swarm_objects.specs.World.{Tables}
use Rattle.swarm_objects.specs.declared.services.Service.{Service}
use Rattle.swarm_objects.specs.declared.tasks.Task.{Task}
use Rattle.swarm_objects.proofs.Gaps.{IsRising-filter}
use Rattle.role_words.specs.Slots.{held_numbers, slot_numbers, slot_of, slots}
use Rattle.role_words.specs.Tallies.{counted, empty, tally_of, Tells}
use Rattle.role_words.specs.declared.tallies.Tally.{Tally}
use Rattle.role_words.specs.declared.window.Slot.{Slot}
use Rattle.role_words.proofs.Numbers.{numbers-rising}
use Rattle.role_words.proofs.Stepping.{rises_from}

-- the numbers of those with a live task
abbrev live_numbers : List Slot → List ℕ
live_numbers [] = []
live_numbers (x ∷ xs) = if x.is_live then x.number ∷ live_numbers xs else live_numbers xs

held_is : (t : Tables) (s : Service) (ks : List ℕ)
    → held_numbers (map (slot_of s t.tasks) ks) ≡ filter (is_held_place t s) ks
held_is t s [] = refl
held_is t s (k ∷ ks) = ap (λ js. cond (is_held_place t s k) (k ∷ js) js) (held_is t s ks)

-- of all places of a service
pub held_all : (t : Tables) (s : Service) → held_numbers (slots s t.tasks) ≡ held_places t s
held_all t s = held_is t s (numbers_of s t.tasks)

numbers_are : (s : Service) (tasks : List Task) (ks : List ℕ) → slot_numbers (map (slot_of s tasks) ks) ≡ ks
numbers_are s tasks [] = refl
numbers_are s tasks (k ∷ ks) = ap (λ js. k ∷ js) (numbers_are s tasks ks)

pub all_numbers : (s : Service) (tasks : List Task) → slot_numbers (slots s tasks) ≡ numbers_of s tasks
all_numbers s tasks = numbers_are s tasks (numbers_of s tasks)

live_is : (t : Tables) (s : Service) (ks : List ℕ)
    → live_numbers (map (slot_of s t.tasks) ks) ≡ filter (has_live t s) ks
live_is t s [] = refl
live_is t s (k ∷ ks) = ap (λ js. cond (has_live t s k) (k ∷ js) js) (live_is t s ks)

counted_live : (tally : Tally) (xs : List Slot) → (fold counted tally xs).live ≡ tally.live + length (live_numbers xs)
counted_live tally [] = omega arith
counted_live tally (x ∷ xs) = counted_live (counted tally x) xs ∙ go x.is_live
  where
    go : (b : Bool) → cond b (tally.live + 1) tally.live + length (live_numbers xs)
        ≡ tally.live + length (cond b (x.number ∷ live_numbers xs) (live_numbers xs))
    go true = omega arith
    go false = refl

counted_held : (tally : Tally) (xs : List Slot) → (fold counted tally xs).held ≡ tally.held + length (held_numbers xs)
counted_held tally [] = omega arith
counted_held tally (x ∷ xs) = counted_held (counted tally x) xs ∙ go x.is_held
  where
    go : (b : Bool) → cond b (tally.held + 1) tally.held + length (held_numbers xs)
        ≡ tally.held + length (cond b (x.number ∷ held_numbers xs) (held_numbers xs))
    go true = omega arith
    go false = refl

-- rising numbers past the gap leave it
gap_stays : (gap k : ℕ) (ks : List ℕ) → RisesFrom itself k ks → gap ≤ k → first_gap gap ks ≡ gap
gap_stays gap k [] r le = refl
gap_stays gap k (j ∷ js) r le =
    let low : ltb j gap ≡ false = grind (arith, nat_tests, r.0) in
    let off : eqb j gap ≡ false = grind (arith, nat_tests, r.0) in
    ap (λ b. cond b (first_gap gap js) (cond (eqb j gap) (first_gap (gap + 1) js) gap)) low
    ∙ ap (λ b. cond b (first_gap (gap + 1) js) gap) off

gap_next : (gap k : ℕ) (ks : List ℕ) → IsRising itself (k ∷ ks)
    → first_gap (cond (eqb k gap) (gap + 1) gap) ks ≡ first_gap gap (k ∷ ks)
gap_next gap k ks r = go (ltb k gap) refl (eqb k gap) refl
  where
    go : (a : Bool) → ltb k gap ≡ a → (b : Bool) → eqb k gap ≡ b
        → first_gap (cond b (gap + 1) gap) ks ≡ cond a (first_gap gap ks) (cond b (first_gap (gap + 1) ks) gap)
    go true e true f = absurd (apart (let lt : k < gap = grind (arith, nat_tests) in lt) (let is : k ≡ gap = grind (arith, nat_tests) in is))
      where
        apart : k < gap → k ≡ gap → ⊥
        apart lt is = omega (arith, lt, is)
    go true e false f = refl
    go false e true f = refl
    go false e false f = let le : gap ≤ k = grind (arith, nat_tests) in gap_stays gap k ks r le

counted_gap : (tally : Tally) (xs : List Slot) → IsRising itself (held_numbers xs)
    → (fold counted tally xs).gap ≡ first_gap tally.gap (held_numbers xs)
counted_gap tally [] r = refl
counted_gap tally (x ∷ xs) r = go x.is_held refl (counted_gap (counted tally x) xs) r
  where
    go : (b : Bool) → x.is_held ≡ b
        → (IsRising itself (held_numbers xs) → (fold counted (counted tally x) xs).gap
        ≡ first_gap (counted tally x).gap (held_numbers xs))
        → IsRising itself (cond b (x.number ∷ held_numbers xs) (held_numbers xs))
        → (fold counted (counted tally x) xs).gap
        ≡ first_gap tally.gap (cond b (x.number ∷ held_numbers xs) (held_numbers xs))
    go true e below q =
        below (rises_from x.number (held_numbers xs) q)
        ∙ ap (λ b. first_gap (cond (b && eqb x.number tally.gap) (tally.gap + 1) tally.gap) (held_numbers xs)) e
        ∙ gap_next tally.gap x.number (held_numbers xs) q
    go false e below q =
        below q
        ∙ ap (λ b. first_gap (cond (b && eqb x.number tally.gap) (tally.gap + 1) tally.gap) (held_numbers xs)) e

held_rising : (t : Tables) (s : Service) → IsRising itself (held_places t s)
held_rising t s = IsRising-filter itself (is_held_place t s) (numbers_of s t.tasks) (numbers-rising s t.tasks)

from_none : (n : ℕ) → 0 + n ≡ n
from_none n = omega arith

tells_all : (from : ℕ) (t : Tables) (s : Service) → Tells (tally_of from (slots s t.tasks)) from t s
tells_all from t s = record {
  live =
      counted_live (empty from) (slots s t.tasks)
      ∙ from_none (length (live_numbers (slots s t.tasks)))
      ∙ ap length (live_is t s (numbers_of s t.tasks));
  held =
      counted_held (empty from) (slots s t.tasks)
      ∙ from_none (length (held_numbers (slots s t.tasks)))
      ∙ ap length (held_is t s (numbers_of s t.tasks));
  gap =
      counted_gap (empty from) (slots s t.tasks)
      (subst (IsRising itself) (sym (held_is t s (numbers_of s t.tasks))) (held_rising t s))
      ∙ ap (first_gap from) (held_is t s (numbers_of s t.tasks));
}

-- the same, of the rows of tasks that were had first
pub tells_rows : (from : ℕ) (t : Tables) (s : Service) (rows : List Task) (tally : Tally) → rows ≡ t.tasks
    → tally ≡ tally_of from (slots s rows) → Tells tally from t s
tells_rows from t s rows tally are is =
    subst (λ y. Tells y from t s) (sym (is ∙ ap (λ xs. tally_of from (slots s xs)) are)) (tells_all from t s)

-- There are no more places than tasks.

length-with_number : (k : ℕ) (ks : List ℕ) → length (with_number k ks) ≤ 1 + length ks
length-with_number k [] = omega arith
length-with_number k (j ∷ js) = go (ltb k j) (eqb k j) (length-with_number k js)
  where
    go : (a b : Bool) → length (with_number k js) ≤ 1 + length js
        → length (cond a (k ∷ j ∷ js) (cond b (k ∷ js) (j ∷ with_number k js))) ≤ 1 + length (j ∷ js)
    go true b le = omega arith
    go false true le = omega arith
    go false false le = omega (arith, le)

length-numbers : (ks : List ℕ) (tasks : List Task)
    → length (fold (λ js t. with_number (place_number t.place) js) ks tasks) ≤ length ks + length tasks
length-numbers ks [] = omega arith
length-numbers ks (x ∷ tasks) =
    omega (
      arith,
      length-numbers (with_number (place_number x.place) ks) tasks,
      length-with_number (place_number x.place) ks,
    )

length-filter_le : {X : Type 0} (p : X → Bool) (xs : List X) → length (filter p xs) ≤ length xs
length-filter_le p xs = rw (length-filter p xs) (count_by-le-length p xs)

length-map_is : {X Y : Type 0} (f : X → Y) (xs : List X) → length (map f xs) ≡ length xs
length-map_is f [] = refl
length-map_is f (x ∷ xs) = ap (λ n. suc n) (length-map_is f xs)

pub few_slots : (s : Service) (tasks : List Task) → length (slots s tasks) ≤ length tasks
few_slots s tasks =
    omega (
      arith,
      length-map_is (slot_of s tasks) (numbers_of s tasks),
      length-numbers [] (filter (counts_for s) tasks),
      length-filter_le (counts_for s) tasks,
    )

-- The counts stay below a bound while so many places are left.
pub record IsFew (bound left : ℕ) (tally : Tally) : Type 0 where
  pub live : tally.live + left ≤ bound
  pub held : tally.held + left ≤ bound
  pub gap : tally.gap + left ≤ bound

pub few_counted : (bound left : ℕ) (tally : Tally) (x : Slot) → IsFew bound (1 + left) tally
    → IsFew bound left (counted tally x)
few_counted bound left tally x few = record {
  live = go x.is_live tally.live few.live;
  held = go x.is_held tally.held few.held;
  gap = go (x.is_held && eqb x.number tally.gap) tally.gap few.gap;
}
  where
    go : (b : Bool) (n : ℕ) → n + (1 + left) ≤ bound → cond b (n + 1) n + left ≤ bound
    go true n le = omega (arith, le)
    go false n le = omega (arith, le)

few_begun : (from bound : ℕ) (s : Service) (tasks : List Task) → from + length tasks ≤ bound
    → IsFew bound (length (slots s tasks)) (empty from)
few_begun from bound s tasks le =
    let few = few_slots s tasks in
    record { live = omega (arith, few, le); held = omega (arith, few, le); gap = omega (arith, few, le) }

pub counting_all : (from : ℕ) (s : Service) (tasks : List Task) (tally : Tally) (xs : List Slot) → tally ≡ empty from
    → xs ≡ slots s tasks → fold counted tally xs ≡ tally_of from (slots s tasks)
counting_all from s tasks tally xs e f = ap (λ y. fold counted y xs) e ∙ ap (fold counted (empty from)) f

pub few_at_first : (from : ℕ) (s : Service) (tasks : List Task) (tally : Tally) (xs : List Slot) → tally ≡ empty from
    → xs ≡ slots s tasks → IsFew (from + length tasks) (length xs) tally
few_at_first from s tasks tally xs e f =
    subst (IsFew (from + length tasks) (length xs)) (sym e)
    (subst (λ ys. IsFew (from + length tasks) (length ys) (empty from)) (sym f)
    (few_begun from (from + length tasks) s tasks (omega arith)))
