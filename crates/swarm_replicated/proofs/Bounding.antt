-- At most as many places are held as ids were given out from the first task of the service on.
use Rattle.std.proofs.Common.{◌≡◌, ℕ, ◌+◌, ◌<◌, ◌≤◌, Bool, true, false, cond, ltb, List, [], ◌∷◌, Some, None, length, map, suc, refl, ap, ◌∙◌, arith}
use Rattle.std.proofs.lemmas.Bool.Decides.{nat_tests}
use Rattle.std.proofs.lemmas.List.Sums.{count_by-le-length, length-filter}
use Rattle.std.specs.Prelude.{filter, fold}
use Rattle.swarm_objects.specs.Rows.{row_above, task_id, with_number, IsBelow, RisesFrom}
use Rattle.swarm_objects.specs.Tasks.Places.{held_places, is_held_place, place_number, place_numbers, numbers_of}
use Rattle.swarm_objects.specs.Tasks.Words.{is_of}
use Rattle.swarm_objects.specs.Usable.{IsUsable}
use Rattle.swarm_objects.specs.World.{Tables}
use Rattle.swarm_objects.specs.declared.services.Service.{Service}
use Rattle.swarm_objects.specs.declared.tasks.Task.{Task}
use Rattle.swarm_objects.proofs.PlaceLemmas.{counted_of_service}
use Rattle.swarm_objects.proofs.RowLemmas.{RisesFrom-filter}
use Rattle.role_words.specs.Slots.{slot_of}
use Rattle.role_words.proofs.Tallying.{few_slots}

-- Rows by rising key, from the first one on.

few_above : {X : Type 0} (key : X → ℕ) (n bound : ℕ) (rows : List X) → RisesFrom key n rows → IsBelow key bound rows
    → n < bound → length rows + n < bound
few_above key n bound [] r b lt = omega (arith, lt)
few_above key n bound (x ∷ rows) r b lt =
    let rest = few_above key (key x) bound rows r.1 b.1 b.0 in omega (arith, rest, r.0)

above_zero : (n k : ℕ) → n < k → ltb 0 k ≡ true
above_zero n k lt = grind (arith, nat_tests, lt)

same_key : {X : Type 0} (key : X → ℕ) (x y : X) → Some x ≡ Some y → key x ≡ key y
same_key key x y e = cc

never : {X : Type 0} (x : X) → None ≡ Some x → ⊥
never x e = absurd cc

no_first : {X : Type 0} (key : X → ℕ) (rows : List X) → RisesFrom key 0 rows → None ≡ row_above key 0 rows
    → length rows ≤ 0
no_first key [] r e = omega arith
no_first key (x ∷ rows) r e =
    absurd (never x (e ∙ ap (λ b. cond b (Some x) (row_above key 0 rows)) (above_zero 0 (key x) r.0)))

from_first : {X : Type 0} (key : X → ℕ) (bound : ℕ) (rows : List X) (x : X) → RisesFrom key 0 rows
    → IsBelow key bound rows → Some x ≡ row_above key 0 rows → length rows + key x ≤ bound
from_first key bound [] x r b e = absurd cc
from_first key bound (y ∷ rows) x r b e =
    let same = same_key key x y
    (e ∙ ap (λ c. cond c (Some y) (row_above key 0 rows)) (above_zero 0 (key y) r.0)) in
    let rest = few_above key (key y) bound rows r.1 b.1 b.0 in
    omega (arith, rest, same)

IsBelow-filter : {X : Type 0} (key : X → ℕ) (bound : ℕ) (p : X → Bool) (rows : List X) → IsBelow key bound rows
    → IsBelow key bound (filter p rows)
IsBelow-filter key bound p [] b = tt
IsBelow-filter key bound p (x ∷ rows) b = go (p x) (IsBelow-filter key bound p rows b.1)
  where
    go : (c : Bool) → IsBelow key bound (filter p rows) → IsBelow key bound (cond c (x ∷ filter p rows) (filter p rows))
    go true k = (b.0, k)
    go false k = k

-- The places of a service, and its tasks.

length-filter_le : {X : Type 0} (p : X → Bool) (xs : List X) → length (filter p xs) ≤ length xs
length-filter_le p xs = rw (length-filter p xs) (count_by-le-length p xs)

length-map_is : {X Y : Type 0} (f : X → Y) (xs : List X) → length (map f xs) ≡ length xs
length-map_is f [] = refl
length-map_is f (x ∷ xs) = ap (λ n. suc n) (length-map_is f xs)

-- the service's tasks
abbrev own : Tables → Service → List Task
own t s = filter (is_of s.id) t.tasks

numbers_alone : (t : Tables) (s : Service) → numbers_of s (own t s) ≡ place_numbers t s
numbers_alone t s =
    ap (fold (λ ks (x : Task). with_number (place_number x.place) ks) []) (counted_of_service s t.tasks)

held_few : (t : Tables) (s : Service) → length (held_places t s) ≤ length (own t s)
held_few t s =
    omega (
      arith,
      length-filter_le (is_held_place t s) (place_numbers t s),
      ap length (numbers_alone t s),
      length-map_is (slot_of s (own t s)) (numbers_of s (own t s)),
      few_slots s (own t s),
    )

own_rise : (t : Tables) (s : Service) → IsUsable t → RisesFrom task_id 0 (own t s)
own_rise t s usable = RisesFrom-filter task_id 0 (is_of s.id) t.tasks usable.sound.ordered.tasks

pub held_none : (t : Tables) (s : Service) → IsUsable t → None ≡ row_above task_id 0 (filter (is_of s.id) t.tasks)
    → length (held_places t s) ≤ 0
held_none t s usable e = omega (arith, held_few t s, no_first task_id (own t s) (own_rise t s usable) e)

pub held_from : (t : Tables) (s : Service) (x : Task) → IsUsable t
    → Some x ≡ row_above task_id 0 (filter (is_of s.id) t.tasks) → length (held_places t s) + x.id ≤ t.next_id
held_from t s x usable e =
    let below = IsBelow-filter task_id t.next_id (is_of s.id) t.tasks usable.sound.below.tasks in
    omega (
      arith,
      held_few t s,
      from_first task_id t.next_id (own t s) x (own_rise t s usable) below e,
    )

pub ruleset bound_steps = (held_none, held_from)
