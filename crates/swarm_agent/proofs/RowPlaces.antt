-- The place of an executor among those by rising task.
use Rattle.std.proofs.Common.{◌≡◌, ◌≤◌, ◌<◌, ◌+◌, ℕ, zero, suc, Bool, true, false, cond, eqb, leb, ltb, List, [], ◌∷◌, ◌++◌, add-one, drop, get_or, length, set, take, Option, Some, None, refl, sym, ap, ◌∙◌, subst, arith}
use Rattle.std.proofs.lemmas.Bool.Decides.{nat_tests}
use Rattle.std.specs.BTreeSet.{BTreeSet, contains}
use Rattle.std.specs.List.{insert}
use Rattle.std.specs.List.Sorted.{IsPartitionPoint}
use Rattle.std.specs.Ordering.{nat_cmp}
use Rattle.std.specs.Prelude.{Err, map, not, Ok, OnErr, OnOk, Result, slice_get}
use Rattle.swarm_agent.specs.Inside.Lookup.{of_task}
use Rattle.swarm_objects.proofs.Gaps.{IsRising-filter, IsRising-with_row}
use Rattle.swarm_objects.proofs.Orders.{before_at}
use Rattle.swarm_objects.proofs.RowChanges.{change_row-None, drop_row-None, drop_row_above, rising_from}
use Rattle.swarm_objects.proofs.RowLemmas.{RisesFrom-map, change_row_above, row_at-None_below, rows_above-all}
use Rattle.swarm_agent.specs.Inside.Named.{named_or_gone}
use Rattle.swarm_objects.specs.Agents.Executors.{is_late, moved}
use Rattle.swarm_objects.specs.Agents.Messages.{gone_executor}
use Rattle.swarm_objects.specs.Agents.NodeAgents.{lost}
use Rattle.swarm_objects.specs.declared.tasks.TaskState.TheVariants as state
use Rattle.swarm_objects.specs.Rows.{IsRising, RisesFrom, change_row, drop_row, executor_task, is_some_and, row_at, rows_above, rows_before, with_row}
use Rattle.swarm_objects.specs.declared.agents.Executor.{Executor}

-- Halving.

-- the point where the keys stop being lesser is the number of rows before it
pub parted_before : {X : Type 0} (key : X → ℕ) (k i : ℕ) (rows : List X) → i ≤ length rows →
    IsPartitionPoint (λ row. ltb (key row) k ≡ true) (λ row. ltb (key row) k ≡ false) rows i →
    i ≡ rows_before key k rows
parted_before key k zero [] le parted = refl
parted_before key k (suc i) [] le parted = absurd (omega (arith, le))
parted_before key k zero (x ∷ rows) le parted =
    sym (ap (λ b. cond b (suc (rows_before key k rows)) 0) (parted.1 0 x (omega arith) (omega arith)))
parted_before key k (suc i) (x ∷ rows) le parted =
    ap suc (parted_before key k i rows (omega (arith, le)) (
      λ j d lo hi. parted.0 (suc j) d (omega arith) (omega (arith, hi)),
      λ j d lo hi. parted.1 (suc j) d (omega (arith, lo)) (omega (arith, hi)),
    ))
    ∙ sym (ap (λ b. cond b (suc (rows_before key k rows)) 0) (parted.0 0 x (omega arith) (omega arith)))

not_above : (n k : ℕ) → leb n k ≡ true → ltb k n ≡ false
not_above n k e = grind (arith, nat_tests, e)

is_above : (n k : ℕ) → leb n k ≡ false → ltb k n ≡ true
is_above n k e = grind (arith, nat_tests, e)

from_above : (n k : ℕ) → leb n k ≡ false → k ≤ n
from_above n k e = grind (arith, nat_tests, e)

-- what is left from the point where the keys are above is the rows above
pub left_above : {X : Type 0} (key : X → ℕ) (k i : ℕ) (rows : List X) → IsRising key rows → i ≤ length rows →
    IsPartitionPoint (λ row. leb (key row) k ≡ true) (λ row. leb (key row) k ≡ false) rows i →
    drop i rows ≡ rows_above key k rows
left_above key k zero [] r le parted = refl
left_above key k (suc i) [] r le parted = absurd (omega (arith, le))
left_above key k zero (x ∷ rows) r le parted =
    let other : leb (key x) k ≡ false = parted.1 0 x (omega arith) (omega arith) in
    sym (ap (λ b. cond b (x ∷ rows_above key k rows) (rows_above key k rows)) (is_above (key x) k other)
    ∙ ap (λ zs. x ∷ zs) (rows_above-all key (key x) k rows r (from_above (key x) k other)))
left_above key k (suc i) (x ∷ rows) r le parted =
    let this : leb (key x) k ≡ true = parted.0 0 x (omega arith) (omega arith) in
    left_above key k i rows (rising_from key (key x) rows r) (omega (arith, le)) (
      λ j d lo hi. parted.0 (suc j) d (omega arith) (omega (arith, hi)),
      λ j d lo hi. parted.1 (suc j) d (omega (arith, lo)) (omega (arith, hi)),
    )
    ∙ sym (ap (λ b. cond b (x ∷ rows_above key k rows) (rows_above key k rows)) (not_above (key x) k this))

-- Look-ups at that place.

less_differs : (n k : ℕ) → ltb n k ≡ true → eqb n k ≡ false
less_differs n k e = grind (arith, nat_tests, e)

not_less : (n k : ℕ) → ltb n k ≡ false → k ≤ n
not_less n k e = grind (arith, nat_tests, e)

none_behind : {X : Type 0} (key : X → ℕ) (k : ℕ) (x : X) (rows : List X) → RisesFrom key (key x) rows →
    ltb (key x) k ≡ false → row_at key k rows ≡ None
none_behind key k x rows r e = row_at-None_below key (key x) k rows r (not_less (key x) k e)

-- the row at that place is the one that is looked for, or it isn't there
pub found_there : (k : ℕ) (rows : List Executor) → IsRising executor_task rows →
    of_task k (slice_get rows (rows_before executor_task k rows)) ≡ row_at executor_task k rows
found_there k [] r = refl
found_there k (x ∷ rows) r =
    go (ltb x.task k) refl (found_there k rows (rising_from executor_task x.task rows r))
  where
    here : (b : Bool) → row_at executor_task k rows ≡ None →
        cond b (Some x) None ≡ cond b (Some x) (row_at executor_task k rows)
    here true none = refl
    here false none = sym none

    go : (a : Bool) → ltb x.task k ≡ a →
        of_task k (slice_get rows (rows_before executor_task k rows)) ≡ row_at executor_task k rows →
        of_task k (slice_get (x ∷ rows) (cond a (suc (rows_before executor_task k rows)) 0))
        ≡ cond (eqb x.task k) (Some x) (row_at executor_task k rows)
    go true e below =
        below ∙ sym (ap (λ b. cond b (Some x) (row_at executor_task k rows)) (less_differs x.task k e))
    go false e below = here (eqb x.task k) (none_behind executor_task k x rows r e)

-- What becomes of the rows there.

abbrev is_next : ℕ → List Executor → ℕ → Bool
is_next k rows n = is_some_and (λ row. eqb (executor_task row) k) (slice_get rows n)

set_here : (k : ℕ) (new : Executor) (rows : List Executor) → IsRising executor_task rows →
    is_next k rows (rows_before executor_task k rows) ≡ true →
    (rows_before executor_task k rows < length rows)
    × (set rows (rows_before executor_task k rows) new ≡ change_row executor_task k (λ _. new) rows)
set_here k new [] r is = absurd cc
set_here k new (z ∷ rows) r is =
    go (ltb z.task k) refl is (set_here k new rows (rising_from executor_task z.task rows r))
  where
    here : (b : Bool) → k ≤ z.task → b ≡ true →
        new ∷ rows ≡ cond b new z ∷ change_row executor_task k (λ _. new) rows
    here true le e = ap (λ zs. new ∷ zs) (sym (change_row_above executor_task z.task k (λ _. new) rows r le))
    here false le e = absurd cc

    go : (a : Bool) → ltb z.task k ≡ a →
        is_next k (z ∷ rows) (cond a (suc (rows_before executor_task k rows)) 0) ≡ true →
        (is_next k rows (rows_before executor_task k rows) ≡ true →
        (rows_before executor_task k rows < length rows)
        × (set rows (rows_before executor_task k rows) new ≡ change_row executor_task k (λ _. new) rows)) →
        (cond a (suc (rows_before executor_task k rows)) 0 < length (z ∷ rows))
        × (set (z ∷ rows) (cond a (suc (rows_before executor_task k rows)) 0) new
        ≡ cond (eqb z.task k) new z ∷ change_row executor_task k (λ _. new) rows)
    go true e i below =
        let rest = below i in (
          omega (arith, rest.0),
          ap (λ zs. z ∷ zs) rest.1
              ∙ ap (λ b. cond b new z ∷ change_row executor_task k (λ _. new) rows) (sym (less_differs z.task k e)),
        )
    go false e i below = (omega arith, here (eqb z.task k) (not_less z.task k e) i)

-- the same, as the code finds it
pub set_at : (k n : ℕ) (new : Executor) (rows seen again : List Executor) → IsRising executor_task rows →
    seen ≡ rows → again ≡ rows → n ≡ rows_before executor_task k seen → is_next k again n ≡ true →
    (n < length rows) × (set rows n new ≡ change_row executor_task k (λ _. new) rows)
set_at k n new rows seen again r s a at is =
    let m : n ≡ rows_before executor_task k rows = at ∙ ap (rows_before executor_task k) s in
    subst (λ i. (i < length rows) × (set rows i new ≡ change_row executor_task k (λ _. new) rows)) (sym m)
    (set_here k new rows r (ap (is_next k rows) (sym m) ∙ ap (λ xs. is_next k xs n) (sym a) ∙ is))

none_at : (k : ℕ) (o : Option Executor) → is_some_and (λ row. eqb (executor_task row) k) o ≡ false →
    of_task k o ≡ None
none_at k None e = refl
none_at k (Some x) e = ap (λ b. cond b (Some x) None) e

none_there : (k n : ℕ) (rows seen again : List Executor) → IsRising executor_task rows → seen ≡ rows →
    again ≡ rows → n ≡ rows_before executor_task k seen → is_next k again n ≡ false →
    row_at executor_task k rows ≡ None
none_there k n rows seen again r s a at is =
    let m : n ≡ rows_before executor_task k rows = at ∙ ap (rows_before executor_task k) s in
    sym (found_there k rows r) ∙ ap (λ i. of_task k (slice_get rows i)) (sym m)
    ∙ none_at k (slice_get rows n) (ap (λ xs. is_next k xs n) (sym a) ∙ is)

pub not_set : (k n : ℕ) (new : Executor) (rows seen again : List Executor) → IsRising executor_task rows →
    seen ≡ rows → again ≡ rows → n ≡ rows_before executor_task k seen → is_next k again n ≡ false →
    rows ≡ change_row executor_task k (λ _. new) rows
not_set k n new rows seen again r s a at is =
    sym (change_row-None executor_task k (λ _. new) rows (none_there k n rows seen again r s a at is))

drop_here : (k : ℕ) (rows : List Executor) → IsRising executor_task rows →
    is_next k rows (rows_before executor_task k rows) ≡ true →
    take (rows_before executor_task k rows) rows ++ drop (suc (rows_before executor_task k rows)) rows
    ≡ drop_row executor_task k rows
drop_here k [] r is = absurd cc
drop_here k (z ∷ rows) r is =
    go (ltb z.task k) refl is (drop_here k rows (rising_from executor_task z.task rows r))
  where
    here : (b : Bool) → k ≤ z.task → b ≡ true →
        rows ≡ cond (not b) (z ∷ drop_row executor_task k rows) (drop_row executor_task k rows)
    here true le e = sym (drop_row_above executor_task z.task k rows r le)
    here false le e = absurd cc

    go : (a : Bool) → ltb z.task k ≡ a →
        is_next k (z ∷ rows) (cond a (suc (rows_before executor_task k rows)) 0) ≡ true →
        (is_next k rows (rows_before executor_task k rows) ≡ true →
        take (rows_before executor_task k rows) rows ++ drop (suc (rows_before executor_task k rows)) rows
        ≡ drop_row executor_task k rows) →
        take (cond a (suc (rows_before executor_task k rows)) 0) (z ∷ rows)
        ++ drop (suc (cond a (suc (rows_before executor_task k rows)) 0)) (z ∷ rows)
        ≡ cond (not (eqb z.task k)) (z ∷ drop_row executor_task k rows) (drop_row executor_task k rows)
    go true e i below =
        ap (λ zs. z ∷ zs) (below i)
        ∙ ap (λ b. cond (not b) (z ∷ drop_row executor_task k rows) (drop_row executor_task k rows))
        (sym (less_differs z.task k e))
    go false e i below = here (eqb z.task k) (not_less z.task k e) i

pub dropped : (k n : ℕ) (rows seen again : List Executor) → IsRising executor_task rows → seen ≡ rows →
    again ≡ rows → n ≡ rows_before executor_task k seen → is_next k again n ≡ true →
    take n rows ++ drop (n + 1) rows ≡ drop_row executor_task k rows
dropped k n rows seen again r s a at is =
    let m : n ≡ rows_before executor_task k rows = at ∙ ap (rows_before executor_task k) s in
    ap (λ i. take n rows ++ drop i rows) (add-one n)
    ∙ ap (λ i. take i rows ++ drop (suc i) rows) m
    ∙ drop_here k rows r (ap (is_next k rows) (sym m) ∙ ap (λ xs. is_next k xs n) (sym a) ∙ is)

pub not_dropped : (k n : ℕ) (rows seen again : List Executor) → IsRising executor_task rows → seen ≡ rows →
    again ≡ rows → n ≡ rows_before executor_task k seen → is_next k again n ≡ false →
    rows ≡ drop_row executor_task k rows
not_dropped k n rows seen again r s a at is =
    sym (drop_row-None executor_task k rows (none_there k n rows seen again r s a at is))

-- A row after the other is changed.

more_from : (f : Executor → Executor) (rows : List Executor) (i : ℕ) (d y : Executor) → i < length rows →
    y ≡ f (get_or rows i d) →
    take (suc i) (set rows i y) ++ map f (drop (suc i) (set rows i y)) ≡ take i rows ++ map f (drop i rows)
more_from f [] i d y lt is = absurd (omega (arith, lt))
more_from f (x ∷ rows) zero d y lt is = ap (λ z. z ∷ map f rows) is
more_from f (x ∷ rows) (suc i) d y lt is = ap (λ zs. x ∷ zs) (more_from f rows i d y (omega (arith, lt)) is)

pub more_changed : (f : Executor → Executor) (rows all : List Executor) (i : ℕ) (d y : Executor) → i < length rows →
    take i rows ++ map f (drop i rows) ≡ all → y ≡ f (get_or rows i d) →
    take (i + 1) (set rows i y) ++ map f (drop (i + 1) (set rows i y)) ≡ all
more_changed f rows all i d y lt so is =
    ap (λ n. take n (set rows i y) ++ map f (drop n (set rows i y))) (add-one i) ∙ more_from f rows i d y lt is ∙ so

-- what an insert makes is what stands before, the row and what stands behind
inserted : (n : ℕ) (row : Executor) (rows : List Executor) → insert rows n row ≡ take n rows ++ row ∷ drop n rows
inserted zero row rows = refl
inserted (suc n) row [] = refl
inserted (suc n) row (x ∷ rows) = ap (λ zs. x ∷ zs) (inserted n row rows)

pub put_at : (row : Executor) (n : ℕ) (rows seen again new : List Executor) → seen ≡ rows → again ≡ rows →
    n ≡ rows_before executor_task row.task seen → is_next row.task again n ≡ false → new ≡ insert rows n row →
    new ≡ with_row executor_task row rows
put_at row n rows seen again new s a at is made =
    made ∙ inserted n row rows
    ∙ (before_at executor_task row rows seen again n row.task row.task s a refl refl at is).1

-- The rows still rise.

pub put_rises : {T E : Type 0} (result : Result T E) (row : Executor) (old new : List Executor) →
    IsRising executor_task old → OnOk result (new ≡ with_row executor_task row old) → OnErr result (new ≡ old) →
    IsRising executor_task new
put_rises (Ok x) row old new r ok err =
    subst (IsRising executor_task) (sym ok) (IsRising-with_row executor_task row old r)
put_rises (Err e) row old new r ok err = subst (IsRising executor_task) (sym err) r

pub drop_rises : (k : ℕ) (old new : List Executor) → IsRising executor_task old →
    new ≡ drop_row executor_task k old → IsRising executor_task new
drop_rises k old new r e =
    subst (IsRising executor_task) (sym e) (IsRising-filter executor_task (λ row. not (eqb row.task k)) old r)

map_rises : (f : Executor → Executor) (rows : List Executor) → ((x : Executor) → (f x).task ≡ x.task) →
    IsRising executor_task rows → IsRising executor_task (map f rows)
map_rises f [] same r = tt
map_rises f (x ∷ rows) same r =
    subst (λ n. RisesFrom executor_task n (map f rows)) (sym (same x)) (RisesFrom-map executor_task x.task f rows same r)

-- after a change of all that leaves the tasks
pub all_rise : (f : Executor → Executor) (old seen new : List Executor) → ((x : Executor) → (f x).task ≡ x.task) →
    IsRising executor_task old → seen ≡ old → new ≡ map f seen → IsRising executor_task new
all_rise f old seen new same r s e = subst (IsRising executor_task) (sym (e ∙ ap (map f) s)) (map_rises f old same r)

-- after one took the place of that of its task
pub set_rises : (row : Executor) (old new : List Executor) → IsRising executor_task old →
    new ≡ change_row executor_task row.task (λ _. row) old → IsRising executor_task new
set_rises row old new r e =
    all_rise (λ x. cond (eqb x.task row.task) row x) old old new keeps r refl e
  where
    keeps : (x : Executor) → (cond (eqb x.task row.task) row x).task ≡ x.task
    keeps x = go (eqb x.task row.task) refl
      where
        go : (b : Bool) → eqb x.task row.task ≡ b → (cond b row x).task ≡ x.task
        go true e = grind (arith, nat_tests, e)
        go false e = refl

-- Changes of all that leave the tasks.

pub lost-task : (e : Executor) → (lost 0 e).task ≡ e.task
lost-task e = go (is_late e.state)
  where
    go : (b : Bool) → (cond b (moved 0 state.Failed e) e).task ≡ e.task
    go true = refl
    go false = refl

pub named-task : (named : BTreeSet ℕ) (e : Executor) → (named_or_gone named e).task ≡ e.task
named-task named e = go (contains nat_cmp named e.task)
  where
    go : (b : Bool) → (cond b e (gone_executor e)).task ≡ e.task
    go true = refl
    go false = refl
