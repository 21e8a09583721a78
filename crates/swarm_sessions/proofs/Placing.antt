-- The place of a row among rising ones.
use Rattle.std.proofs.Common.{◌≡◌, ◌≤◌, ◌+◌, ℕ, zero, suc, Bool, true, false, cond, eqb, ltb, List, [], ◌∷◌, ◌++◌, add-one, drop, length, set, take, Option, Some, None, refl, sym, ap, ◌∙◌, subst, arith}
use Rattle.std.proofs.lemmas.Bool.Decides.{nat_tests}
use Rattle.std.specs.List.Sorted.{IsPartitionPoint}
use Rattle.std.specs.Prelude.{Err, map, not, Ok, OnErr, OnOk, Result, slice_get}
use Rattle.swarm_objects.proofs.Gaps.{IsRising-filter, IsRising-with_row}
use Rattle.swarm_objects.proofs.RowLemmas.{change_row_above, RisesFrom-map, row_at-None_below}
use Rattle.swarm_objects.proofs.RowChanges.{change_row-None, drop_row-None, rising_from}
use Rattle.swarm_objects.specs.Rows.{IsRising, RisesFrom, change_row, drop_row, is_some_and, row_at, rows_before, session_node, with_row}
use Rattle.swarm_objects.specs.declared.sessions.NodeSession.{NodeSession}
use Rattle.swarm_sessions.specs.OnRecord.{if_has}

-- Halving.

-- the point where the keys stop being lesser is the number of rows before it
pub parted_before : {X : Type 0} (key : X → ℕ) (k i : ℕ) (rows : List X) → i ≤ length rows →
    IsPartitionPoint (λ row. ltb (key row) k ≡ true) (λ row. ltb (key row) k ≡ false) rows i →
    i ≡ rows_before key k rows
parted_before key k zero [] le parted = refl
parted_before key k (suc i) [] le parted = absurd (omega (arith, le))
parted_before key k zero (x ∷ rows) le parted =
    sym (ap (λ b. cond b (suc (rows_before key k rows)) 0) (parted.1 0 x (omega arith) (omega arith)))
parted_before key k (suc i) (x ∷ rows) le parted =
    ap suc (parted_before key k i rows (omega (arith, le)) (
      λ j d lo hi. parted.0 (suc j) d (omega arith) (omega (arith, hi)),
      λ j d lo hi. parted.1 (suc j) d (omega (arith, lo)) (omega (arith, hi)),
    ))
    ∙ sym (ap (λ b. cond b (suc (rows_before key k rows)) 0) (parted.0 0 x (omega arith) (omega arith)))

-- Look-ups at that place.

less_differs : (n k : ℕ) → ltb n k ≡ true → eqb n k ≡ false
less_differs n k e = grind (arith, nat_tests, e)

none_behind : {X : Type 0} (key : X → ℕ) (k : ℕ) (x : X) (rows : List X) → RisesFrom key (key x) rows →
    ltb (key x) k ≡ false → row_at key k rows ≡ None
none_behind key k x rows r e = row_at-None_below key (key x) k rows r (grind (arith, nat_tests, e))

-- the row at that place is the one that is looked for, or it isn't there
pub found_there : (k : ℕ) (rows : List NodeSession) → IsRising session_node rows →
    if_has k (slice_get rows (rows_before session_node k rows)) ≡ row_at session_node k rows
found_there k [] r = refl
found_there k (x ∷ rows) r =
    go (ltb x.node k) refl (found_there k rows (rising_from session_node x.node rows r))
  where
    here : (b : Bool) → row_at session_node k rows ≡ None →
        cond b (Some x) None ≡ cond b (Some x) (row_at session_node k rows)
    here true none = refl
    here false none = sym none

    go : (a : Bool) → ltb x.node k ≡ a →
        if_has k (slice_get rows (rows_before session_node k rows)) ≡ row_at session_node k rows →
        if_has k (slice_get (x ∷ rows) (cond a (suc (rows_before session_node k rows)) 0))
        ≡ cond (eqb x.node k) (Some x) (row_at session_node k rows)
    go true e below =
        below ∙ sym (ap (λ b. cond b (Some x) (row_at session_node k rows)) (less_differs x.node k e))
    go false e below = here (eqb x.node k) (none_behind session_node k x rows r e)

-- a row at any place that has the key is the one that is looked for
pub found_early : (k i : ℕ) (rows : List NodeSession) (x : NodeSession) → IsRising session_node rows →
    Some x ≡ if_has k (slice_get rows i) → Some x ≡ row_at session_node k rows
found_early k i [] x r is = absurd cc
found_early k zero (y ∷ rows) x r is = go (eqb y.node k) is
  where
    go : (b : Bool) → Some x ≡ cond b (Some y) None → Some x ≡ cond b (Some y) (row_at session_node k rows)
    go true e = e
    go false e = absurd cc
found_early k (suc i) (y ∷ rows) x r is =
    go (eqb y.node k) refl (found_early k i rows x (rising_from session_node y.node rows r) is)
  where
    go : (b : Bool) → eqb y.node k ≡ b → Some x ≡ row_at session_node k rows →
        Some x ≡ cond b (Some y) (row_at session_node k rows)
    go true e below =
        let none = row_at-None_below session_node y.node k rows r (grind (arith, nat_tests, e)) in absurd cc
    go false e below = below

-- What becomes of the rows there.

not_less : (n k : ℕ) → ltb n k ≡ false → k ≤ n
not_less n k e = grind (arith, nat_tests, e)

renew_here : (k : ℕ) (f : NodeSession → NodeSession) (rows : List NodeSession) (x : NodeSession) →
    IsRising session_node rows → if_has k (slice_get rows (rows_before session_node k rows)) ≡ Some x →
    set rows (rows_before session_node k rows) (f x) ≡ change_row session_node k f rows
renew_here k f [] x r is = absurd cc
renew_here k f (z ∷ rows) x r is =
    go (ltb z.node k) refl is (renew_here k f rows x (rising_from session_node z.node rows r))
  where
    here : (b : Bool) → k ≤ z.node → cond b (Some z) None ≡ Some x →
        f x ∷ rows ≡ cond b (f z) z ∷ change_row session_node k f rows
    here true le e =
        let same : z ≡ x = cc in
        ap (λ w. f w ∷ rows) (sym same)
        ∙ ap (λ zs. f z ∷ zs) (sym (change_row_above session_node z.node k f rows r le))
    here false le e = absurd cc

    go : (a : Bool) → ltb z.node k ≡ a →
        if_has k (slice_get (z ∷ rows) (cond a (suc (rows_before session_node k rows)) 0)) ≡ Some x →
        (if_has k (slice_get rows (rows_before session_node k rows)) ≡ Some x →
        set rows (rows_before session_node k rows) (f x) ≡ change_row session_node k f rows) →
        set (z ∷ rows) (cond a (suc (rows_before session_node k rows)) 0) (f x)
        ≡ cond (eqb z.node k) (f z) z ∷ change_row session_node k f rows
    go true e i below =
        ap (λ zs. z ∷ zs) (below i)
        ∙ ap (λ b. cond b (f z) z ∷ change_row session_node k f rows) (sym (less_differs z.node k e))
    go false e i below = here (eqb z.node k) (not_less z.node k e) i

-- the same, as the code finds it
pub renewed : (k n : ℕ) (f : NodeSession → NodeSession) (rows seen again : List NodeSession) (x y : NodeSession) →
    IsRising session_node rows → seen ≡ rows → again ≡ rows → n ≡ rows_before session_node k seen →
    Some x ≡ if_has k (slice_get again n) → y ≡ f x → set rows n y ≡ change_row session_node k f rows
renewed k n f rows seen again x y r s a at is new =
    let m : n ≡ rows_before session_node k rows = at ∙ ap (rows_before session_node k) s in
    ap (λ i. set rows i y) m
    ∙ ap (set rows (rows_before session_node k rows)) new
    ∙ renew_here k f rows x r
    (ap (λ i. if_has k (slice_get rows i)) (sym m) ∙ ap (λ xs. if_has k (slice_get xs n)) (sym a) ∙ sym is)

pub not_renewed : (k n : ℕ) (f : NodeSession → NodeSession) (rows seen again : List NodeSession) →
    IsRising session_node rows → seen ≡ rows → again ≡ rows → n ≡ rows_before session_node k seen →
    None ≡ if_has k (slice_get again n) → rows ≡ change_row session_node k f rows
not_renewed k n f rows seen again r s a at is =
    let m : n ≡ rows_before session_node k rows = at ∙ ap (rows_before session_node k) s in
    sym (change_row-None session_node k f rows
    (sym (found_there k rows r) ∙ ap (λ i. if_has k (slice_get rows i)) (sym m)
    ∙ ap (λ xs. if_has k (slice_get xs n)) (sym a) ∙ sym is))

drop_row_above : (n k : ℕ) (rows : List NodeSession) → RisesFrom session_node n rows → k ≤ n →
    drop_row session_node k rows ≡ rows
drop_row_above n k [] r le = refl
drop_row_above n k (x ∷ rows) r le =
    let other : eqb x.node k ≡ false = grind (arith, nat_tests, r.0) in
    ap (λ b. cond (not b) (x ∷ drop_row session_node k rows) (drop_row session_node k rows)) other
    ∙ ap (λ zs. x ∷ zs) (drop_row_above x.node k rows r.1 (omega (arith, r.0)))

abbrev is_next : ℕ → List NodeSession → ℕ → Bool
is_next k rows n = is_some_and (λ row. eqb (session_node row) k) (slice_get rows n)

drop_here : (k : ℕ) (rows : List NodeSession) → IsRising session_node rows →
    is_next k rows (rows_before session_node k rows) ≡ true →
    take (rows_before session_node k rows) rows ++ drop (suc (rows_before session_node k rows)) rows
    ≡ drop_row session_node k rows
drop_here k [] r is = absurd cc
drop_here k (z ∷ rows) r is =
    go (ltb z.node k) refl is (drop_here k rows (rising_from session_node z.node rows r))
  where
    here : (b : Bool) → k ≤ z.node → b ≡ true →
        rows ≡ cond (not b) (z ∷ drop_row session_node k rows) (drop_row session_node k rows)
    here true le e = sym (drop_row_above z.node k rows r le)
    here false le e = absurd cc

    go : (a : Bool) → ltb z.node k ≡ a → is_next k (z ∷ rows) (cond a (suc (rows_before session_node k rows)) 0) ≡ true →
        (is_next k rows (rows_before session_node k rows) ≡ true →
        take (rows_before session_node k rows) rows ++ drop (suc (rows_before session_node k rows)) rows
        ≡ drop_row session_node k rows) →
        take (cond a (suc (rows_before session_node k rows)) 0) (z ∷ rows)
        ++ drop (suc (cond a (suc (rows_before session_node k rows)) 0)) (z ∷ rows)
        ≡ cond (not (eqb z.node k)) (z ∷ drop_row session_node k rows) (drop_row session_node k rows)
    go true e i below =
        ap (λ zs. z ∷ zs) (below i)
        ∙ ap (λ b. cond (not b) (z ∷ drop_row session_node k rows) (drop_row session_node k rows))
        (sym (less_differs z.node k e))
    go false e i below = here (eqb z.node k) (not_less z.node k e) i

pub dropped : (k n : ℕ) (rows seen again : List NodeSession) → IsRising session_node rows → seen ≡ rows →
    again ≡ rows → n ≡ rows_before session_node k seen → is_next k again n ≡ true →
    take n rows ++ drop (n + 1) rows ≡ drop_row session_node k rows
dropped k n rows seen again r s a at is =
    let m : n ≡ rows_before session_node k rows = at ∙ ap (rows_before session_node k) s in
    ap (λ i. take n rows ++ drop i rows) (add-one n)
    ∙ ap (λ i. take i rows ++ drop (suc i) rows) m
    ∙ drop_here k rows r (ap (is_next k rows) (sym m) ∙ ap (λ xs. is_next k xs n) (sym a) ∙ is)

none_at : (k : ℕ) (o : Option NodeSession) → is_some_and (λ row. eqb (session_node row) k) o ≡ false →
    if_has k o ≡ None
none_at k None e = refl
none_at k (Some x) e = ap (λ b. cond b (Some x) None) e

pub not_dropped : (k n : ℕ) (rows seen again : List NodeSession) → IsRising session_node rows → seen ≡ rows →
    again ≡ rows → n ≡ rows_before session_node k seen → is_next k again n ≡ false →
    rows ≡ drop_row session_node k rows
not_dropped k n rows seen again r s a at is =
    let m : n ≡ rows_before session_node k rows = at ∙ ap (rows_before session_node k) s in
    sym (drop_row-None session_node k rows
    (sym (found_there k rows r) ∙ ap (λ i. if_has k (slice_get rows i)) (sym m)
    ∙ none_at k (slice_get rows n) (ap (λ xs. is_next k xs n) (sym a) ∙ is)))

-- The rows still rise.

pub put_rises : {T E : Type 0} (result : Result T E) (row : NodeSession) (old new : List NodeSession) →
    IsRising session_node old → OnOk result (new ≡ with_row session_node row old) → OnErr result (new ≡ old) →
    IsRising session_node new
put_rises (Ok x) row old new r ok err =
    subst (IsRising session_node) (sym ok) (IsRising-with_row session_node row old r)
put_rises (Err e) row old new r ok err = subst (IsRising session_node) (sym err) r

pub drop_rises : (k : ℕ) (old new : List NodeSession) → IsRising session_node old →
    new ≡ drop_row session_node k old → IsRising session_node new
drop_rises k old new r e =
    subst (IsRising session_node) (sym e) (IsRising-filter session_node (λ row. not (eqb row.node k)) old r)

map_rises : (f : NodeSession → NodeSession) (rows : List NodeSession) → ((x : NodeSession) → (f x).node ≡ x.node) →
    IsRising session_node rows → IsRising session_node (map f rows)
map_rises f [] same r = tt
map_rises f (x ∷ rows) same r =
    subst (λ n. RisesFrom session_node n (map f rows)) (sym (same x)) (RisesFrom-map session_node x.node f rows same r)

pub change_rises : (k : ℕ) (f : NodeSession → NodeSession) (old new : List NodeSession) →
    ((x : NodeSession) → (f x).node ≡ x.node) → IsRising session_node old → new ≡ change_row session_node k f old →
    IsRising session_node new
change_rises k f old new same r e =
    subst (IsRising session_node) (sym e) (map_rises (λ x. cond (eqb x.node k) (f x) x) old keeps r)
  where
    keeps : (x : NodeSession) → (cond (eqb x.node k) (f x) x).node ≡ x.node
    keeps x = go (eqb x.node k)
      where
        go : (b : Bool) → (cond b (f x) x).node ≡ x.node
        go true = same x
        go false = refl
