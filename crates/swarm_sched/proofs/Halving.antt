-- The row with a number, and its place, by halving.
use Rattle.std.proofs.Common.{◌≡◌, ◌∙◌, ◌<◌, ◌≤◌, ◌∷◌, ◌++◌, ℕ, zero, suc, Bool, Err, List, None, Ok, Result, Some, [], ap, arith, cond, drop, eqb, false, get_or, inl, inr, length, ltb, map, refl, subst, sym, take, true}
use Rattle.std.proofs.lemmas.Bool.Decides.{nat_tests}
use Rattle.std.proofs.lemmas.Fn.{always_returns_same}
use Rattle.std.specs.Borrow.{Bor}
use Rattle.std.specs.Fn.{Called, ComputesKey, Mut}
use Rattle.std.specs.List.Sorted.{IsBinarySearchResult, IsNonDecreasingBy, IsPartitionPoint, IsSearchInRange}
use Rattle.std.specs.Ordering.{nat_cmp, ordering_index}
use Rattle.std.specs.declared.cmp.Ordering.TheVariants.{Equal, Greater, Less}
use Rattle.std.specs.declared.cmp.Ordering.{Ordering}
use Rattle.swarm_objects.proofs.Halves.{any_start}
use Rattle.swarm_objects.proofs.RowLemmas.{number_above, row_at-Some}
use Rattle.swarm_objects.specs.Rows.{Has, IsRising, RisesFrom, node_id, row_at, with_row}
use Rattle.swarm_objects.specs.declared.nodes.Node.{Node}
use Rattle.swarm_sched.proofs.Branching.{at_place}
use Rattle.swarm_sched.specs.Inside.Classes.{entry_id}
use Rattle.swarm_sched.specs.Inside.Nearing.{IsPlace}
use Rattle.swarm_sched.specs.declared.classes.ClassedNode.{ClassedNode}

-- the entries rise as the nodes do
pub entries_rise : (low : ℕ) (sorted : List ClassedNode) (nodes : List Node) → map entry_id sorted ≡ map node_id nodes →
    RisesFrom node_id low nodes → RisesFrom entry_id low sorted
entries_rise low [] nodes same rises = tt
entries_rise low (c ∷ sorted) [] same rises = absurd cc
entries_rise low (c ∷ sorted) (n ∷ nodes) same rises =
    let ids : c.id ∷ map entry_id sorted ≡ n.id ∷ map node_id nodes = same in
    let id : c.id ≡ n.id = cc in
    let rest : map entry_id sorted ≡ map node_id nodes = cc in (
      subst (λ k. low < k) (sym id) rises.0,
      subst (λ k. RisesFrom entry_id k sorted) (sym id)
          (entries_rise n.id sorted nodes rest rises.1),
    )

pub from_any : {X : Type 0} (key : X → ℕ) (low : ℕ) (rows : List X) → RisesFrom key low rows → IsRising key rows
from_any key low [] rises = tt
from_any key low (x ∷ rows) rises = rises.1

abbrev order : {X : Type 0} → (X → ℕ) → ℕ → X → Ordering
order key k row = nat_cmp (key row) k

orders-rise : (a b k : ℕ) → a ≤ b → ordering_index (nat_cmp a k) ≤ ordering_index (nat_cmp b k)
orders-rise a b k le = grind (arith, nat_tests, le)

halves : {X : Type 0} (key : X → ℕ) (rows : List X) (k : ℕ) → IsRising key rows →
    IsNonDecreasingBy (λ row. ordering_index (order key k row)) rows
halves key rows k rises = λ i j d le lt.
    orders-rise (key (get_or rows i d)) (key (get_or rows j d)) k (any_start key rows rises i j d le lt)

row_is : {X : Type 0} (key : X → ℕ) (rows : List X) (x : X) → IsRising key rows → Has rows x →
    row_at key (key x) rows ≡ Some x
row_is key [] x rises h = absurd h
row_is key (y ∷ rows) x rises (inl e) = grind (arith, nat_tests, e)
row_is key (y ∷ rows) x rises (inr h) =
    grind (arith, nat_tests, number_above key (key y) rows x rises h, row_at-Some key (key y) rows x rises h)

none-of : {X : Type 0} (key : X → ℕ) (rows : List X) (k : ℕ) →
    ((j : ℕ) (d : X) → j < length rows → eqb (key (get_or rows j d)) k ≡ false) → row_at key k rows ≡ None
none-of key [] k each = refl
none-of key (x ∷ rows) k each =
    ap (λ b. cond b (Some x) (row_at key k rows)) (each 0 x (omega arith))
    ∙ none-of key rows k (λ j d lt. each (suc j) d (omega (arith, lt)))

abbrev Parts : {X : Type 0} → (X → ℕ) → ℕ → List X → ℕ → Type 0
Parts key k rows at = IsPartitionPoint (λ row. order key k row ≡ Less) (λ row. order key k row ≡ Greater) rows at

not-there : {X : Type 0} (key : X → ℕ) (rows : List X) (k at : ℕ) → Parts key k rows at → row_at key k rows ≡ None
not-there {X} key rows k at parted = none-of key rows k (λ j d lt. side j d lt (ltb j at) refl)
  where
    side : (j : ℕ) (d : X) → j < length rows → (b : Bool) → ltb j at ≡ b → eqb (key (get_or rows j d)) k ≡ false
    side j d lt true f =
        let less = parted.0 j d (omega arith) (grind (arith, nat_tests, f)) in grind (arith, nat_tests, less)
    side j d lt false f =
        let more = parted.1 j d (grind (arith, nat_tests, f)) lt in grind (arith, nat_tests, more)

inserted : {X : Type 0} (key : X → ℕ) (new : X) (at : ℕ) (rows : List X) → at ≤ length rows →
    Parts key (key new) rows at → take at rows ++ new ∷ drop at rows ≡ with_row key new rows
inserted key new zero [] le parted = refl
inserted key new (suc at) [] le parted = absurd (omega (arith, le))
inserted key new zero (x ∷ rows) le parted =
    let more : order key (key new) x ≡ Greater = parted.1 0 x (omega arith) (omega arith) in
    let lesser : ltb (key new) (key x) ≡ true = grind (arith, nat_tests, more) in
    rw lesser refl
inserted key new (suc at) (x ∷ rows) le parted =
    let less : order key (key new) x ≡ Less = parted.0 0 x (omega arith) (omega arith) in
    let greater : ltb (key new) (key x) ≡ false = grind (arith, nat_tests, less) in
    let differs : eqb (key new) (key x) ≡ false = grind (arith, nat_tests, less) in
    rw (greater, differs) (ap (λ zs. x ∷ zs) (inserted key new at rows (omega (arith, le)) (
      λ j d lo hi. parted.0 (suc j) d (omega arith) (omega (arith, hi)),
      λ j d lo hi. parted.1 (suc j) d (omega (arith, lo)) (omega (arith, hi)),
    )))

pub place_is : {X : Type 0} (key : X → ℕ) (rows : List X) (k : ℕ) (r : Result ℕ ℕ) → IsRising key rows →
    IsSearchInRange r (length rows) → IsBinarySearchResult (order key k) rows r → IsPlace key k rows r
place_is {X} key rows k (Ok at) rises lt equal = (lt, found)
  where
    found : (d : X) → row_at key k rows ≡ Some (get_or rows at d)
    found d =
        let is : order key k (get_or rows at d) ≡ Equal = equal d in
        let same : key (get_or rows at d) ≡ k = grind (arith, nat_tests, is) in
        ap (λ n. row_at key n rows) (sym same) ∙ row_is key rows (get_or rows at d) rises (at_place rows at d lt)
place_is {X} key rows k (Err at) rises le parts =
    let parted : Parts key k rows at = parts (halves key rows k rises) in
    (le, not-there key rows k at parted, λ new same. inserted key new at rows le (subst (λ n. Parts key n rows at) (sym same) parted))

-- what the search says, whose closure gives the row's number
pub searched : {X F : Type 0} (key : X → ℕ) {g : Mut F (Bor X × Unit {0}) ℕ} {f : F} (rows : List X) (k : ℕ)
    (r : Result ℕ ℕ) →
    ((by : X → ℕ) → ComputesKey g by f → IsBinarySearchResult (λ row. nat_cmp (by row) k) rows r) →
    ((a : Bor X × Unit {0}) (n : ℕ) (after : F) → Called g f a n after → (n ≡ key a.0.now) × (after ≡ f)) →
    IsBinarySearchResult (order key k) rows r
searched key {g = g} {f = f} rows k r found gives =
    found key (always_returns_same g (λ a n. n ≡ key a.0.now) f gives)
