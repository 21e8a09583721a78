-- Changes of one row.
use Rattle.std.proofs.Common.{◌≡◌, ℕ, ◌+◌, ◌<◌, ◌≤◌, Bool, true, false, cond, eqb, List, [], ◌∷◌, length, get_or, set, drop, add-one, zero, suc, Option, None, Some, refl, sym, ap, ◌∙◌, subst, arith}
use Rattle.std.specs.Prelude.{◌==◌, not}
use Rattle.std.specs.List.{list_all, position}
use Rattle.std.proofs.lemmas.Bool.Decides.{nat_tests}
use Rattle.std.proofs.lemmas.Grind.{common_steps}
use Rattle.swarm_objects.proofs.RowLemmas.{change_row_above}
use Rattle.swarm_objects.proofs.Tests.{second_so}
use Rattle.swarm_objects.proofs.RowChanges.{before, none_or_all}
use Rattle.swarm_objects.specs.Rows.{RisesFrom, change_row, row_at}

-- two changes that do the same with the one row
pub change_one : {X : Type 0} (key : X → ℕ) (n id : ℕ) (f g : X → X) (rows : List X) (x : X) → RisesFrom key n rows →
    row_at key id rows ≡ Some x → f x ≡ g x → change_row key id f rows ≡ change_row key id g rows
change_one key n id f g [] x r at same = refl
change_one key n id f g (y ∷ rows) x r at same =
    go (eqb (key y) id) refl (λ k. change_one key (key y) id f g rows x r.1 k same) at
  where
    go : (b : Bool) → eqb (key y) id ≡ b →
        (row_at key id rows ≡ Some x → change_row key id f rows ≡ change_row key id g rows) →
        cond b (Some y) (row_at key id rows) ≡ Some x →
        cond b (f y) y ∷ change_row key id f rows ≡ cond b (g y) y ∷ change_row key id g rows
    go true t below k =
        let is : y ≡ x = cc in
        let le : id ≤ key y = grind (arith, nat_tests) in
        let here : f y ≡ g y = ap f is ∙ same ∙ ap g (sym is) in
        let left = change_row_above key (key y) id f rows r.1 le in
        let right = change_row_above key (key y) id g rows r.1 le in
        rw (here, left, right) refl
    go false t below k = ap (λ zs. y ∷ zs) (below k)

-- a change that leaves each row as it is
pub change_same : {X : Type 0} (key : X → ℕ) (id : ℕ) (rows : List X) → change_row key id (λ x. x) rows ≡ rows
change_same key id [] = refl
change_same key id (y ∷ rows) = go (eqb (key y) id) (change_same key id rows)
  where
    go : (b : Bool) → change_row key id (λ x. x) rows ≡ rows → cond b y y ∷ change_row key id (λ x. x) rows ≡ y ∷ rows
    go true below = ap (λ zs. y ∷ zs) below
    go false below = ap (λ zs. y ∷ zs) below

-- The row at an index.

index_or_len : {X : Type 0} (key : X → ℕ) (n id : ℕ) (f : X → X) (rows : List X) (x : X) → RisesFrom key n rows →
    let at = before key id rows in
    at < length rows → set rows at (f (get_or rows at x)) ≡ change_row key id f rows
index_or_len key n id f [] x r lt = absurd (omega arith)
index_or_len key n id f (y ∷ rows) x r lt = go (eqb (key y) id) refl (index_or_len key (key y) id f rows x r.1) lt
  where
    go : (b : Bool) → eqb (key y) id ≡ b →
        (before key id rows < length rows →
        set rows (before key id rows) (f (get_or rows (before key id rows) x)) ≡ change_row key id f rows) →
        cond (not b) (1 + before key id rows) 0 < length (y ∷ rows) →
        set (y ∷ rows) (cond (not b) (1 + before key id rows) 0)
        (f (get_or (y ∷ rows) (cond (not b) (1 + before key id rows) 0) x))
        ≡ cond b (f y) y ∷ change_row key id f rows
    go true t below lt =
        let le : id ≤ key y = grind (arith, nat_tests) in
        ap (λ zs. f y ∷ zs) (sym (change_row_above key (key y) id f rows r.1 le))
    go false t below lt =
        let at = before key id rows in
        let one : suc at ≡ 1 + at = omega arith in
        subst (λ k. set (y ∷ rows) k (f (get_or (y ∷ rows) k x)) ≡ y ∷ change_row key id f rows) one
        (ap (λ zs. y ∷ zs) (below (omega arith)))

-- a write of the first row with the key
pub change_at : {X : Type 0} (key : X → ℕ) (n id : ℕ) (f : X → X) (rows : List X) (x : X) (at : ℕ) →
    RisesFrom key n rows → Some at ≡ position (λ row. key row == id) rows → set rows at (f (get_or rows at x)) ≡ change_row key id f rows
change_at key n id f rows x at r e =
    let found : position (λ row. key row == id) rows ≡ Some at = sym e in
    let is : before key id rows ≡ at = grind (arith, common_steps) in
    let lt : before key id rows < length rows = grind (arith, common_steps) in
    subst (λ k. set rows k (f (get_or rows k x)) ≡ change_row key id f rows) is (index_or_len key n id f rows x r lt)

-- no row has the key
pub change_nowhere : {X : Type 0} (key : X → ℕ) (id : ℕ) (f : X → X) (rows : List X) →
    None ≡ position (λ row. key row == id) rows → rows ≡ change_row key id f rows
change_nowhere key id f rows e =
    let none : position (λ row. key row == id) rows ≡ None = sym e in
    none_or_all key id f rows (grind (arith, common_steps))

-- the same, of a search that gave none
pub change_unless : {X : Type 0} (key : X → ℕ) (id : ℕ) (f : X → X) (rows : List X) (found : Option ℕ) →
    found ≡ position (λ row. key row == id) rows → ((at : ℕ) → found ≡ Some at → ⊥) → rows ≡ change_row key id f rows
change_unless key id f rows None e none = change_nowhere key id f rows e
change_unless key id f rows (Some at) e none = absurd (none at refl)

-- The rows that a loop has still to go over.

pub all_next : {X : Type 0} (p : X → Bool) (rows : List X) (i : ℕ) → i < length rows → list_all p (drop i rows) ≡ true →
    list_all p (drop (i + 1) rows) ≡ true
all_next p [] i lt e = absurd (omega arith)
all_next p (y ∷ rows) zero lt e = second_so (p y) (list_all p rows) e
all_next p (y ∷ rows) (suc i) lt e =
    rw add-one (subst (λ n. list_all p (drop n rows) ≡ true) (add-one i) (all_next p rows i (omega arith) e))
