-- Changes of rows by number, and a row more among them.
use Rattle.std.proofs.Common.{◌≡◌, ◌+◌, ◌≤◌, ℕ, Bool, true, false, cond, eqb, ltb, List, [], ◌∷◌, ◌++◌, length, Some, None, refl, sym, ap, ◌∙◌, arith}
use Rattle.std.proofs.lemmas.Bool.Decides.{nat_tests}
use Rattle.std.specs.List.{position_or_len}
use Rattle.std.specs.Prelude.{not, ◌==◌}
use Rattle.swarm_objects.proofs.RowLemmas.{change_row_above}
use Rattle.swarm_objects.specs.Rows.{IsBelow, IsRising, RisesFrom, change_row, drop_row, row_at, with_row}

pub rising_from : {X : Type 0} (key : X → ℕ) (n : ℕ) (rows : List X) → RisesFrom key n rows → IsRising key rows
rising_from key n [] r = tt
rising_from key n (x ∷ rows) r = r.1

-- no row with the number

pub change_row-None : {X : Type 0} (key : X → ℕ) (id : ℕ) (f : X → X) (rows : List X) → row_at key id rows ≡ None →
    change_row key id f rows ≡ rows
change_row-None key id f [] e = refl
change_row-None key id f (x ∷ rows) e = go (eqb (key x) id) e (change_row-None key id f rows)
  where
    go : (b : Bool) → cond b (Some x) (row_at key id rows) ≡ None →
        (row_at key id rows ≡ None → change_row key id f rows ≡ rows) →
        cond b (f x) x ∷ change_row key id f rows ≡ x ∷ rows
    go true k below = absurd cc
    go false k below = ap (λ zs. x ∷ zs) (below k)

pub drop_row-None : {X : Type 0} (key : X → ℕ) (id : ℕ) (rows : List X) → row_at key id rows ≡ None →
    drop_row key id rows ≡ rows
drop_row-None key id [] e = refl
drop_row-None key id (x ∷ rows) e = go (eqb (key x) id) e (drop_row-None key id rows)
  where
    go : (b : Bool) → cond b (Some x) (row_at key id rows) ≡ None →
        (row_at key id rows ≡ None → drop_row key id rows ≡ rows) →
        cond (not b) (x ∷ drop_row key id rows) (drop_row key id rows) ≡ x ∷ rows
    go true k below = absurd cc
    go false k below = ap (λ zs. x ∷ zs) (below k)

pub drop_row_above : {X : Type 0} (key : X → ℕ) (n i : ℕ) (rows : List X) → RisesFrom key n rows → i ≤ n → drop_row key i rows ≡ rows
drop_row_above key n i [] r le = refl
drop_row_above key n i (x ∷ rows) r le = grind (arith, nat_tests, drop_row_above key (key x) i rows r.1, r.0)

-- the number of rows before the first with the key
abbrev pub before : {X : Type 0} → (X → ℕ) → ℕ → List X → ℕ
before key k rows = position_or_len (λ row. key row == k) rows

pub none_or_all : {X : Type 0} (key : X → ℕ) (id : ℕ) (f : X → X) (rows : List X) →
    length rows ≤ before key id rows → rows ≡ change_row key id f rows
none_or_all key id f [] le = refl
none_or_all key id f (y ∷ ys) le = go (eqb (key y) id) (none_or_all key id f ys) le
  where
    go : (b : Bool) → (length ys ≤ before key id ys → ys ≡ change_row key id f ys) →
        length (y ∷ ys) ≤ cond (not b) (1 + before key id ys) 0 → y ∷ ys ≡ cond b (f y) y ∷ change_row key id f ys
    go true below l = absurd (omega arith)
    go false below l = ap (λ zs. y ∷ zs) (below (omega arith))

-- two changes that agree on the one row with the key
pub same_change : {X : Type 0} (key : X → ℕ) (id : ℕ) (f g : X → X) (rows : List X) (x : X) → IsRising key rows →
    row_at key id rows ≡ Some x → f x ≡ g x → change_row key id f rows ≡ change_row key id g rows
same_change key id f g [] x r e same = refl
same_change key id f g (y ∷ ys) x r e same =
    go (eqb (key y) id) refl (λ k. same_change key id f g ys x (rising_from key (key y) ys r) k same) e
  where
    go : (b : Bool) → eqb (key y) id ≡ b →
        (row_at key id ys ≡ Some x → change_row key id f ys ≡ change_row key id g ys) →
        cond b (Some y) (row_at key id ys) ≡ Some x →
        cond b (f y) y ∷ change_row key id f ys ≡ cond b (g y) y ∷ change_row key id g ys
    go true q below k =
        let le : id ≤ key y = grind (arith, nat_tests) in
        let is : y ≡ x = cc in
        let one : f y ≡ g y = ap f is ∙ same ∙ ap g (sym is) in
        ap (λ z. z ∷ change_row key id f ys) one
        ∙ ap (λ zs. g y ∷ zs)
        (change_row_above key (key y) id f ys r le ∙ sym (change_row_above key (key y) id g ys r le))
    go false q below k = ap (λ zs. y ∷ zs) (below k)

-- a row more

pub row_at-with_row : {X : Type 0} (key : X → ℕ) (id : ℕ) (new : X) (rows : List X) →
    row_at key id (with_row key new rows) ≡ cond (eqb (key new) id) (Some new) (row_at key id rows)
row_at-with_row key id new [] = refl
row_at-with_row key id new (x ∷ rows) =
    go (ltb (key new) (key x)) (eqb (key new) (key x)) refl (row_at-with_row key id new rows)
  where
    go : (a b : Bool) → eqb (key new) (key x) ≡ b →
        row_at key id (with_row key new rows) ≡ cond (eqb (key new) id) (Some new) (row_at key id rows) →
        row_at key id (cond a (new ∷ x ∷ rows) (cond b (new ∷ rows) (x ∷ with_row key new rows)))
        ≡ cond (eqb (key new) id) (Some new) (cond (eqb (key x) id) (Some x) (row_at key id rows))
    go true b e ih = refl
    go false true e ih = grind (arith, nat_tests)
    go false false e ih = grind (arith, nat_tests, ih)

-- a row whose id is above all others comes last
pub with_row_last : {X : Type 0} (key : X → ℕ) (new : X) (rows : List X) → IsBelow key (key new) rows → with_row key new rows ≡ rows ++ new ∷ []
with_row_last key new [] below = refl
with_row_last key new (x ∷ rows) below = go (ltb (key new) (key x)) refl (eqb (key new) (key x)) refl (with_row_last key new rows below.1)
  where
    go : (a : Bool) → ltb (key new) (key x) ≡ a → (b : Bool) → eqb (key new) (key x) ≡ b → with_row key new rows ≡ rows ++ new ∷ [] → cond a (new ∷ x ∷ rows) (cond b (new ∷ rows) (x ∷ with_row key new rows)) ≡ x ∷ (rows ++ new ∷ [])
    go true e b f rest = absurd (grind (arith, nat_tests, e, below.0))
    go false e true f rest = absurd (grind (arith, nat_tests, f, below.0))
    go false e false f rest = ap (λ zs. x ∷ zs) rest
