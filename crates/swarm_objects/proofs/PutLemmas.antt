-- Putting a row in the place of each with its key.
use Rattle.std.proofs.Common.{◌≡◌, ℕ, ◌+◌, ◌<◌, Bool, true, false, cond, eqb, List, [], ◌∷◌, ◌++◌, length, set, take, drop, add-one, zero, suc, Option, Some, None, refl, sym, ap, ◌∙◌, subst, arith, ◌≤◌}
use Rattle.std.specs.Prelude.{◌==◌, not, is_some}
use Rattle.std.specs.List.{position}
use Rattle.std.proofs.Math.Seq.{take-add}
use Rattle.std.proofs.lemmas.Grind.{common_steps}
use Rattle.std.proofs.lemmas.List.{append_assoc, drop-drop, length-drop, take-append-drop}
use Rattle.std.proofs.lemmas.List.Quantifiers.{position-Some}
use Rattle.swarm_objects.proofs.RowChanges.{before}
use Rattle.swarm_objects.specs.Rows.{change_row, put_row}

-- a write behind items that stay
pub set_behind : {X : Type 0} (xs rest : List X) (at : ℕ) (new : X) → at < length xs →
    set (take (at + 1) xs ++ rest) at new ≡ take at xs ++ new ∷ rest
set_behind [] rest at new lt = absurd (omega arith)
set_behind (y ∷ ys) rest zero new lt = refl
set_behind (y ∷ ys) rest (suc at) new lt =
    rw add-one (
    ap (λ zs. y ∷ zs) (
    ap (λ n. set (take n ys ++ rest) at new) (sym (add-one at)) ∙ set_behind ys rest at new (omega arith)
    )
    )

first_or_len : {X : Type 0} (key : X → ℕ) (k : ℕ) (new : X) (rows : List X) →
    let at = before key k rows in
    at < length rows →
    change_row key k (λ _. new) rows ≡ take at rows ++ new ∷ change_row key k (λ _. new) (drop (at + 1) rows)
first_or_len key k new [] lt = absurd (omega arith)
first_or_len key k new (x ∷ rows) lt = go (eqb (key x) k) (first_or_len key k new rows) lt
  where
    go : (b : Bool)
        → (before key k rows < length rows → change_row key k (λ _. new) rows ≡ take (before key k rows) rows ++ new ∷ change_row key k (λ _. new) (drop (before key k rows + 1) rows))
        → cond (not b) (1 + before key k rows) 0 < length (x ∷ rows)
        → cond b new x ∷ change_row key k (λ _. new) rows ≡
        take (cond (not b) (1 + before key k rows) 0) (x ∷ rows) ++ new ∷ change_row key k (λ _. new) (drop (cond (not b) (1 + before key k rows) 0 + 1) (x ∷ rows))
    go true below lt = refl
    go false below lt =
        let at = before key k rows in
        let one : suc at ≡ 1 + at = omega arith in
        let two : suc (at + 1) ≡ suc at + 1 = omega arith in
        subst (λ n. x ∷ change_row key k (λ _. new) rows ≡ take n (x ∷ rows) ++ new ∷ change_row key k (λ _. new) (drop (n + 1) (x ∷ rows))) one
        (ap (λ zs. x ∷ zs) (below (omega arith)) ∙ ap (λ n. x ∷ (take at rows ++ new ∷ change_row key k (λ _. new) (drop n (x ∷ rows)))) two)

all_or_none : {X : Type 0} (key : X → ℕ) (k : ℕ) (new : X) (rows : List X) →
    length rows ≤ before key k rows → change_row key k (λ _. new) rows ≡ rows
all_or_none key k new [] le = refl
all_or_none key k new (x ∷ rows) le = go (eqb (key x) k) (all_or_none key k new rows) le
  where
    go : (b : Bool)
        → (length rows ≤ before key k rows → change_row key k (λ _. new) rows ≡ rows)
        → length (x ∷ rows) ≤ cond (not b) (1 + before key k rows) 0
        → cond b new x ∷ change_row key k (λ _. new) rows ≡ x ∷ rows
    go true below le = absurd (omega arith)
    go false below le = ap (λ zs. x ∷ zs) (below (omega arith))

-- the rows before the first with the key stay, and it becomes the new one
pub put_first : {X : Type 0} (key : X → ℕ) (k : ℕ) (new : X) (rows : List X) (at : ℕ) →
    position (λ row. key row == k) rows ≡ Some at →
    change_row key k (λ _. new) rows ≡ take at rows ++ new ∷ change_row key k (λ _. new) (drop (at + 1) rows)
put_first key k new rows at e =
    let is : before key k rows ≡ at = grind (arith, common_steps) in
    let lt : before key k rows < length rows = grind (arith, common_steps) in
    subst (
    λ n. change_row key k (λ _. new) rows ≡ take n rows ++ new ∷ change_row key k (λ _. new) (drop (n + 1) rows)
    ) is (first_or_len key k new rows lt)

-- no row has the key
pub put_none : {X : Type 0} (key : X → ℕ) (k : ℕ) (new : X) (rows : List X) →
    position (λ row. key row == k) rows ≡ None → change_row key k (λ _. new) rows ≡ rows
put_none key k new rows e = all_or_none key k new rows (grind (arith, common_steps))

-- a write of the first row with the key, after the rows behind it
pub put_from : {X : Type 0} (key : X → ℕ) (k : ℕ) (new : X) (old rows : List X) (from skip : ℕ) → from ≤ length old →
    position (λ row. key row == k) (drop from old) ≡ Some skip →
    rows ≡ take (from + skip + 1) old ++ change_row key k (λ _. new) (drop (from + skip + 1) old) →
    set rows (from + skip) new ≡ take from old ++ change_row key k (λ _. new) (drop from old)
put_from key k new old rows from skip le e is =
    let s = position-Some (λ row. key row == k) (drop from old) skip new e in
    let lt : from + skip < length old = omega (arith, s.0, length-drop from old) in
    let tail : drop (skip + 1) (drop from old) ≡ drop (from + skip + 1) old =
    drop-drop (skip + 1) from old ∙ ap (λ n. drop n old) (omega arith) in
    ap (λ xs. set xs (from + skip) new) is
    ∙ set_behind old (change_row key k (λ _. new) (drop (from + skip + 1) old)) (from + skip) new lt
    ∙ ap (λ xs. xs ++ new ∷ change_row key k (λ _. new) (drop (from + skip + 1) old)) (take-add from skip old)
    ∙ append_assoc (take from old) (take skip (drop from old)) _
    ∙ ap (λ xs. take from old ++ (take skip (drop from old) ++ new ∷ change_row key k (λ _. new) xs)) (sym tail)
    ∙ ap (λ xs. take from old ++ xs) (sym (put_first key k new (drop from old) skip e))

-- where no row behind has the key
pub put_alone : {X : Type 0} (key : X → ℕ) (k : ℕ) (new : X) (old : List X) (n : ℕ) →
    position (λ row. key row == k) (drop n old) ≡ None → old ≡ take n old ++ change_row key k (λ _. new) (drop n old)
put_alone key k new old n e =
    sym (take-append-drop n old) ∙ ap (λ xs. take n old ++ xs) (sym (put_none key k new (drop n old) e))

-- the same, of what a slice says
pub put_nowhere : {X : Type 0} (key : X → ℕ) (new : X) (old slice : List X) (n k : ℕ) (found : Option ℕ) →
    slice ≡ old → k ≡ key new → found ≡ position (λ row. key row == k) (drop n slice) → found ≡ None →
    old ≡ take n old ++ put_row key new (drop n old)
put_nowhere key new old slice n k found same at is none =
    put_alone key (key new) new old n (
    subst (λ xs. position (λ row. key row == key new) (drop n xs) ≡ None) same (
    subst (λ j. position (λ row. key row == j) (drop n slice) ≡ None) at (sym is ∙ none)
    )
    )

pub put_somewhere : {X : Type 0} (key : X → ℕ) (new : X) (old slice rows : List X) (from k skip : ℕ) (found : Option ℕ) →
    slice ≡ old → k ≡ key new → found ≡ position (λ row. key row == k) (drop from slice) → found ≡ Some skip →
    from ≤ length old →
    rows ≡ take (from + skip + 1) old ++ put_row key new (drop (from + skip + 1) old) →
    set rows (from + skip) new ≡ take from old ++ put_row key new (drop from old)
put_somewhere key new old slice rows from k skip found same at is some le behind =
    put_from key (key new) new old rows from skip le (
    subst (λ xs. position (λ row. key row == key new) (drop from xs) ≡ Some skip) same (
    subst (λ j. position (λ row. key row == j) (drop from slice) ≡ Some skip) at (sym is ∙ some)
    )
    ) behind

pub none_there : {X : Type 0} (found : Option X) (b : Bool) → b ≡ is_some found → b ≡ false → found ≡ None
none_there None b is e = refl
none_there (Some x) b is e = absurd cc
