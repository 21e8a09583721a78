-- Looking up a row by halving.
use Rattle.std.proofs.Common.{◌≡◌, ◌≤◌, ℕ, zero, suc, Bool, true, false, cond, eqb, ltb, List, [], ◌∷◌, length, Option, Some, None, refl, sym, ap, ◌∙◌, arith}
use Rattle.std.proofs.lemmas.Bool.Decides.{nat_tests}
use Rattle.std.specs.List.{AllWithin}
use Rattle.std.specs.List.Sorted.{IsPartitionPoint}
use Rattle.std.specs.Prelude.{slice_get}
use Rattle.swarm_objects.proofs.RowLemmas.{row_at-None_below}
use Rattle.swarm_objects.specs.Rows.{IsRising, RisesFrom, row_at}

-- the row, where its key is this one
abbrev pub if_is : {X : Type 0} → (X → ℕ) → ℕ → Option X → Option X
if_is key k None = None
if_is key k (Some row) = cond (eqb (key row) k) (Some row) None

abbrev ArePassed : {X : Type 0} → (X → ℕ) → ℕ → List X → ℕ → Type 0
ArePassed key k rows i = AllWithin (λ row. ltb (key row) k ≡ true) rows 0 i

abbrev AreLeft : {X : Type 0} → (X → ℕ) → ℕ → List X → ℕ → Type 0
AreLeft key k rows i = AllWithin (λ row. ltb (key row) k ≡ false) rows i (length rows)

lesser_differs : (n k : ℕ) → ltb n k ≡ true → eqb n k ≡ false
lesser_differs n k e = grind (arith, nat_tests, e)

found_from : {X : Type 0} (key : X → ℕ) (k n i : ℕ) (rows : List X) → RisesFrom key n rows → i ≤ length rows →
    ArePassed key k rows i → AreLeft key k rows i → row_at key k rows ≡ if_is key k (slice_get rows i)
found_from key k n zero [] r le before behind = refl
found_from key k n (suc i) [] r le before behind = absurd (omega (arith, le))
found_from key k n zero (x ∷ rows) r le before behind = go (eqb (key x) k) refl
  where
    go : (b : Bool) → eqb (key x) k ≡ b → cond b (Some x) (row_at key k rows) ≡ cond b (Some x) None
    go true is = refl
    go false is =
        row_at-None_below key (key x) k rows r.1
        (let at = behind 0 x (omega arith) (omega arith) in grind (arith, nat_tests, at))
found_from key k n (suc i) (x ∷ rows) r le before behind =
    ap (λ b. cond b (Some x) (row_at key k rows)) (lesser_differs (key x) k (before 0 x (omega arith) (omega arith)))
    ∙ found_from key k (key x) i rows r.1 (omega (arith, le))
    (λ j d lo hi. before (suc j) d (omega arith) (omega (arith, hi)))
    (λ j d lo hi. behind (suc j) d (omega (arith, lo)) (omega (arith, hi)))

-- the row behind those with lesser keys is the one that is looked for, or it isn't there
pub found_at : {X : Type 0} (key : X → ℕ) (k i : ℕ) (rows : List X) → IsRising key rows → i ≤ length rows →
    IsPartitionPoint (λ row. ltb (key row) k ≡ true) (λ row. ltb (key row) k ≡ false) rows i →
    row_at key k rows ≡ if_is key k (slice_get rows i)
found_at key k zero [] r le parted = refl
found_at key k (suc i) [] r le parted = absurd (omega (arith, le))
found_at key k zero (x ∷ rows) r le parted = go (eqb (key x) k) refl
  where
    go : (b : Bool) → eqb (key x) k ≡ b → cond b (Some x) (row_at key k rows) ≡ cond b (Some x) None
    go true is = refl
    go false is =
        row_at-None_below key (key x) k rows r
        (let at = parted.1 0 x (omega arith) (omega arith) in grind (arith, nat_tests, at))
found_at key k (suc i) (x ∷ rows) r le parted =
    ap (λ b. cond b (Some x) (row_at key k rows)) (lesser_differs (key x) k (parted.0 0 x (omega arith) (omega arith)))
    ∙ found_from key k (key x) i rows r (omega (arith, le))
    (λ j d lo hi. parted.0 (suc j) d (omega arith) (omega (arith, hi)))
    (λ j d lo hi. parted.1 (suc j) d (omega (arith, lo)) (omega (arith, hi)))

pub found_here : {X : Type 0} (key : X → ℕ) (k i : ℕ) (rows : List X) (x : X) → IsRising key rows →
    i ≤ length rows →
    IsPartitionPoint (λ row. ltb (key row) k ≡ true) (λ row. ltb (key row) k ≡ false) rows i →
    Some x ≡ slice_get rows i → eqb (key x) k ≡ true → Some x ≡ row_at key k rows
found_here key k i rows x r le parted at same =
    sym (found_at key k i rows r le parted ∙ ap (if_is key k) (sym at)
    ∙ ap (λ b. cond b (Some x) None) same)

pub found_other : {X : Type 0} (key : X → ℕ) (k i : ℕ) (rows : List X) (x : X) → IsRising key rows →
    i ≤ length rows →
    IsPartitionPoint (λ row. ltb (key row) k ≡ true) (λ row. ltb (key row) k ≡ false) rows i →
    Some x ≡ slice_get rows i → eqb (key x) k ≡ false → None ≡ row_at key k rows
found_other key k i rows x r le parted at same =
    sym (found_at key k i rows r le parted ∙ ap (if_is key k) (sym at)
    ∙ ap (λ b. cond b (Some x) None) same)

pub found_nowhere : {X : Type 0} (key : X → ℕ) (k i : ℕ) (rows : List X) → IsRising key rows → i ≤ length rows →
    IsPartitionPoint (λ row. ltb (key row) k ≡ true) (λ row. ltb (key row) k ≡ false) rows i →
    None ≡ slice_get rows i → None ≡ row_at key k rows
found_nowhere key k i rows r le parted at = sym (found_at key k i rows r le parted ∙ ap (if_is key k) (sym at))
