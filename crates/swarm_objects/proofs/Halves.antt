-- Rising rows in two parts: those with lesser keys, and the others.
use Rattle.std.proofs.Common.{◌≡◌, ◌≤◌, ◌<◌, ◌+◌, ℕ, zero, suc, ltb, List, [], ◌∷◌, length, get_or, refl, arith}
use Rattle.std.proofs.lemmas.List.Sorted.{IsNonDecreasingBy-from_all_adjacent, IsPartitionedBy-ltb}
use Rattle.std.specs.List.Sorted.{IsNonDecreasingBy, IsPartitionedBy}
use Rattle.swarm_objects.specs.Rows.{IsRising, RisesFrom}

pub next_rises : {X : Type 0} (key : X → ℕ) (n : ℕ) (rows : List X) → RisesFrom key n rows → (i j : ℕ) (d : X) → j ≡ i + 1 →
    j < length rows → key (get_or rows i d) ≤ key (get_or rows j d)
next_rises key n [] r i j d e lt = absurd (omega arith)
next_rises key n (x ∷ []) r i j d e lt = absurd (omega (arith, e, lt))
next_rises key n (x ∷ y ∷ rows) r i zero d e lt = absurd (omega (arith, e))
next_rises key n (x ∷ y ∷ rows) r zero (suc zero) d e lt = omega (arith, r.1.0)
next_rises key n (x ∷ y ∷ rows) r zero (suc (suc j)) d e lt = absurd (omega (arith, e))
next_rises key n (x ∷ y ∷ rows) r (suc i) (suc j) d e lt =
    next_rises key (key x) (y ∷ rows) r.1 i j d (omega (arith, e)) (omega (arith, lt))

pub any_start : {X : Type 0} (key : X → ℕ) (rows : List X) → IsRising key rows → IsNonDecreasingBy key rows
any_start key [] r = λ i j d le lt. absurd (omega (arith, lt))
any_start key (x ∷ rows) r =
    IsNonDecreasingBy-from_all_adjacent key (x ∷ rows) (λ i d lt. go rows r i (i + 1) d refl lt)
  where
    go : (rows : List _) → RisesFrom key (key x) rows → (i j : ℕ) (d : _) → j ≡ i + 1 → j < length (x ∷ rows) →
        key (get_or (x ∷ rows) i d) ≤ key (get_or (x ∷ rows) j d)
    go rows r i zero d e lt = absurd (omega (arith, e))
    go [] r i (suc j) d e lt = absurd (omega (arith, lt))
    go (y ∷ rows) r zero (suc zero) d e lt = omega (arith, r.0)
    go (y ∷ rows) r zero (suc (suc j)) d e lt = absurd (omega (arith, e))
    go (y ∷ rows) r (suc i) (suc j) d e lt =
        next_rises key (key x) (y ∷ rows) r i j d (omega (arith, e)) (omega (arith, lt))

-- the rows with lesser keys come first
pub lesser_first : {X : Type 0} (key : X → ℕ) (k : ℕ) (rows : List X) → IsRising key rows →
    IsPartitionedBy (λ row. ltb (key row) k) rows
lesser_first key k rows r = IsPartitionedBy-ltb key rows k (any_start key rows r)
