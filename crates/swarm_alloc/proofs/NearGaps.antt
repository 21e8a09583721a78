-- The first gap is at most so far off as there are numbers.
use Rattle.std.proofs.Common.{Bool, List, [], arith, cond, eqb, false, length, ltb, true, ℕ, ◌+◌, ◌≤◌, ◌∷◌}
use Rattle.std.specs.Prelude.{fold}
use Rattle.swarm_objects.specs.Rows.{first_gap, rising, with_number}

gap-most : (from : ℕ) (ks : List ℕ) → first_gap from ks ≤ from + length ks
gap-most from [] = omega arith
gap-most from (k ∷ ks) = go (ltb k from) (eqb k from) (gap-most from ks) (gap-most (from + 1) ks)
  where
    go : (a b : Bool) → first_gap from ks ≤ from + length ks → first_gap (from + 1) ks ≤ from + 1 + length ks
        → cond a (first_gap from ks) (cond b (first_gap (from + 1) ks) from) ≤ from + length (k ∷ ks)
    go true b here next = omega (arith, here)
    go false true here next = omega (arith, next)
    go false false here next = omega arith

with-most : (k : ℕ) (ks : List ℕ) → length (with_number k ks) ≤ length ks + 1
with-most k [] = omega arith
with-most k (j ∷ ks) = go (ltb k j) (eqb k j) (with-most k ks)
  where
    go : (a b : Bool) → length (with_number k ks) ≤ length ks + 1
        → length (cond a (k ∷ j ∷ ks) (cond b (k ∷ ks) (j ∷ with_number k ks))) ≤ length (j ∷ ks) + 1
    go true b e = omega (arith, e)
    go false true e = omega (arith, e)
    go false false e = omega (arith, e)

rising-most : (numbers : List ℕ) → length (rising numbers) ≤ length numbers
rising-most numbers = omega (arith, go [] numbers)
  where
    go : (acc more : List ℕ) → length (fold (λ ks k. with_number k ks) acc more) ≤ length acc + length more
    go acc [] = omega arith
    go acc (k ∷ more) = omega (arith, go (with_number k acc) more, with-most k acc)

pub gap-near : (low : ℕ) (taken : List ℕ) → first_gap low (rising taken) ≤ low + length taken
gap-near low taken = omega (arith, gap-most low (rising taken), rising-most taken)
