-- Rows each of which has its own among others have no more of these than there are.
use Rattle.std.proofs.Common.{Bool, List, [], arith, cond, eqb, inl, inr, length, refl, true, ℕ, ◌*◌, ◌+◌, ◌∷◌, ◌≡◌, ◌≤◌}
use Rattle.std.proofs.lemmas.Bool.Decides.{nat_tests}
use Rattle.std.proofs.lemmas.List.Sums.{sum_by-cons}
use Rattle.std.specs.Prelude.{count_by, sum_by}
use Rattle.swarm_settle.proofs.Bound.Sending.Numbers.{sum-one, sum-zero}
use Rattle.swarm_settle.proofs.Bound.Sums.{bit-le, sum-join, sum-le, sum-same}
use Rattle.swarm_objects.specs.Rows.{Has, RisesFrom}

-- no row has more than an amount
pub sum-scaled : {X : Type 0} (n : ℕ) (f : X → ℕ) (xs : List X) → ((x : X) → Has xs x → f x ≤ n) →
    sum_by f xs ≤ n * length xs
sum-scaled n f [] each = omega arith
sum-scaled n f (x ∷ xs) each =
    let rest = sum-scaled n f xs (λ y h. each y (inr h)) in
    omega (arith, sum_by-cons f x xs, each x (inl refl), rest)

-- what passes a row's test names the row
pub shares-most : {X Y : Type 0} (key : Y → ℕ) (home : X → ℕ) (test : Y → X → Bool) (low : ℕ) (rows : List Y)
    (xs : List X) → RisesFrom key low rows → ((y : Y) (x : X) → test y x ≡ true → key y ≡ home x) →
    sum_by (λ y. count_by (test y) xs) rows ≤ length xs
shares-most key home test low rows [] rises names = omega (arith, sum-zero rows)
shares-most key home test low rows (x ∷ xs) rises names =
    let rest = shares-most key home test low rows xs rises names in
    let each = sum-same (λ y. count_by (test y) (x ∷ xs)) (λ y. cond (test y x) 1 0 + count_by (test y) xs) rows
    (λ y h. sum_by-cons (λ z. cond (test y z) 1 0) x xs) in
    let both = sum-join (λ y. cond (test y x) 1 0) (λ y. count_by (test y) xs) rows in
    let home_alone = sum-le (λ y. cond (test y x) 1 0) (λ y. cond (eqb (key y) (home x)) 1 0) rows
    (λ y h. bit-le (test y x) (eqb (key y) (home x)) (λ e. is (key y) (home x) (names y x e))) in
    let one = sum-one key 1 (home x) low rows rises in
    omega (arith, rest, each, both, home_alone, one)
  where
    is : (a b : ℕ) → a ≡ b → eqb a b ≡ true
    is a b e = grind (arith, nat_tests, e)
