-- Sums over all numbers from one on.
use Rattle.std.proofs.Common.{Bool, List, [], ap, arith, eqb, false, inl, inr, refl, suc, true, zero, ℕ, ◌+◌, ◌<◌, ◌∷◌, ◌≡◌, ◌≤◌}
use Rattle.std.proofs.lemmas.Bool.Decides.{nat_tests}
use Rattle.std.proofs.lemmas.List.Sums.{sum_by-cons}
use Rattle.std.specs.Prelude.{sum_by}
use Rattle.swarm_model.proofs.Moves.Rows.{RisesBetween, between-has, between-higher, between-lower}
use Rattle.swarm_objects.specs.Rows.{Has, itself}

-- the sum over so many numbers from this one on
abbrev pub span : (ℕ → ℕ) → ℕ → ℕ → ℕ
span f low zero = 0
span f low (suc n) = f low + span f (low + 1) n

pub span-le : (f g : ℕ → ℕ) (low n : ℕ) → ((k : ℕ) → f k ≤ g k) → span f low n ≤ span g low n
span-le f g low zero each = omega arith
span-le f g low (suc n) each = omega (arith, each low, span-le f g (low + 1) n each)

pub span-same : (f g : ℕ → ℕ) (low n : ℕ) → ((k : ℕ) → f k ≡ g k) → span f low n ≡ span g low n
span-same f g low zero each = refl
span-same f g low (suc n) each = omega (arith, each low, span-same f g (low + 1) n each)

pub span-none : (f : ℕ → ℕ) (low n : ℕ) → ((k : ℕ) → f k ≡ 0) → span f low n ≡ 0
span-none f low zero each = refl
span-none f low (suc n) each = omega (arith, each low, span-none f (low + 1) n each)

pub span-join : (f g : ℕ → ℕ) (low n : ℕ) → span (λ k. f k + g k) low n ≡ span f low n + span g low n
span-join f g low zero = refl
span-join f g low (suc n) = omega (arith, span-join f g (low + 1) n)

-- one number falls by an amount, and all others stay
pub span-falls : (f g : ℕ → ℕ) (d low n k : ℕ) → low ≤ k → k < low + n → f k + d ≤ g k → ((j : ℕ) → f j ≤ g j) →
    span f low n + d ≤ span g low n
span-falls f g d low zero k least most one each = absurd (omega (arith, least, most))
span-falls f g d low (suc n) k least most one each = go (eqb low k) refl (span-falls f g d (low + 1) n k)
  where
    go : (b : Bool) → eqb low k ≡ b →
        (low + 1 ≤ k → k < low + 1 + n → f k + d ≤ g k → ((j : ℕ) → f j ≤ g j) →
        span f (low + 1) n + d ≤ span g (low + 1) n) →
        f low + span f (low + 1) n + d ≤ g low + span g (low + 1) n
    go true e rest =
        let is : low ≡ k = grind (arith, nat_tests, e) in
        omega (arith, ap f is, ap g is, one, span-le f g (low + 1) n each)
    go false e rest =
        let above : low + 1 ≤ k = grind (arith, nat_tests, e, least) in
        omega (arith, each low, rest above (omega (arith, most)) one each)

-- one number rises by an amount at most, and all others stay
pub span-rises : (f g : ℕ → ℕ) (d low n k : ℕ) → f k ≤ g k + d → ((j : ℕ) → ¬ (j ≡ k) → f j ≤ g j) →
    span f low n ≤ span g low n + d
span-rises f g d low zero k one each = omega arith
span-rises f g d low (suc n) k one each = go (eqb low k) refl (span-rises f g d (low + 1) n k one each)
  where
    rest-le : (m at : ℕ) → low < at → eqb low k ≡ true → span f at m ≤ span g at m
    rest-le zero at above e = omega arith
    rest-le (suc m) at above e =
        let off : ¬ (at ≡ k) = λ same. omega (arith, above, same, number-is low k e) in
        omega (arith, each at off, rest-le m (at + 1) (omega (arith, above)) e)
      where
        number-is : (a b : ℕ) → eqb a b ≡ true → a ≡ b
        number-is a b t = grind (arith, nat_tests, t)

    go : (b : Bool) → eqb low k ≡ b → span f (low + 1) n ≤ span g (low + 1) n + d →
        f low + span f (low + 1) n ≤ g low + span g (low + 1) n + d
    go true e rest =
        let is : low ≡ k = grind (arith, nat_tests, e) in
        omega (arith, ap f is, ap g is, one, rest-le n (low + 1) (omega arith) e)
    go false e rest =
        let off : ¬ (low ≡ k) = grind (arith, nat_tests, e) in
        omega (arith, each low off, rest)

-- A sum over rising numbers, where it is nothing at all others.

only-zero : (n : ℕ) → ¬ (¬ (n ≡ 0)) → n ≡ 0
only-zero zero not_not = refl
only-zero (suc n) not_not = absurd (not_not (λ e. omega (arith, e)))

pub sum-span : (f : ℕ → ℕ) (low n : ℕ) (ks : List ℕ) → RisesBetween itself low (low + n) ks →
    ((k : ℕ) → low ≤ k → ¬ (f k ≡ 0) → Has ks k) → sum_by f ks ≡ span f low n
sum-span f low zero [] rises some = refl
sum-span f low zero (k ∷ ks) rises some = absurd (omega (arith, rises.0, rises.1))
sum-span f low (suc n) [] rises some =
    let here : f low ≡ 0 = only-zero (f low) (λ k. some low (omega arith) k) in
    omega (arith, here, sum-span f (low + 1) n [] tt (λ k least more. some k (omega (arith, least)) more))
sum-span f low (suc n) (k ∷ ks) rises some =
    go (eqb low k) refl (λ r s. sum-span f (low + 1) n ks r s) (λ r s. sum-span f (low + 1) n (k ∷ ks) r s)
  where
    skip : low < k → Has (k ∷ ks) low → ⊥
    skip above h =
        let at = between-has itself k (low + suc n) (k ∷ ks) low (omega arith, rises.1, rises.2) h in
        omega (arith, above, at.0)

    beyond : (j : ℕ) → low ≡ k → low + 1 ≤ j → Has (k ∷ ks) j → Has ks j
    beyond j is least (inl e) = absurd (omega (arith, is, least, e))
    beyond j is least (inr h) = h

    go : (b : Bool) → eqb low k ≡ b →
        (RisesBetween itself (low + 1) (low + 1 + n) ks → ((j : ℕ) → low + 1 ≤ j → ¬ (f j ≡ 0) → Has ks j) →
        sum_by f ks ≡ span f (low + 1) n) →
        (RisesBetween itself (low + 1) (low + 1 + n) (k ∷ ks) →
        ((j : ℕ) → low + 1 ≤ j → ¬ (f j ≡ 0) → Has (k ∷ ks) j) → sum_by f (k ∷ ks) ≡ span f (low + 1) n) →
        sum_by f (k ∷ ks) ≡ f low + span f (low + 1) n
    go true e rest whole =
        let is : low ≡ k = grind (arith, nat_tests, e) in
        let up = between-lower itself (low + 1) (k + 1) (low + suc n) ks (omega (arith, is)) rises.2 in
        let ends = between-higher itself (low + 1) (low + suc n) (low + 1 + n) ks (omega arith) up in
        let left = rest ends (λ j least more. beyond j is least (some j (omega (arith, least)) more)) in
        omega (arith, sum_by-cons f k ks, ap f is, left)
    go false e rest whole =
        let above : low < k = grind (arith, nat_tests, e, rises.0) in
        let here : f low ≡ 0 = only-zero (f low) (λ more. skip above (some low (omega arith) more)) in
        let up : RisesBetween itself (low + 1) (low + suc n) (k ∷ ks) = (omega (arith, above), rises.1, rises.2) in
        let ends = between-higher itself (low + 1) (low + suc n) (low + 1 + n) (k ∷ ks) (omega arith) up in
        let left = whole ends (λ j least more. some j (omega (arith, least)) more) in
        omega (arith, here, left)
