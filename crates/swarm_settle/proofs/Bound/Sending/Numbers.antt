-- How many numbers below a bound pass a test: what a count is where things have numbers.
use Rattle.std.proofs.Common.{Bool, List, None, Option, Some, [], ap, arith, cond, count_by, eqb, false, length, ltb, refl, suc, true, zero, ℕ, ◌+◌, ◌<◌, ◌∙◌, ◌∷◌, ◌≡◌, ◌≤◌}
use Rattle.std.proofs.lemmas.Bool.Decides.{nat_tests}
use Rattle.std.proofs.lemmas.List.Sums.{sum_by-cons}
use Rattle.std.specs.List.{sum_by}
use Rattle.std.specs.Prelude.{is_some, ◌&&◌}
use Rattle.swarm_settle.proofs.Bound.Positions.{bit-most}
use Rattle.swarm_settle.proofs.Bound.Sums.{sum-join}
use Rattle.swarm_objects.proofs.RowLemmas.{row_at-None_below}
use Rattle.swarm_objects.proofs.WalkLemmas.{count_by_no, count_by_yes}
use Rattle.swarm_objects.specs.Kinds.{bit}
use Rattle.swarm_objects.specs.Rows.{IsBelow, RisesFrom, has_row, is_row_and, is_some_and, row_at}

abbrev pub count_below : (ℕ → Bool) → ℕ → ℕ
count_below test zero = 0
count_below test (suc n) = bit (test n) + count_below test n

bit-or : (b c d : Bool) → (d ≡ false → b ≡ c) → bit b ≤ bit c + bit d
bit-or b c true same = let most = bit-most b in omega (arith, most)
bit-or b c false same = omega (arith, ap bit (same refl))

-- one test passes no more numbers than another, but for those that are touched
pub count-touched : (p q touched : ℕ → Bool) (n : ℕ) → ((k : ℕ) → touched k ≡ false → p k ≡ q k) →
    count_below p n ≤ count_below q n + count_below touched n
count-touched p q touched zero same = omega arith
count-touched p q touched (suc n) same =
    let rest = count-touched p q touched n same in
    let one = bit-or (p n) (q n) (touched n) (same n) in
    omega (arith, rest, one)

pub count-same : (p q : ℕ → Bool) (n : ℕ) → ((k : ℕ) → p k ≡ q k) → count_below p n ≡ count_below q n
count-same p q zero same = refl
count-same p q (suc n) same =
    let rest = count-same p q n same in omega (arith, rest, ap bit (same n))

pub count-none : (p : ℕ → Bool) (n : ℕ) → ((k : ℕ) → p k ≡ false) → count_below p n ≡ 0
count-none p zero none = refl
count-none p (suc n) none = let rest = count-none p n none in omega (arith, rest, ap bit (none n))

-- a wider test passes no fewer
pub count-within : (p q : ℕ → Bool) (n : ℕ) → ((k : ℕ) → p k ≡ true → q k ≡ true) → count_below p n ≤ count_below q n
count-within p q zero within = omega arith
count-within p q (suc n) within =
    let rest = count-within p q n within in
    let one = step (p n) (q n) (within n) in
    omega (arith, rest, one)
  where
    step : (b c : Bool) → (b ≡ true → c ≡ true) → bit b ≤ bit c
    step true c is = omega (arith, ap bit (is refl))
    step false c is = omega arith

-- Two tests that differ at one number.

below-same : (p q : ℕ → Bool) (k n : ℕ) → ((j : ℕ) → eqb j k ≡ false → p j ≡ q j) → n ≤ k →
    count_below p n ≡ count_below q n
below-same p q k zero same low = refl
below-same p q k (suc n) same low =
    let rest = below-same p q k n same (omega (arith, low)) in
    let away : eqb n k ≡ false = grind (arith, nat_tests, low) in
    omega (arith, rest, ap bit (same n away))

pub count-at : (p q : ℕ → Bool) (k n : ℕ) → k < n → ((j : ℕ) → eqb j k ≡ false → p j ≡ q j) →
    count_below p n + bit (q k) ≡ count_below q n + bit (p k)
count-at p q k zero low same = absurd (omega (arith, low))
count-at p q k (suc n) low same = go (eqb n k) refl (λ inside. count-at p q k n inside same)
  where
    go : (b : Bool) → eqb n k ≡ b → (k < n → count_below p n + bit (q k) ≡ count_below q n + bit (p k)) →
        bit (p n) + count_below p n + bit (q k) ≡ bit (q n) + count_below q n + bit (p k)
    go true e rest =
        let is : n ≡ k = grind (arith, nat_tests, e) in
        let below = below-same p q k n same (omega (arith, is)) in
        omega (arith, below, ap (λ (j : ℕ). bit (p j)) is, ap (λ (j : ℕ). bit (q j)) is)
    go false e rest =
        let inside : k < n = grind (arith, nat_tests, e, low) in
        omega (arith, rest inside, ap bit (same n e))

-- Rows by rising number.

counted : {X : Type 0} (test : X → Bool) (x : X) (xs : List X) →
    count_by test (x ∷ xs) ≡ bit (test x) + count_by test xs
counted test x xs = go (test x) refl
  where
    go : (b : Bool) → test x ≡ b → count_by test (x ∷ xs) ≡ bit b + count_by test xs
    go true e = count_by_yes test x xs e
    go false e = omega (arith, count_by_no test x xs e)

-- the rows that pass a test are as many as their numbers
pub count-tested : {X : Type 0} (key : X → ℕ) (test : X → Bool) (low n : ℕ) (rows : List X) → RisesFrom key low rows →
    IsBelow key n rows → count_below (is_row_and key test rows) n ≡ count_by test rows
count-tested key test low n [] rises below = count-none (λ k. false) n (λ k. refl)
count-tested key test low n (x ∷ xs) rises below =
    let rest = count-tested key test (key x) n xs rises.1 below.1 in
    let one = count-at (is_row_and key test (x ∷ xs)) (is_row_and key test xs) (key x) n below.0 away in
    omega (arith, rest, one, ap bit here, ap bit none, counted test x xs)
  where
    away : (j : ℕ) → eqb j (key x) ≡ false → is_row_and key test (x ∷ xs) j ≡ is_row_and key test xs j
    away j e =
        let other : eqb (key x) j ≡ false = grind (arith, nat_tests, e) in
        ap (λ (b : Bool). is_some_and test (cond b (Some x) (row_at key j xs))) other

    here : is_row_and key test (x ∷ xs) (key x) ≡ test x
    here =
        let same : eqb (key x) (key x) ≡ true = grind (arith, nat_tests) in
        ap (λ (b : Bool). is_some_and test (cond b (Some x) (row_at key (key x) xs))) same

    none : is_row_and key test xs (key x) ≡ false
    none = ap (is_some_and test) (row_at-None_below key (key x) (key x) xs rises.1 (omega arith))

count-all : {X : Type 0} (xs : List X) → count_by (λ x. true) xs ≡ length xs
count-all [] = refl
count-all (x ∷ xs) = omega (arith, count-all xs, counted (λ y. true) x xs)

-- the rows are as many as their numbers
pub count-rows : {X : Type 0} (key : X → ℕ) (low n : ℕ) (rows : List X) → RisesFrom key low rows →
    IsBelow key n rows → count_below (λ k. has_row key k rows) n ≡ length rows
count-rows {X = X} key low n rows rises below =
    count-same (λ k. has_row key k rows) (is_row_and key (λ x. true) rows) n (λ k. go (row_at key k rows))
    ∙ count-tested key (λ x. true) low n rows rises below ∙ count-all rows
  where
    go : (o : Option X) → is_some o ≡ is_some_and (λ x. true) o
    go None = refl
    go (Some x) = refl

-- one number alone passes
pub count-one : (x n : ℕ) → count_below (λ k. eqb k x) n ≤ 1
count-one x n = go (ltb x n) refl
  where
    none : count_below (λ k. false) n ≡ 0
    none = count-none (λ k. false) n (λ k. refl)

    go : (b : Bool) → ltb x n ≡ b → count_below (λ k. eqb k x) n ≤ 1
    go true e =
        let low : x < n = grind (arith, nat_tests, e) in
        let at = count-at (λ k. eqb k x) (λ k. false) x n low (λ j away. away) in
        omega (arith, at, none, bit-most (eqb x x))
    go false e =
        let high : n ≤ x = grind (arith, nat_tests, e) in
        let same = below-same (λ k. eqb k x) (λ k. false) x n (λ j away. away) high in
        omega (arith, same, none)

-- Several rows, each with the numbers that are its own.

abbrev own : {X : Type 0} → (X → ℕ) → Bool → ℕ → X → ℕ
own key b home x = bit (b && eqb (key x) home)

own-bit : (b c : Bool) → bit (b && c) ≤ bit b
own-bit true c = bit-most c
own-bit false c = omega arith

never-own : (b c : Bool) → c ≡ false → bit (b && c) ≡ 0
never-own true c e = ap bit e
never-own false c e = refl

none-own : {X : Type 0} (key : X → ℕ) (b : Bool) (home low : ℕ) (rows : List X) → RisesFrom key low rows → home ≤ low →
    sum_by (own key b home) rows ≡ 0
none-own key b home low [] rises under = refl
none-own key b home low (x ∷ xs) rises under =
    let other : eqb (key x) home ≡ false = (let above = rises.0 in grind (arith, nat_tests, above, under)) in
    let rest = none-own key b home (key x) xs rises.1 (omega (arith, rises.0, under)) in
    omega (arith, rest, never-own b (eqb (key x) home) other, sum_by-cons (own key b home) x xs)

one-own : {X : Type 0} (key : X → ℕ) (b : Bool) (home low : ℕ) (rows : List X) → RisesFrom key low rows →
    sum_by (own key b home) rows ≤ bit b
one-own key b home low [] rises = omega arith
one-own key b home low (x ∷ xs) rises = go (eqb (key x) home) refl (one-own key b home (key x) xs rises.1)
  where
    go : (c : Bool) → eqb (key x) home ≡ c → sum_by (own key b home) xs ≤ bit b →
        sum_by (own key b home) (x ∷ xs) ≤ bit b
    go true e rest =
        let is : key x ≡ home = grind (arith, nat_tests, e) in
        let none = none-own key b home (key x) xs rises.1 (omega (arith, is)) in
        omega (arith, none, own-bit b (eqb (key x) home), sum_by-cons (own key b home) x xs)
    go false e rest =
        omega (arith, rest, never-own b (eqb (key x) home) e, sum_by-cons (own key b home) x xs)

pub sum-zero : {X : Type 0} (rows : List X) → sum_by (λ x. 0) rows ≡ 0
sum-zero [] = refl
sum-zero (x ∷ xs) = omega (arith, sum-zero xs, sum_by-cons (λ y. 0) x xs)

-- each number is at home in one row at most, so together the rows have no more than there are
pub count-own : {X : Type 0} (key : X → ℕ) (test : ℕ → Bool) (home : ℕ → ℕ) (low n : ℕ) (rows : List X) →
    RisesFrom key low rows →
    sum_by (λ x. count_below (λ k. test k && eqb (key x) (home k)) n) rows ≤ count_below test n
count-own key test home low zero rows rises = omega (arith, sum-zero rows)
count-own key test home low (suc n) rows rises =
    let rest = count-own key test home low n rows rises in
    let one = one-own key (test n) (home n) low rows rises in
    let both = sum-join (own key (test n) (home n))
    (λ x. count_below (λ k. test k && eqb (key x) (home k)) n) rows in
    omega (arith, rest, one, both)

-- an amount at one row alone

none-at : {X : Type 0} (key : X → ℕ) (d id low : ℕ) (rows : List X) → RisesFrom key low rows → id ≤ low →
    sum_by (λ x. cond (eqb (key x) id) d 0) rows ≡ 0
none-at key d id low [] rises under = refl
none-at key d id low (x ∷ xs) rises under =
    let other : eqb (key x) id ≡ false = (let above = rises.0 in grind (arith, nat_tests, above, under)) in
    let rest = none-at key d id (key x) xs rises.1 (omega (arith, rises.0, under)) in
    omega (
      arith,
      rest,
      ap (λ (b : Bool). cond b d 0) other,
      sum_by-cons (λ y. cond (eqb (key y) id) d 0) x xs,
    )

pub sum-one : {X : Type 0} (key : X → ℕ) (d id low : ℕ) (rows : List X) → RisesFrom key low rows →
    sum_by (λ x. cond (eqb (key x) id) d 0) rows ≤ d
sum-one key d id low [] rises = omega arith
sum-one key d id low (x ∷ xs) rises = go (eqb (key x) id) refl (sum-one key d id (key x) xs rises.1)
  where
    go : (b : Bool) → eqb (key x) id ≡ b → sum_by (λ y. cond (eqb (key y) id) d 0) xs ≤ d →
        sum_by (λ y. cond (eqb (key y) id) d 0) (x ∷ xs) ≤ d
    go true e rest =
        let is : key x ≡ id = grind (arith, nat_tests, e) in
        let none = none-at key d id (key x) xs rises.1 (omega (arith, is)) in
        omega (
          arith,
          none,
          ap (λ (b : Bool). cond b d 0) e,
          sum_by-cons (λ y. cond (eqb (key y) id) d 0) x xs,
        )
    go false e rest =
        omega (
          arith,
          rest,
          ap (λ (b : Bool). cond b d 0) e,
          sum_by-cons (λ y. cond (eqb (key y) id) d 0) x xs,
        )
