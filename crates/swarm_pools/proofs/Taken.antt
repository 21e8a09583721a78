-- The numbers that pass a test, of so many in a row: the least that doesn't, and one more or one fewer.
use Rattle.std.proofs.Common.{◌≡◌, ◌==◌, ◌&&◌, ◌||◌, ◌+◌, ◌-◌, ◌<◌, ◌≤◌, Bool, List, None, Option, Some, [], ◌∷◌, ◌++◌, ap, append_assoc, arith, cond, eqb, false, leb, ltb, not, refl, subst, suc, sym, true, zero, ℕ, ◌∙◌}
use Rattle.std.proofs.lemmas.Bool.Decides.{nat_tests}
use Rattle.std.specs.List.{range_with_len}
use Rattle.std.specs.Prelude.{filter, fold}
use Rattle.swarm_objects.specs.Rows.{IsRising, RisesFrom, drop_row, first_free, first_gap, itself, rising, with_number}

pub rises_where : (p : ℕ → Bool) (k from count : ℕ) → k < from → RisesFrom itself k (filter p (range_with_len from count))
rises_where p k from zero lt = tt
rises_where p k from (suc count) lt =
    go (p from) (rises_where p from (from + 1) count (omega arith)) (rises_where p k (from + 1) count (omega arith))
  where
    go : (b : Bool) → RisesFrom itself from (filter p (range_with_len (from + 1) count)) →
        RisesFrom itself k (filter p (range_with_len (from + 1) count)) →
        RisesFrom itself k (cond b (from ∷ filter p (range_with_len (from + 1) count)) (filter p (range_with_len (from + 1) count)))
    go true behind rest = (lt, behind)
    go false behind rest = rest

pub rising_where : (p : ℕ → Bool) (from count : ℕ) → IsRising itself (filter p (range_with_len from count))
rising_where p from zero = tt
rising_where p from (suc count) =
    go (p from) (rises_where p from (from + 1) count (omega arith)) (rising_where p (from + 1) count)
  where
    go : (b : Bool) → RisesFrom itself from (filter p (range_with_len (from + 1) count)) →
        IsRising itself (filter p (range_with_len (from + 1) count)) →
        IsRising itself (cond b (from ∷ filter p (range_with_len (from + 1) count)) (filter p (range_with_len (from + 1) count)))
    go true behind rest = behind
    go false behind rest = rest

-- numbers that rise are themselves in order

above_all : (k x : ℕ) (ks xs : List ℕ) → RisesFrom itself k (ks ++ x ∷ xs) → k < x
above_all k x [] xs rises = rises.0
above_all k x (j ∷ ks) xs rises = let lt = above_all j x ks xs rises.1 in let first = rises.0 in omega arith

put_behind : (k x : ℕ) (ks : List ℕ) → k < x → with_number x ks ≡ ks ++ x ∷ [] →
    with_number x (k ∷ ks) ≡ (k ∷ ks) ++ x ∷ []
put_behind k x ks lt below = go (ltb x k) refl (eqb x k) refl
  where
    go : (a : Bool) → ltb x k ≡ a → (b : Bool) → eqb x k ≡ b →
        cond a (x ∷ k ∷ ks) (cond b (x ∷ ks) (k ∷ with_number x ks)) ≡ k ∷ (ks ++ x ∷ [])
    go true e b f = absurd (grind (arith, nat_tests))
    go false e true f = absurd (grind (arith, nat_tests))
    go false e false f = ap (λ (r : List ℕ). k ∷ r) below

put_last : (x : ℕ) (ks xs : List ℕ) → IsRising itself (ks ++ x ∷ xs) → with_number x ks ≡ ks ++ x ∷ []
put_last x [] xs rises = refl
put_last x (k ∷ ks) xs rises = put_behind k x ks (above_all k x ks xs rises) (put_last x ks xs (behind k (ks ++ x ∷ xs) rises))
  where
    behind : (n : ℕ) (ys : List ℕ) → RisesFrom itself n ys → IsRising itself ys
    behind n [] r = tt
    behind n (y ∷ ys) r = r.1

pub rising_same : (xs : List ℕ) → IsRising itself xs → rising xs ≡ xs
rising_same xs rises = go [] xs rises
  where
    go : (ks ys : List ℕ) → IsRising itself (ks ++ ys) → fold (λ zs k. with_number k zs) ks ys ≡ ks ++ ys
    go ks [] r = sym (append_nil_is ks)
      where
        append_nil_is : (zs : List ℕ) → zs ++ [] ≡ zs
        append_nil_is [] = refl
        append_nil_is (z ∷ zs) = ap (λ (t : List ℕ). z ∷ t) (append_nil_is zs)
    go ks (y ∷ ys) r =
        let there : (ks ++ y ∷ []) ++ ys ≡ ks ++ y ∷ ys = append_assoc ks (y ∷ []) ys in
        ap (λ (zs : List ℕ). fold (λ zs k. with_number k zs) zs ys) (put_last y ks ys r)
        ∙ (go (ks ++ y ∷ []) ys (subst (IsRising itself) (sym there) r) ∙ there)

-- the least number that isn't among them

gap_below : (from k : ℕ) (xs : List ℕ) → from ≤ k → RisesFrom itself k xs → first_gap from xs ≡ from
gap_below from k [] le rises = refl
gap_below from k (x ∷ xs) le rises = let lt = rises.0 in go (ltb x from) refl (eqb x from) refl (omega arith)
  where
    go : (a : Bool) → ltb x from ≡ a → (b : Bool) → eqb x from ≡ b → from < x →
        cond a (first_gap from xs) (cond b (first_gap (from + 1) xs) from) ≡ from
    go true e b f lt = absurd (grind (arith, nat_tests))
    go false e true f lt = absurd (grind (arith, nat_tests))
    go false e false f lt = refl

gap_next : (from : ℕ) (xs : List ℕ) → first_gap from (from ∷ xs) ≡ first_gap (from + 1) xs
gap_next from xs = grind (arith, nat_tests)

gap_there : (p : ℕ → Bool) (from count n : ℕ) → ((m : ℕ) → from ≤ m → m < n → p m ≡ true) → from ≤ n →
    n < from + count → p n ≡ false → first_gap from (filter p (range_with_len from count)) ≡ n
gap_there p from zero n before le lt free = absurd (omega arith)
gap_there p from (suc count) n before le lt free =
    go (eqb from n) refl
    (λ further. gap_there p (from + 1) count n (λ m ge. before m (omega arith)) further (omega arith) free)
  where
    go : (b : Bool) → eqb from n ≡ b →
        (from + 1 ≤ n → first_gap (from + 1) (filter p (range_with_len (from + 1) count)) ≡ n) →
        first_gap from (cond (p from) (from ∷ filter p (range_with_len (from + 1) count)) (filter p (range_with_len (from + 1) count))) ≡ n
    go true e below =
        let is : n ≡ from = grind (arith, nat_tests) in
        rw (subst (λ (m : ℕ). p m ≡ false) is free)
        (gap_below from from _ (omega arith) (rises_where p from (from + 1) count (omega arith)) ∙ sym is)
    go false e below =
        let less : from + 1 ≤ n = grind (arith, nat_tests) in
        rw (before from (omega arith) (omega arith)) (gap_next from _ ∙ below less)

gap_behind : (p : ℕ → Bool) (from count : ℕ) → ((m : ℕ) → from ≤ m → m < from + count → p m ≡ true) →
    first_gap from (filter p (range_with_len from count)) ≡ from + count
gap_behind p from zero each = omega arith
gap_behind p from (suc count) each =
    rw (each from (omega arith) (omega arith))
    (gap_next from _ ∙ (gap_behind p (from + 1) count (λ m ge lt. each m (omega arith) (omega arith)) ∙ omega arith))

pub free_there : (p : ℕ → Bool) (first last n : ℕ) → ((m : ℕ) → first ≤ m → m < n → p m ≡ true) → first ≤ n → n ≤ last →
    p n ≡ false → first_free first last (filter p (range_with_len first (last - first + 1))) ≡ Some n
free_there p first last n before le most free =
    let gap = gap_there p first (last - first + 1) n before le (omega arith) free in
    let numbers : List ℕ = filter p (range_with_len first (last - first + 1)) in
    let same = rising_same numbers (rising_where p first (last - first + 1)) in
    subst (λ (xs : List ℕ). cond (leb (first_gap first xs) last) (Some (first_gap first xs)) None ≡ Some n) (sym same)
    (subst (λ (g : ℕ). cond (leb g last) (Some g) None ≡ Some n) (sym gap) (grind (arith, nat_tests)))

pub none_there : (p : ℕ → Bool) (first last : ℕ) → first ≤ last →
    ((m : ℕ) → first ≤ m → m ≤ last → p m ≡ true) →
    ◌≡◌ {A = Option ℕ} (first_free first last (filter p (range_with_len first (last - first + 1)))) None
none_there p first last le each =
    let gap = gap_behind p first (last - first + 1) (λ m ge lt. each m ge (omega arith)) in
    let numbers : List ℕ = filter p (range_with_len first (last - first + 1)) in
    let same = rising_same numbers (rising_where p first (last - first + 1)) in
    subst (λ (xs : List ℕ). ◌≡◌ {A = Option ℕ} (cond (leb (first_gap first xs) last) (Some (first_gap first xs)) None) None)
    (sym same)
    (subst (λ (g : ℕ). ◌≡◌ {A = Option ℕ} (cond (leb g last) (Some g) None) None) (sym gap) (grind (arith, nat_tests)))

-- one more, and one fewer

pub same_where : (p q : ℕ → Bool) (from count : ℕ) → ((m : ℕ) → from ≤ m → m < from + count → p m ≡ q m) →
    filter p (range_with_len from count) ≡ filter q (range_with_len from count)
same_where p q from zero each = refl
same_where p q from (suc count) each =
    let here = each from (omega arith) (omega arith) in
    let rest = same_where p q (from + 1) count (λ m ge lt. each m (omega arith) (omega arith)) in
    rw (here, rest) refl

with_below : (k : ℕ) (xs : List ℕ) → RisesFrom itself k xs → with_number k xs ≡ k ∷ xs
with_below k [] rises = refl
with_below k (x ∷ xs) rises = let lt = rises.0 in rw (less k x lt) refl
  where
    less : (a b : ℕ) → a < b → ltb a b ≡ true
    less a b lt = grind (arith, nat_tests)

pub with_where : (p : ℕ → Bool) (k from count : ℕ) → from ≤ k → k < from + count →
    with_number k (filter p (range_with_len from count)) ≡ filter (λ n. n == k || p n) (range_with_len from count)
with_where p k from zero le lt = absurd (omega arith)
with_where p k from (suc count) le lt =
    go (eqb from k) refl (p from) (λ further. with_where p k (from + 1) count further (omega arith))
  where
    rest : List ℕ
    rest = filter p (range_with_len (from + 1) count)

    more : List ℕ
    more = filter (λ n. n == k || p n) (range_with_len (from + 1) count)

    unmoved : from ≡ k → rest ≡ more
    unmoved is = same_where p (λ n. n == k || p n) (from + 1) count (λ m ge lt'. grind (arith, nat_tests))

    go : (a : Bool) → eqb from k ≡ a → (b : Bool) → (from + 1 ≤ k → with_number k rest ≡ more) →
        with_number k (cond b (from ∷ rest) rest) ≡ cond (a || b) (from ∷ more) more
    go true e true below =
        let is : from ≡ k = grind (arith, nat_tests) in
        subst (λ (j : ℕ). with_number j (from ∷ rest) ≡ from ∷ more) is
        (grind (arith, nat_tests, ap (λ (r : List ℕ). from ∷ r) (unmoved is)))
    go true e false below =
        let is : from ≡ k = grind (arith, nat_tests) in
        subst (λ (j : ℕ). with_number j rest ≡ from ∷ more) is
        (with_below from rest (rises_where p from (from + 1) count (omega arith)) ∙ ap (λ (r : List ℕ). from ∷ r) (unmoved is))
    go false e true below =
        let less : from + 1 ≤ k = grind (arith, nat_tests) in
        grind (arith, nat_tests, ap (λ (r : List ℕ). from ∷ r) (below less))
    go false e false below =
        let less : from + 1 ≤ k = grind (arith, nat_tests) in below less

pub without_where : (p : ℕ → Bool) (k : ℕ) (xs : List ℕ) →
    drop_row itself k (filter p xs) ≡ filter (λ n. not (n == k) && p n) xs
without_where p k [] = refl
without_where p k (x ∷ xs) = go (p x) (eqb x k) (without_where p k xs)
  where
    go : (a b : Bool) → drop_row itself k (filter p xs) ≡ filter (λ n. not (n == k) && p n) xs →
        filter (λ n. not (n == k)) (cond a (x ∷ filter p xs) (filter p xs)) ≡
        cond (not (x == k) && a) (x ∷ filter (λ n. not (n == k) && p n) xs) (filter (λ n. not (n == k) && p n) xs)
    go true b below = grind (arith, nat_tests, below)
    go false b below = grind (arith, nat_tests, below)
