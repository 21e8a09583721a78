-- Rows in a span, over any rows.
use Rattle.std.proofs.Common.{◌≡◌, ◌≢◌, ℕ, ◌%◌, ◌-◌, ◌<◌, ◌≤◌, Bool, true, false, cond, ltb, ◌⊎◌, inl, inr, List, [], ◌∷◌, Some, None, refl, sym, ap, ◌∙◌, subst, arith}
use Rattle.std.proofs.lemmas.Bool.Decides.{nat_tests}
use Rattle.std.specs.Prelude.{find, nat_le, nat_lt, ◌&&◌}
use Rattle.swarm_objects.proofs.RowLemmas.{number_above}
use Rattle.swarm_objects.specs.Rows.{Has, RisesFrom, row_above}
use Rattle.swarm_spans.proofs.Grown.{bit-of, high-end, is-between, low-end}
use Rattle.swarm_spans.proofs.HasBits.{other_bits}
use Rattle.swarm_spans.specs.Bits.{has_bit, have_one_bit, without_bit}
use Rattle.swarm_spans.specs.Spans.{AreOut, beyond, Covers, empty, is_in}
use Rattle.swarm_spans.specs.declared.span.Span.{Span}

-- The first row in a span, found by passing rows that are out of it.

find-none : {X : Type 0} (test : X → Bool) (rows : List X) → ((y : X) → Has rows y → test y ≡ false)
    → find test rows ≡ None
find-none test [] none = refl
find-none test (y ∷ rows) none = rw (none y (inl refl)) (find-none test rows (λ z h. none z (inr h)))

find-least : {X : Type 0} (key : X → ℕ) (test : X → Bool) (n : ℕ) (rows : List X) (x : X) → RisesFrom key n rows
    → Has rows x → test x ≡ true → ((y : X) → Has rows y → key y < key x → test y ≡ false) → find test rows ≡ Some x
find-least key test n [] x r h passes none = absurd h
find-least key test n (y ∷ rows) x r (inl same) passes none = rw (ap test same ∙ passes) (ap Some same)
find-least key test n (y ∷ rows) x r (inr h) passes none =
    rw (none y (inl refl) (number_above key (key y) rows x r.1 h))
    (find-least key test (key y) rows x r.1 h passes (λ z there lt. none z (inr there) lt))

above-has : {X : Type 0} (key : X → ℕ) (n : ℕ) (rows : List X) (x : X) → row_above key n rows ≡ Some x → Has rows x
above-has key n [] x e = cc
above-has key n (y ∷ rows) x e = go (ltb n (key y)) (above-has key n rows x) e
  where
    go : (b : Bool) → (row_above key n rows ≡ Some x → Has rows x) → cond b (Some y) (row_above key n rows) ≡ Some x
        → (y ≡ x) ⊎ Has rows x
    go true below k = inl cc
    go false below k = inr (below k)

above-least : {X : Type 0} (key : X → ℕ) (n m : ℕ) (rows : List X) (x y : X) → RisesFrom key m rows
    → row_above key n rows ≡ Some x → Has rows y → n < key y → key x ≤ key y
above-least key n m [] x y r e h lt = absurd h
above-least {X} key n m (z ∷ rows) x y r e h lt =
    go (ltb n (key z)) refl (λ k there. above-least key n (key z) rows x y r.1 k there lt) e h
  where
    go : (b : Bool) → ltb n (key z) ≡ b → (row_above key n rows ≡ Some x → Has rows y → key x ≤ key y)
        → cond b (Some z) (row_above key n rows) ≡ Some x → ((z ≡ y) ⊎ Has rows y)
        → key x ≤ key y
    go true t below k (inl same) = let first : z ≡ x = cc in omega (arith, ap key first, ap key same)
    go true t below k (inr there) =
        let first : z ≡ x = cc in
        omega (arith, ap key first, number_above key (key z) rows y r.1 there)
    go false t below k (inl same) =
        let low : key z ≤ n = grind (arith, nat_tests, t) in
        absurd (omega (arith, low, ap key same, lt))
    go false t below k (inr there) = below k there

above-none : {X : Type 0} (key : X → ℕ) (n : ℕ) (rows : List X) (y : X) → row_above key n rows ≡ None → Has rows y
    → key y ≤ n
above-none key n [] y e h = absurd h
above-none key n (z ∷ rows) y e h = go (ltb n (key z)) refl (above-none key n rows y) e h
  where
    go : (b : Bool) → ltb n (key z) ≡ b → (row_above key n rows ≡ None → Has rows y → key y ≤ n) → cond b (Some z) (row_above key n rows) ≡ None → ((z ≡ y) ⊎ Has rows y)
        → key y ≤ n
    go true t below k there = absurd cc
    go false t below k (inl same) =
        let low : key z ≤ n = grind (arith, nat_tests, t) in
        omega (arith, low, ap key same)
    go false t below k (inr there) = below k there

out-below : (span : Span) (id : ℕ) → id ≤ span.after → is_in span id ≡ false
out-below span id le = let low : nat_lt span.after id ≡ false = grind (arith, nat_tests, le) in rw low refl

out-above : (span : Span) (id : ℕ) → span.high < id → is_in span id ≡ false
out-above span id lt = go (nat_lt span.after id) (nat_le id span.high) (grind (arith, nat_tests, lt))
  where
    go : (a b : Bool) → b ≡ false → (a && b && has_bit span.bits id) ≡ false
    go true false e = refl
    go false b e = refl
    go true true e = absurd cc

pub out-begins : {X : Type 0} (key : X → ℕ) (span : Span) (rows : List X) → AreOut key span span.after rows
out-begins key span rows = record { has = λ x h le. out-below span (key x) le }

-- no row up to the one where the numbers end of which none is in the span
out-skipped : {X : Type 0} (key : X → ℕ) (span : Span) (after end : ℕ) (rows : List X) → AreOut key span after rows
    → ((id : ℕ) → after < id → id ≤ end → is_in span id ≡ false) → AreOut key span end rows
out-skipped {X} key span after end rows out none = record { has = λ x h le. go x h le (nat_le (key x) after) refl }
  where
    go : (x : X) → Has rows x → key x ≤ end → (b : Bool) → nat_le (key x) after ≡ b → is_in span (key x) ≡ false
    go x h le true e = out.has x h (grind (arith, nat_tests, e))
    go x h le false e = none (key x) (grind (arith, nat_tests, e)) le

pub out-passed : {X : Type 0} (key : X → ℕ) (span : Span) (after end : ℕ) (rows : List X) (x : X)
    → RisesFrom key 0 rows → AreOut key span after rows
    → ((id : ℕ) → after < id → id ≤ end → is_in span id ≡ false) → row_above key end rows ≡ Some x
    → is_in span (key x) ≡ false → AreOut key span (key x) rows
out-passed {X} key span after end rows x r out none e outside = record { has = λ y h le. go y h le (nat_le (key y) end) refl }
  where
    skipped : AreOut key span end rows
    skipped = out-skipped key span after end rows out none

    go : (y : X) → Has rows y → key y ≤ key x → (b : Bool) → nat_le (key y) end ≡ b → is_in span (key y) ≡ false
    go y h le true t = skipped.has y h (grind (arith, nat_tests, t))
    go y h le false t =
        let far : end < key y = grind (arith, nat_tests, t) in
        let same : key x ≡ key y = omega (arith, le, above-least key end 0 rows x y r e h far) in
        subst (λ k. is_in span k ≡ false) same outside

pub in-found : {X : Type 0} (key : X → ℕ) (span : Span) (after end : ℕ) (rows : List X) (x : X)
    → RisesFrom key 0 rows → AreOut key span after rows
    → ((id : ℕ) → after < id → id ≤ end → is_in span id ≡ false) → row_above key end rows ≡ Some x
    → is_in span (key x) ≡ true → find (λ y. is_in span (key y)) rows ≡ Some x
in-found {X} key span after end rows x r out none e within =
    find-least key (λ y. is_in span (key y)) 0 rows x r (above-has key end rows x e) within
    (λ y h lt. go y h lt (nat_le (key y) end) refl)
  where
    skipped : AreOut key span end rows
    skipped = out-skipped key span after end rows out none

    go : (y : X) → Has rows y → key y < key x → (b : Bool) → nat_le (key y) end ≡ b → is_in span (key y) ≡ false
    go y h lt true t = skipped.has y h (grind (arith, nat_tests, t))
    go y h lt false t =
        let far : end < key y = grind (arith, nat_tests, t) in
        absurd (omega (arith, lt, above-least key end 0 rows x y r e h far))

pub in-none : {X : Type 0} (key : X → ℕ) (span : Span) (after end : ℕ) (rows : List X) → AreOut key span after rows
    → ((id : ℕ) → after < id → id ≤ end → is_in span id ≡ false) → row_above key end rows ≡ None
    → find (λ y. is_in span (key y)) rows ≡ None
in-none key span after end rows out none e =
    let skipped : AreOut key span end rows = out-skipped key span after end rows out none in
    find-none (λ y. is_in span (key y)) rows (λ y h. skipped.has y h (above-none key end rows y e h))

pub in-over : {X : Type 0} (key : X → ℕ) (span : Span) (after : ℕ) (rows : List X) → AreOut key span after rows
    → span.high ≤ after → find (λ y. is_in span (key y)) rows ≡ None
in-over {X} key span after rows out le =
    find-none (λ y. is_in span (key y)) rows (λ y h. go y h (nat_le (key y) after) refl)
  where
    go : (y : X) → Has rows y → (b : Bool) → nat_le (key y) after ≡ b → is_in span (key y) ≡ false
    go y h true t = out.has y h (grind (arith, nat_tests, t))
    go y h false t = out-above span (key y) (omega (arith, le, after-below (key y) t))
      where
        after-below : (k : ℕ) → nat_le k after ≡ false → after < k
        after-below k t = grind (arith, nat_tests, t)

-- a span that is over has none
pub none-over : {X : Type 0} (key : X → ℕ) (span : Span) (rows : List X) → true ≡ nat_le span.high span.after
    → find (λ y. is_in span (key y)) rows ≡ None
none-over key span rows over =
    in-over key span span.after rows (out-begins key span rows) (grind (arith, nat_tests, over))

-- what is left of the numbers
pub less_left : (high after end next : ℕ) → after < high → after ≤ end → end < next → high - next < high - after
less_left high after end next lt le up = omega (arith, lt, le, up)

pub above-end : {X : Type 0} (key : X → ℕ) (n : ℕ) (rows : List X) (x : X) → row_above key n rows ≡ Some x → n < key x
above-end key n [] x e = cc
above-end key n (y ∷ rows) x e = go (ltb n (key y)) refl (above-end key n rows x) e
  where
    go : (b : Bool) → ltb n (key y) ≡ b → (row_above key n rows ≡ Some x → n < key x)
        → cond b (Some y) (row_above key n rows) ≡ Some x → n < key x
    go true t below k =
        let first : y ≡ x = cc in
        let lt : n < key y = grind (arith, nat_tests, t) in
        omega (arith, lt, ap key first)
    go false t below k = below k

-- What the first row in a span that covers all tells.

covers-rest : {X : Type 0} (key : X → ℕ) (test : X → Bool) (span : Span) (y : X) (rows : List X)
    → Covers key test span (y ∷ rows) → Covers key test span rows
covers-rest key test span y rows c = record { has = λ x h e. c.has x (inr h) e }

pub first-found : {X : Type 0} (key : X → ℕ) (test : X → Bool) (span : Span) (rows : List X) (x : X)
    → Covers key test span rows → find (λ y. is_in span (key y)) rows ≡ Some x → test x ≡ true
    → find test rows ≡ Some x
first-found key test span [] x c e passes = cc
first-found key test span (y ∷ rows) x c e passes =
    go (is_in span (key y)) (test y) (c.has y (inl refl))
    (first-found key test span rows x (covers-rest key test span y rows c)) e refl
  where
    go : (i p : Bool) → (p ≡ true → i ≡ true)
        → (find (λ y. is_in span (key y)) rows ≡ Some x → test x ≡ true → find test rows ≡ Some x)
        → cond i (Some y) (find (λ y. is_in span (key y)) rows) ≡ Some x → test y ≡ p
        → cond p (Some y) (find test rows) ≡ Some x
    go true true within below k t = k
    go true false within below k t =
        let same : y ≡ x = cc in
        let both : true ≡ false = sym passes ∙ ap test (sym same) ∙ t in
        absurd cc
    go false true within below k t = let both : false ≡ true = within refl in absurd cc
    go false false within below k t = below k passes

pub first-none : {X : Type 0} (key : X → ℕ) (test : X → Bool) (span : Span) (rows : List X) → Covers key test span rows
    → find (λ y. is_in span (key y)) rows ≡ None → find test rows ≡ None
first-none key test span [] c e = refl
first-none key test span (y ∷ rows) c e =
    go (is_in span (key y)) (test y) (c.has y (inl refl))
    (first-none key test span rows (covers-rest key test span y rows c)) e
  where
    go : (i p : Bool) → (p ≡ true → i ≡ true) → (find (λ y. is_in span (key y)) rows ≡ None → find test rows ≡ None)
        → cond i (Some y) (find (λ y. is_in span (key y)) rows) ≡ None → cond p (Some y) (find test rows) ≡ None
    go true p within below k = absurd cc
    go false true within below k = let both : false ≡ true = within refl in absurd cc
    go false false within below k = below k

-- no row passes where none is found
pub nothing-passes : {X : Type 0} (test : X → Bool) (rows : List X) → find test rows ≡ None → (x : X) → Has rows x
    → test x ≡ false
nothing-passes test [] e x h = absurd h
nothing-passes {X} test (y ∷ rows) e x h = go (test y) refl (nothing-passes test rows) e h
  where
    go : (p : Bool) → test y ≡ p → (find test rows ≡ None → (x : X) → Has rows x → test x ≡ false)
        → cond p (Some y) (find test rows) ≡ None → ((y ≡ x) ⊎ Has rows x) → test x ≡ false
    go true t below k h = absurd cc
    go false t below k (inl same) = ap test (sym same) ∙ t
    go false t below k (inr h) = below k x h

-- a number above the one that is passed stays: where the bit is cleared, it lies too near to have the same
pub in-rest : (span : Span) (id k : ℕ) → is_in span k ≡ true → id < k → is_in (beyond span id) k ≡ true
in-rest span id k i lt = is-between (beyond span id) k lt high (bit (nat_lt (span.high - id) 1024) refl)
  where
    high : k ≤ span.high
    high = high-end span k i

    apart : span.high - id < 1024 → have_one_bit k id ≡ false
    apart near =
        let differ : k % 1024 ≢ id % 1024 = λ e. omega (arith, e, lt, high, near) in
        grind (arith, nat_tests, differ)

    bit : (b : Bool) → nat_lt (span.high - id) 1024 ≡ b
        → has_bit (cond b (without_bit span.bits id) span.bits) k ≡ true
    bit true e = other_bits span.bits id k (apart (grind (arith, nat_tests, e))) (bit-of span k i)
    bit false e = bit-of span k i

-- rows behind the first one in the span have greater numbers
pub passed : {X : Type 0} (key : X → ℕ) (test : X → Bool) (span : Span) (n : ℕ) (rows : List X) (x : X)
    → RisesFrom key n rows → Covers key test span rows → find (λ y. is_in span (key y)) rows ≡ Some x
    → test x ≡ false → (y : X) → Has rows y → test y ≡ true → is_in (beyond span (key x)) (key y) ≡ true
passed key test span n [] x r c e fails y h passes = absurd h
passed {X} key test span n (z ∷ rows) x r c e fails y h passes = go (is_in span (key z)) refl e h
    (λ k h. passed key test span (key z) rows x r.1 (covers-rest key test span z rows c) k fails y h passes)
  where
    low : (z ≡ x) → Has rows y → key x < key y
    low same h = subst (λ w. key w < key y) same (above (key z) rows r.1 h)
      where
        above : (k : ℕ) (rows : List X) → RisesFrom key k rows → Has rows y → k < key y
        above k [] r h = absurd h
        above k (w ∷ rows) r (inl e) = subst (λ v. k < key v) e r.0
        above k (w ∷ rows) r (inr h) = omega (arith, r.0, above (key w) rows r.1 h)

    wide : is_in span (key y) ≡ true → key x < key y → is_in (beyond span (key x)) (key y) ≡ true
    wide i lt = in-rest span (key x) (key y) i lt

    go : (i : Bool) → is_in span (key z) ≡ i → cond i (Some z) (find (λ y. is_in span (key y)) rows) ≡ Some x
        → ((z ≡ y) ⊎ Has rows y)
        → (find (λ y. is_in span (key y)) rows ≡ Some x → Has rows y → is_in (beyond span (key x)) (key y) ≡ true)
        → is_in (beyond span (key x)) (key y) ≡ true
    go true i k (inl same) below =
        let other : z ≡ x = cc in
        let both : true ≡ false = sym passes ∙ ap test (sym same ∙ other) ∙ fails in
        absurd cc
    go true i k (inr h) below = let same : z ≡ x = cc in wide (c.has y (inr h) passes) (low same h)
    go false i k (inl same) below =
        let both : true ≡ false = sym (c.has y (inl same) passes) ∙ ap (λ w. is_in span (key w)) (sym same) ∙ i in
        absurd cc
    go false i k (inr h) below = below k h

pub found-in : {X : Type 0} (key : X → ℕ) (span : Span) (rows : List X) (x : X)
    → find (λ y. is_in span (key y)) rows ≡ Some x → is_in span (key x) ≡ true
found-in key span [] x e = cc
found-in key span (y ∷ rows) x e = go (is_in span (key y)) refl (found-in key span rows x) e
  where
    go : (i : Bool) → is_in span (key y) ≡ i
        → (find (λ y. is_in span (key y)) rows ≡ Some x → is_in span (key x) ≡ true)
        → cond i (Some y) (find (λ y. is_in span (key y)) rows) ≡ Some x → is_in span (key x) ≡ true
    go true i below k = let same : y ≡ x = cc in ap (λ w. is_in span (key w)) (sym same) ∙ i
    go false i below k = below k

-- what is left gets less
pub less-left : {X : Type 0} (key : X → ℕ) (span left : Span) (rows : List X) (x : X)
    → find (λ y. is_in span (key y)) rows ≡ Some x → left ≡ beyond span (key x)
    → left.high - left.after < span.high - span.after
less-left key span left rows x e is =
    let i : is_in span (key x) ≡ true = found-in key span rows x e in
    let low : span.after < key x = low-end span (key x) i in
    let high : key x ≤ span.high = high-end span (key x) i in
    subst (λ s. s.high - s.after < span.high - span.after) (sym is) (omega (arith, low, high))

-- where no row in the span is left, no number is
pub none-left : {X : Type 0} (key : X → ℕ) (test : X → Bool) (span : Span) (rows : List X) → Covers key test span rows
    → find (λ y. is_in span (key y)) rows ≡ None → Covers key test empty rows
none-left key test span rows c e = record {
  has = λ x h passes.
      let both : true ≡ false = sym passes ∙ nothing-passes test rows (first-none key test span rows c e) x h in
      absurd cc;
}
