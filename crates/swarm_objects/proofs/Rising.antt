-- Numbers among rising ones, and the first that is none of them.
use Rattle.std.proofs.Common.{◌≡◌, ◌∙◌, ◌+◌, ◌<◌, ◌⊎◌, ◌++◌, Bool, List, [], ap, arith, cond, eqb, false, inl, inr, ltb, refl, subst, sym, true, ℕ, ◌∷◌}
use Rattle.std.proofs.lemmas.Bool.Decides.{nat_tests}
use Rattle.std.proofs.lemmas.Grind.{fold-append}
use Rattle.std.specs.Prelude.{fold, map}
use Rattle.swarm_objects.proofs.Gaps.{Has-with_number_keeps, Has-with_row, IsRising-with_row}
use Rattle.swarm_objects.proofs.RowLemmas.{Has-append_cases, Has-map_cases, number_above}
use Rattle.swarm_objects.specs.Rows.{Has, IsRising, RisesFrom, first_gap, itself, rising, with_number}

pub with_number-cases : (k i : ℕ) (ks : List ℕ) → Has (with_number k ks) i → (k ≡ i) ⊎ Has ks i
with_number-cases k i [] h = elim h [ inl e ↦ inl e | inr none ↦ absurd none ]
with_number-cases k i (j ∷ js) h = go (ltb k j) (eqb k j) (with_number-cases k i js) h
  where
    go : (a b : Bool) → (Has (with_number k js) i → (k ≡ i) ⊎ Has js i) →
        Has (cond a (k ∷ j ∷ js) (cond b (k ∷ js) (j ∷ with_number k js))) i → (k ≡ i) ⊎ Has (j ∷ js) i
    go true b below (inl e) = inl e
    go true b below (inr t) = inr t
    go false true below (inl e) = inl e
    go false true below (inr t) = inr (inr t)
    go false false below (inl e) = inr (inl e)
    go false false below (inr t) = elim (below t) [ inl e ↦ inl e | inr u ↦ inr (inr u) ]

-- a number among rising ones
pub rising-has : (numbers : List ℕ) (k : ℕ) → Has numbers k → Has (rising numbers) k
rising-has numbers k h = go [] numbers h
  where
    keeps : (ks xs : List ℕ) → Has ks k → Has (fold (λ ks n. with_number n ks) ks xs) k
    keeps ks [] j = j
    keeps ks (x ∷ xs) j = keeps (with_number x ks) xs (Has-with_number_keeps x k ks j)

    go : (ks xs : List ℕ) → Has xs k → Has (fold (λ ks n. with_number n ks) ks xs) k
    go ks [] j = absurd j
    go ks (x ∷ xs) (inl e) =
        keeps (with_number x ks) xs (subst (λ (n : ℕ). Has (with_number x ks) n) e (Has-with_row itself x ks))
    go ks (x ∷ xs) (inr j) = go (with_number x ks) xs j

-- all of them among rising ones
abbrev insert_all : List ℕ → List ℕ → List ℕ
insert_all acc js = fold (λ ks k. with_number k ks) acc js

insert_all-cases : (js acc : List ℕ) (j : ℕ) → Has (insert_all acc js) j → Has acc j ⊎ Has js j
insert_all-cases [] acc j h = inl h
insert_all-cases (k ∷ js) acc j h = go (insert_all-cases js (with_number k acc) j h)
  where
    go : Has (with_number k acc) j ⊎ Has js j → Has acc j ⊎ Has (k ∷ js) j
    go (inl m) = elim (with_number-cases k j acc m) [ inl e ↦ inr (inl e) | inr n ↦ inl n ]
    go (inr m) = inr (inr m)

pub rising-cases : (numbers : List ℕ) (k : ℕ) → Has (rising numbers) k → Has numbers k
rising-cases numbers k h = elim (insert_all-cases numbers [] k h) [ inl none ↦ absurd none | inr t ↦ t ]

pub rising-rises : (numbers : List ℕ) → IsRising itself (rising numbers)
rising-rises numbers = go [] numbers tt
  where
    go : (ks xs : List ℕ) → IsRising itself ks → IsRising itself (fold (λ ks n. with_number n ks) ks xs)
    go ks [] r = r
    go ks (x ∷ xs) r = go (with_number x ks) xs (IsRising-with_row itself x ks r)

pub gap-free : (from : ℕ) (ks : List ℕ) → ¬ (Has ks from) → first_gap from ks ≡ from
gap-free from [] free = refl
gap-free from (k ∷ ks) free = go (ltb k from) (eqb k from) refl (gap-free from ks (λ t. free (inr t)))
  where
    go : (a b : Bool) → eqb k from ≡ b → first_gap from ks ≡ from →
        cond a (first_gap from ks) (cond b (first_gap (from + 1) ks) from) ≡ from
    go true b e below = below
    go false true e below = absurd (let same : k ≡ from = grind (arith, nat_tests) in free (inl same))
    go false false e below = refl

gap_step : (k from : ℕ) (ks : List ℕ) → RisesFrom itself k ks → Has (k ∷ ks) from →
    (Has ks from → first_gap from ks ≡ first_gap (from + 1) ks) →
    first_gap from (k ∷ ks) ≡ first_gap (from + 1) (k ∷ ks)
gap_step k from ks r (inl same) below = grind (arith, nat_tests, same)
gap_step k from ks r (inr t) below = let above = number_above itself k ks from r t in grind (arith, nat_tests, below t)

gap_above : (n from : ℕ) (ks : List ℕ) → RisesFrom itself n ks → Has ks from →
    first_gap from ks ≡ first_gap (from + 1) ks
gap_above n from [] r h = absurd h
gap_above n from (k ∷ ks) r h = gap_step k from ks r.1 h (gap_above k from ks r.1)

pub gap-held : (from : ℕ) (ks : List ℕ) → IsRising itself ks → Has ks from → first_gap from ks ≡ first_gap (from + 1) ks
gap-held from [] r h = absurd h
gap-held from (k ∷ ks) r h = gap_step k from ks r h (gap_above k from ks r)

-- Two lists of numbers as one, the least number first.

abbrev pub AllAbove : ℕ → List ℕ → Type 0
AllAbove k js = (j : ℕ) → Has js j → k < j

insert-first : (k : ℕ) (acc : List ℕ) → AllAbove k acc → with_number k acc ≡ k ∷ acc
insert-first k [] above = refl
insert-first k (j ∷ acc) above =
    let lt : k < j = above j (inl refl) in
    let less : ltb k j ≡ true = grind (arith, nat_tests) in
    rw less refl

insert-again : (k : ℕ) (acc : List ℕ) → with_number k (k ∷ acc) ≡ k ∷ acc
insert-again k acc =
    let less : ltb k k ≡ false = grind (arith, nat_tests) in
    let same : eqb k k ≡ true = grind (arith, nat_tests) in
    rw (less, same) refl

insert-behind : (k j : ℕ) (acc : List ℕ) → k < j → with_number j (k ∷ acc) ≡ k ∷ with_number j acc
insert-behind k j acc lt =
    let less : ltb j k ≡ false = grind (arith, nat_tests) in
    let same : eqb j k ≡ false = grind (arith, nat_tests) in
    rw (less, same) refl

insert_all-behind : (k : ℕ) (js acc : List ℕ) → AllAbove k js → insert_all (k ∷ acc) js ≡ k ∷ insert_all acc js
insert_all-behind k [] acc above = refl
insert_all-behind k (j ∷ js) acc above =
    ap (λ ks. insert_all ks js) (insert-behind k j acc (above j (inl refl)))
    ∙ insert_all-behind k js (with_number j acc) (λ i h. above i (inr h))

pub above-rising : (k : ℕ) (js : List ℕ) → AllAbove k js → AllAbove k (rising js)
above-rising k js above j h = above j (rising-cases js j h)

pub above-append : (k : ℕ) (is js : List ℕ) → AllAbove k is → AllAbove k js → AllAbove k (is ++ js)
above-append k is js a b j h = elim (Has-append_cases is js j h) [ inl m ↦ a j m | inr m ↦ b j m ]

-- the least number comes first, whether it stands in the first list, in the second, or in both
pub rising-first : (k : ℕ) (is js : List ℕ) → AllAbove k is → AllAbove k js → rising ((k ∷ is) ++ js) ≡ k ∷ rising (is ++ js)
rising-first k is js a b = insert_all-behind k (is ++ js) [] (above-append k is js a b)

pub rising-second : (k : ℕ) (is js : List ℕ) → AllAbove k is → AllAbove k js → rising (is ++ k ∷ js) ≡ k ∷ rising (is ++ js)
rising-second k is js a b =
    fold-append (λ ks j. with_number j ks) [] is (k ∷ js)
    ∙ ap (λ ks. insert_all ks js) (insert-first k (rising is) (above-rising k is a))
    ∙ insert_all-behind k js (rising is) b
    ∙ ap (λ ks. k ∷ ks) (sym (fold-append (λ ks j. with_number j ks) [] is js))

pub rising-both : (k : ℕ) (is js : List ℕ) → AllAbove k is → AllAbove k js → rising ((k ∷ is) ++ k ∷ js) ≡ k ∷ rising (is ++ js)
rising-both k is js a b =
    fold-append (λ ks j. with_number j ks) (k ∷ []) is (k ∷ js)
    ∙ ap (λ ks. insert_all (with_number k ks) js) (insert_all-behind k is [] a)
    ∙ ap (λ ks. insert_all ks js) (insert-again k (rising is))
    ∙ insert_all-behind k js (rising is) b
    ∙ ap (λ ks. k ∷ ks) (sym (fold-append (λ ks j. with_number j ks) [] is js))

pub keys-above : {X : Type 0} (key : X → ℕ) (id : ℕ) (rows : List X) → RisesFrom key id rows → AllAbove id (map key rows)
keys-above key id rows r j h =
    let m = Has-map_cases key rows j h in
    subst (λ k. id < k) m.2 (number_above key id rows m.0 r m.1)
