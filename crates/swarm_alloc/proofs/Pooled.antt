-- A pool in which all held numbers are taken has their least free number.
use Rattle.std.proofs.Common.{◌≡◌, ◌∙◌, ◌+◌, ◌<◌, ◌≤◌, ◌⊎◌, Bool, List, None, Option, Some, [], ap, arith, cond, drop, false, inl, inr, leb, length, min, refl, subst, suc, sym, true, zero, ℕ, ◌∷◌}
use Rattle.std.proofs.lemmas.Bool.Decides.{nat_tests}
use Rattle.std.specs.Prelude.{fold, ◌&&◌}
use Rattle.swarm_alloc.proofs.NearGaps.{gap-near}
use Rattle.swarm_objects.proofs.Gaps.{Has-with_number_keeps, Has-with_row, first_gap-ge}
use Rattle.swarm_objects.proofs.FreeNumbers.{is_taken, not-Has, taken-Has}
use Rattle.swarm_objects.proofs.Rising.{gap-free, gap-held, rising-cases, rising-has, rising-rises, with_number-cases}
use Rattle.swarm_objects.specs.Rows.{Has, IsRising, first_free, first_gap, itself, rising, with_number}

-- what is taken, and this number, where it is one of the pool's
abbrev pub keep_number : ℕ → ℕ → List ℕ → ℕ → List ℕ
keep_number low high taken k = cond (leb low k && leb k high) (with_number k taken) taken

-- and these numbers
abbrev pub keep_numbers : ℕ → ℕ → List ℕ → List ℕ → List ℕ
keep_numbers low high taken ks = fold (keep_number low high) taken ks

keeps_old : (low high k m : ℕ) (taken : List ℕ) → Has taken m → Has (keep_number low high taken k) m
keeps_old low high k m taken h = go (leb low k && leb k high)
  where
    go : (b : Bool) → Has (cond b (with_number k taken) taken) m
    go true = Has-with_number_keeps k m taken h
    go false = h

keeps_new : (low high k : ℕ) (taken : List ℕ) → low ≤ k → k ≤ high → Has (keep_number low high taken k) k
keeps_new low high k taken ge le =
    let yes' : (leb low k && leb k high) ≡ true = grind (arith, nat_tests) in
    subst (λ (b : Bool). Has (cond b (with_number k taken) taken) k) (sym yes') (Has-with_row itself k taken)

keep_cases : (low high k m : ℕ) (taken : List ℕ) → Has (keep_number low high taken k) m → (k ≡ m) ⊎ Has taken m
keep_cases low high k m taken h = go (leb low k && leb k high) h
  where
    go : (b : Bool) → Has (cond b (with_number k taken) taken) m → (k ≡ m) ⊎ Has taken m
    go true t = with_number-cases k m taken t
    go false t = inr t

stays : (low high : ℕ) (taken ks : List ℕ) (m : ℕ) → Has taken m → Has (keep_numbers low high taken ks) m
stays low high taken [] m h = h
stays low high taken (k ∷ ks) m h = stays low high (keep_number low high taken k) ks m (keeps_old low high k m taken h)

kept_has : (low high : ℕ) (taken ks : List ℕ) (m : ℕ) → low ≤ m → m ≤ high → Has ks m →
    Has (keep_numbers low high taken ks) m
kept_has low high taken [] m ge le h = absurd h
kept_has low high taken (k ∷ ks) m ge le (inl e) =
    stays low high (keep_number low high taken k) ks m
    (subst (λ (n : ℕ). Has (keep_number low high taken k) n) e
    (keeps_new low high k taken (omega (arith, e)) (omega (arith, e))))
kept_has low high taken (k ∷ ks) m ge le (inr h) = kept_has low high (keep_number low high taken k) ks m ge le h

kept_cases : (low high : ℕ) (taken ks : List ℕ) (m : ℕ) → Has (keep_numbers low high taken ks) m →
    Has taken m ⊎ Has ks m
kept_cases low high taken [] m h = inl h
kept_cases low high taken (k ∷ ks) m h = elim (kept_cases low high (keep_number low high taken k) ks m h) [
  | inl t ↦ (elim (keep_cases low high k m taken t) [ inl e ↦ inr (inl e) | inr u ↦ inl u ])
  | inr t ↦ inr (inr t)
]

-- rising numbers that agree up to the highest have one first gap up to there

abbrev up_to : ℕ → ℕ → Option ℕ
up_to high g = cond (leb g high) (Some g) None

past : (high from : ℕ) (ks : List ℕ) → high < from → up_to high (first_gap from ks) ≡ None
past high from ks lt = none (first_gap from ks) (first_gap-ge from ks)
  where
    none : (g : ℕ) → from ≤ g → up_to high g ≡ None
    none g le = grind (arith, nat_tests)

same_gap : (count high from : ℕ) (ks js : List ℕ) → high + 1 ≤ from + count → IsRising itself ks → IsRising itself js →
    ((m : ℕ) → from ≤ m → m ≤ high → Has ks m → Has js m) →
    ((m : ℕ) → from ≤ m → m ≤ high → Has js m → Has ks m) →
    up_to high (first_gap from ks) ≡ up_to high (first_gap from js)
same_gap zero high from ks js enough rk rj there back =
    past high from ks (omega arith) ∙ sym (past high from js (omega arith))
same_gap (suc count) high from ks js enough rk rj there back =
    go (leb from high) refl (is_taken ks from) refl
    (same_gap count high (from + 1) ks js (omega arith) rk rj (λ m ge. there m (omega arith))
    (λ m ge. back m (omega arith)))
  where
    go : (a : Bool) → leb from high ≡ a → (b : Bool) → is_taken ks from ≡ b →
        up_to high (first_gap (from + 1) ks) ≡ up_to high (first_gap (from + 1) js) →
        up_to high (first_gap from ks) ≡ up_to high (first_gap from js)
    go false above b taken below =
        let lt : high < from = grind (arith, nat_tests) in past high from ks lt ∙ sym (past high from js lt)
    go true within true taken below =
        let le : from ≤ high = grind (arith, nat_tests) in
        let h = taken-Has ks from taken in
        ap (λ g. up_to high g) (gap-held from ks rk h)
        ∙ below
        ∙ sym (ap (λ g. up_to high g) (gap-held from js rj (there from (omega arith) le h)))
    go true within false taken below =
        let le : from ≤ high = grind (arith, nat_tests) in
        let free = not-Has ks from taken in
        ap (λ g. up_to high g)
        (gap-free from ks free ∙ sym (gap-free from js (λ h. free (back from (omega arith) le h))))

-- the least number that is free, of all held ones
kept_free : (low high : ℕ) (ks : List ℕ) → first_free low high (keep_numbers low high [] ks) ≡ first_free low high ks
kept_free low high ks =
    let taken = keep_numbers low high [] ks in
    same_gap (high + 1) high low (rising taken) (rising ks) (omega arith) (rising-rises taken) (rising-rises ks)
    (λ m ge le h. rising-has ks m (elim (kept_cases low high [] ks m (rising-cases taken m h)) [
      | inl none ↦ absurd none
      | inr t ↦ t
    ]))
    (λ m ge le h. rising-has taken m (kept_has low high [] ks m ge le (rising-cases ks m h)))

none_left : {X : Type 0} (xs : List X) (i : ℕ) → length xs ≤ i → drop i xs ≡ []
none_left [] zero le = refl
none_left [] (suc i) le = refl
none_left (x ∷ xs) zero le = absurd (omega (arith, le))
none_left (x ∷ xs) (suc i) le = none_left xs i (omega (arith, le))

-- it is at most so far off as there are held ones
near_free : (low high : ℕ) (held : List ℕ) →
    first_free low (min high (low + length held)) held ≡ first_free low high held
near_free low high held = go (first_gap low (rising held)) (gap-near low held)
  where
    go : (g : ℕ) → g ≤ low + length held → up_to (min high (low + length held)) g ≡ up_to high g
    go g near = ap (λ (b : Bool). cond b (Some g) None) (same (leb g high) refl)
      where
        same : (b : Bool) → leb g high ≡ b → leb g (min high (low + length held)) ≡ b
        same true e = grind (arith, nat_tests, near)
        same false e = grind (arith, nat_tests, near)

-- told of a pool that was asked when all held numbers were taken
pub pool_free : (low high needed first last : ℕ) (taken held : List ℕ) (i : ℕ) (free : Option ℕ) →
    needed ≡ min high (low + length held) → free ≡ first_free first last taken → first ≡ low → last ≡ needed →
    length held ≤ i → keep_numbers low needed taken (drop i held) ≡ keep_numbers low needed [] held →
    free ≡ first_free low high held
pool_free low high needed first last taken held i free enough is same_low same_high past_all e =
    let all : taken ≡ keep_numbers low needed [] held =
    ap (keep_numbers low needed taken) (sym (none_left held i past_all)) ∙ e in
    is ∙ ap (λ n. first_free n last taken) same_low ∙ ap (λ n. first_free low n taken) same_high
    ∙ ap (first_free low needed) all ∙ kept_free low needed held
    ∙ ap (λ n. first_free low n held) enough ∙ near_free low high held
