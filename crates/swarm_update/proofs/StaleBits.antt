-- The bits of stale places, one by one.
use Rattle.std.proofs.Common.{◌≡◌, ◌≢◌, ◌∙◌, ◌%◌, ◌*◌, ◌/◌, ◌<◌, ◌^◌, ◌==◌, Bool, ap, arith, bit_and, bit_or, eqb, false, get_or, length, refl, set, suc, sym, true, zero, ℕ}
use Rattle.std.proofs.lemmas.Bool.Decides.{nat_tests}
use Rattle.std.proofs.lemmas.List.{get_or-set_other, get_or-set_same}
use Rattle.std.proofs.lemmas.Nat.Bits.{bit_at-zero, bit_at_set_other, bit_at_set_same, shr_and_one}
use Rattle.std.specs.Int.{bit_at, w64}
use Rattle.std.specs.Prelude.{replicate, ◌||◌}
use Rattle.swarm_update.specs.StalePlaces.{is_stale}
use Rattle.swarm_update.specs.declared.stale_places.StalePlaces.{StalePlaces}

zeros : (n i z : ℕ) → get_or (replicate n z) i z ≡ z
zeros zero i z = refl
zeros (suc n) zero z = refl
zeros (suc n) (suc i) z = zeros n i z

pub none_stale : (k : ℕ) → is_stale (record { words = replicate 16 0 }) k ≡ false
unfolding is_stale
none_stale k =
    ap (λ (n : ℕ). eqb n 1) (ap (λ (n : ℕ). bit_at n (k % 64)) (zeros 16 (k / 64) 0) ∙ bit_at-zero (k % 64))

pub bit_read : (stale : StalePlaces) (k : ℕ)
    → (bit_and (get_or stale.words (k / 64) 0 / 2 ^ (k % 64)) 1 == 1) ≡ is_stale stale k
unfolding is_stale
bit_read stale k = ap (λ (n : ℕ). eqb n 1) (shr_and_one (get_or stale.words (k / 64) 0) (k % 64))

pub word_none : (stale : StalePlaces) (word k : ℕ) → get_or stale.words word 0 ≡ 0 → k / 64 ≡ word
    → is_stale stale k ≡ false
unfolding is_stale
word_none stale word k blank is =
    ap (λ (n : ℕ). eqb n 1)
    (ap (λ (n : ℕ). bit_at n (k % 64)) (ap (λ (n : ℕ). get_or stale.words n 0) is ∙ blank) ∙ bit_at-zero (k % 64))

-- the word of a number with its bit set
abbrev pub with_bit : StalePlaces → ℕ → StalePlaces
with_bit stale k = record {
  words = set stale.words (k / 64) (bit_or (get_or stale.words (k / 64) 0) (1 * 2 ^ (k % 64) % 2 ^ 64));
}

pub bit_added : (stale : StalePlaces) (k j : ℕ) → length stale.words ≡ 16 → k < 1024
    → is_stale (with_bit stale k) j ≡ (j == k || is_stale stale j)
unfolding is_stale
bit_added stale k j long lt = by_word (j / 64 == k / 64) refl
  where
    word : ℕ
    word = get_or stale.words (k / 64) 0

    v : ℕ
    v = bit_or word (1 * 2 ^ (k % 64) % 2 ^ 64)

    there : k / 64 < length stale.words
    there = omega (arith, long, lt)

    place : k % 64 < 64
    place = omega arith

    by_bit : j / 64 ≡ k / 64 → (b : Bool) → (j == k) ≡ b
        → (bit_at v (j % 64) == 1) ≡ (b || (bit_at word (j % 64) == 1))
    by_bit same true e =
        let is : j ≡ k = grind (arith, nat_tests, e) in
        ap (λ (n : ℕ). eqb n 1)
        (ap (λ (n : ℕ). bit_at v (n % 64)) is ∙ bit_at_set_same w64 word (k % 64) place)
    by_bit same false e =
        let apart : j ≢ k = grind (arith, nat_tests, e) in
        let differ : j % 64 ≢ k % 64 = λ d. apart (omega (arith, same, d)) in
        ap (λ (n : ℕ). eqb n 1) (bit_at_set_other w64 word (k % 64) place (j % 64) differ)

    by_word : (b : Bool) → (j / 64 == k / 64) ≡ b → is_stale (with_bit stale k) j ≡ (j == k || is_stale stale j)
    by_word true e =
        let same : j / 64 ≡ k / 64 = grind (arith, nat_tests, e) in
        ap (λ (n : ℕ). eqb (bit_at n (j % 64)) 1)
        (ap (λ (n : ℕ). get_or (set stale.words (k / 64) v) n 0) same ∙ get_or-set_same stale.words (k / 64) v 0 there)
        ∙ by_bit same (j == k) refl
        ∙ ap (λ (n : ℕ). j == k || (bit_at (get_or stale.words n 0) (j % 64) == 1)) (sym same)
    by_word false e =
        let differ : j / 64 ≢ k / 64 = grind (arith, nat_tests, e) in
        let apart : (j == k) ≡ false = grind (arith, nat_tests, differ) in
        ap (λ (n : ℕ). eqb (bit_at n (j % 64)) 1) (get_or-set_other stale.words (k / 64) (j / 64) v 0 differ)
        ∙ sym (ap (λ b. b || (bit_at (get_or stale.words (j / 64) 0) (j % 64) == 1)) apart)
