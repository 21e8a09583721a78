-- The bits of a word, one by one.
use Rattle.std.proofs.Common.{◌≡◌, ◌≢◌, ◌==◌, ◌&&◌, ◌||◌, ◌+◌, ◌-◌, ◌*◌, ◌%◌, ◌<◌, ◌^◌, Bool, ap, arith, bit_and, bit_or, eqb, false, ltb, not, refl, subst, sym, true, ℕ, ◌∙◌, ◌⊎◌, inl, inr}
use Rattle.std.specs.Int.{bit_at, bit_not, w64}
use Rattle.std.proofs.lemmas.Bool.Decides.{nat_tests}
use Rattle.std.proofs.lemmas.Nat.Bits.{bit_at-trailing_ones, bit_at_clear_other, bit_at_clear_same, bit_at_ones, bit_at_set_other, bit_at_set_same}
use lib.Count.{count_trailing_zeros}
use Rattle.swarm_pools.specs.Places.{has_bit, low_ones}

most_or_less : (word : ℕ) → word < 2 ^ 64 → (word + 1 < 2 ^ 64) ⊎ (word ≡ 2 ^ 64 - 1)
most_or_less word lt = go (ltb (word + 1) (2 ^ 64)) refl
  where
    go : (b : Bool) → ltb (word + 1) (2 ^ 64) ≡ b → (word + 1 < 2 ^ 64) ⊎ (word ≡ 2 ^ 64 - 1)
    go true e = inl (grind (arith, nat_tests))
    go false e = inr (grind (arith, nat_tests))

all_ones : low_ones (2 ^ 64 - 1) ≡ 64
unfolding count_trailing_zeros
all_ones = refl

pub ones_set : (word place : ℕ) → word < 2 ^ 64 → place < low_ones word → has_bit word place ≡ true
ones_set word place lt within = go (most_or_less word lt)
  where
    go : (word + 1 < 2 ^ 64) ⊎ (word ≡ 2 ^ 64 - 1) → has_bit word place ≡ true
    go (inl less) = ap (λ (n : ℕ). eqb n 1) ((bit_at-trailing_ones w64 word less).2 place within)
    go (inr is) =
        let below : place < 64 = omega (arith, ap low_ones is, all_ones) in
        ap (λ (n : ℕ). eqb n 1) (ap (λ (n : ℕ). bit_at n place) is ∙ bit_at_ones 64 place below)

pub ones_end : (word ones : ℕ) → ones ≡ low_ones word → word < 2 ^ 64 → ones < 64 → has_bit word ones ≡ false
ones_end word ones same lt within = go (most_or_less word lt)
  where
    go : (word + 1 < 2 ^ 64) ⊎ (word ≡ 2 ^ 64 - 1) → has_bit word ones ≡ false
    go (inl less) =
        ap (λ (n : ℕ). eqb n 1)
        (subst (λ (n : ℕ). bit_at word n ≡ 0) (sym same) (bit_at-trailing_ones w64 word less).1)
    go (inr is) = absurd (omega (arith, same, ap low_ones is, all_ones))

pub bit_set : (word place other : ℕ) → place < 64 →
    has_bit (bit_or word (1 * 2 ^ place % 2 ^ 64)) other ≡ (other == place || has_bit word other)
bit_set word place other within = go (eqb other place) refl
  where
    go : (b : Bool) → eqb other place ≡ b →
        has_bit (bit_or word (1 * 2 ^ place % 2 ^ 64)) other ≡ (b || has_bit word other)
    go true e =
        let is : place ≡ other = grind (arith, nat_tests) in
        ap (λ (n : ℕ). eqb n 1)
        (subst (λ (n : ℕ). bit_at (bit_or word (1 * 2 ^ place % 2 ^ 64)) n ≡ 1) is (bit_at_set_same w64 word place within))
    go false e =
        let differ : other ≢ place = grind (arith, nat_tests) in
        ap (λ (n : ℕ). eqb n 1) (bit_at_set_other w64 word place within other differ)

pub bit_cleared : (word place other : ℕ) → place < 64 → other < 64 →
    has_bit (bit_and word (2 ^ 64 - 1 - 1 * 2 ^ place % 2 ^ 64)) other ≡ (not (other == place) && has_bit word other)
bit_cleared word place other within below = go (eqb other place) refl
  where
    go : (b : Bool) → eqb other place ≡ b →
        has_bit (bit_and word (2 ^ 64 - 1 - 1 * 2 ^ place % 2 ^ 64)) other ≡ (not b && has_bit word other)
    go true e =
        let is : place ≡ other = grind (arith, nat_tests) in
        ap (λ (n : ℕ). eqb n 1)
        (subst (λ (n : ℕ). bit_at (bit_and word (bit_not w64 (1 * 2 ^ place % 2 ^ 64))) n ≡ 0) is
        (bit_at_clear_same w64 word place within))
    go false e =
        let differ : other ≢ place = grind (arith, nat_tests) in
        ap (λ (n : ℕ). eqb n 1) (bit_at_clear_other w64 word place within other below differ)
