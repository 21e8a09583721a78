-- Bits of numbers by their rests.
use Rattle.std.proofs.Common.{◌≡◌, ◌≢◌, ◌∙◌, ◌%◌, ◌*◌, ◌+◌, ◌-◌, ◌/◌, ◌<◌, ◌≤◌, ◌^◌, ◌==◌, Bool, List, ap, arith, bit_and, bit_or, eqb, false, get_or, length, ltb, refl, set, sym, true, ℕ}
use Rattle.std.proofs.lemmas.Bool.Decides.{nat_tests}
use Rattle.std.proofs.lemmas.List.{get_or-replicate, get_or-set_other, get_or-set_same, get_or_default, get_or_past, length-set, set_past}
use Rattle.std.proofs.lemmas.Nat.Bits.{bit_at-lt, bit_at-pow_same, bit_at_above, bit_at_clear_other, bit_at_ones, bit_at_or, bit_at-trailing_zeros, bit_at-zero, shr_and_one}
use Rattle.std.proofs.lemmas.Nat.{one_shl, shr-shr}
use Rattle.std.specs.Int.{bit_at, trailing_zeros, w64}
use Rattle.swarm_spans.specs.Bits.{all_bits, has_bit, have_one_bit, with_bit, with_word, without_bit, word, word_of}
use Rattle.swarm_spans.specs.declared.bits.Bits.{Bits}

pub all_have : (k : ℕ) → has_bit all_bits k ≡ true
unfolding has_bit
all_have k =
    ap (λ (n : ℕ). eqb n 1)
    (ap (λ (n : ℕ). bit_at n (k % 64)) (get_or-replicate 16 (word_of k) (2 ^ 64 - 1) (2 ^ 64 - 1) (omega arith))
    ∙ bit_at_ones 64 (k % 64) (omega arith))

-- a bit of one or the other is in both together
or_bit : (a b p : ℕ) → (bit_at a p == 1) ≡ true → (bit_at (bit_or a b) p == 1) ≡ true
or_bit a b p has =
    let one : bit_at a p ≡ 1 = grind (arith, nat_tests, has) in
    let both : bit_at (bit_or a b) p ≡ 1 = omega (arith, one, bit_at_or a b p, bit_at-lt (bit_or a b) p) in
    ap (λ (n : ℕ). eqb n 1) both

or_more : (a b p : ℕ) → (bit_at b p == 1) ≡ true → (bit_at (bit_or a b) p == 1) ≡ true
or_more a b p has =
    let one : bit_at b p ≡ 1 = grind (arith, nat_tests, has) in
    let both : bit_at (bit_or a b) p ≡ 1 = omega (arith, one, bit_at_or a b p, bit_at-lt (bit_or a b) p) in
    ap (λ (n : ℕ). eqb n 1) both

-- A word that is written, and the others.

module _ (bits : Bits) (id v : ℕ) where
  abbrev written : Bits
  written = record { words = set bits.words (word_of id) v }

  in-word : (k : ℕ) → word_of k ≡ word_of id → word_of id < length bits.words → word written k ≡ v
  in-word k same within =
      ap (λ (n : ℕ). get_or (set bits.words (word_of id) v) n (2 ^ 64 - 1)) same
      ∙ get_or-set_same bits.words (word_of id) v (2 ^ 64 - 1) within

  past-all : length bits.words ≤ word_of id → written ≡ bits
  past-all far = ap (λ (ws : List ℕ). record { words = ws }) (set_past bits.words (word_of id) v far)

  in-other : (k : ℕ) → word_of k ≢ word_of id → word written k ≡ word bits k
  in-other k other = get_or-set_other bits.words (word_of id) (word_of k) v (2 ^ 64 - 1) other

-- A bit that is set.

pub own_bit : (bits : Bits) (id : ℕ) → has_bit (with_bit bits id) id ≡ true
unfolding has_bit
own_bit bits id = go (ltb (word_of id) (length bits.words)) refl
  where
    v : ℕ
    v = bit_or (word bits id) (2 ^ (id % 64))

    there : (bit_at v (id % 64) == 1) ≡ true
    there = or_more (word bits id) (2 ^ (id % 64)) (id % 64) (ap (λ (n : ℕ). eqb n 1) (bit_at-pow_same (id % 64)))

    go : (b : Bool) → ltb (word_of id) (length bits.words) ≡ b → has_bit (with_bit bits id) id ≡ true
    go true e =
        ap (λ (n : ℕ). eqb (bit_at n (id % 64)) 1) (in-word bits id v id refl (grind (arith, nat_tests, e))) ∙ there
    go false e =
        let far : length bits.words ≤ word_of id = grind (arith, nat_tests, e) in
        ap (λ (b : Bits). has_bit b id) (past-all bits id v far)
        ∙ ap (λ (n : ℕ). eqb (bit_at n (id % 64)) 1) (get_or_past bits.words (word_of id) (2 ^ 64 - 1) far)
        ∙ ap (λ (n : ℕ). eqb n 1) (bit_at_ones 64 (id % 64) (omega arith))

-- what is written over a word, where no bit of another number is lost
keeps : (bits : Bits) (id v k : ℕ) → has_bit bits k ≡ true
    → (word_of k ≡ word_of id → (bit_at (word bits id) (k % 64) == 1) ≡ true → (bit_at v (k % 64) == 1) ≡ true)
    → has_bit (written bits id v) k ≡ true
unfolding has_bit
keeps bits id v k has stays = by-word (word_of k == word_of id) refl
  where
    same-word : word_of k ≡ word_of id → (b : Bool) → ltb (word_of id) (length bits.words) ≡ b
        → has_bit (written bits id v) k ≡ true
    same-word same true e =
        ap (λ (n : ℕ). eqb (bit_at n (k % 64)) 1) (in-word bits id v k same (grind (arith, nat_tests, e)))
        ∙ stays same (sym (ap (λ (n : ℕ). eqb (bit_at (get_or bits.words n (2 ^ 64 - 1)) (k % 64)) 1) same) ∙ has)
    same-word same false e =
        ap (λ (b : Bits). has_bit b k) (past-all bits id v (grind (arith, nat_tests, e))) ∙ has

    by-word : (b : Bool) → (word_of k == word_of id) ≡ b → has_bit (written bits id v) k ≡ true
    by-word true e = same-word (grind (arith, nat_tests, e)) (ltb (word_of id) (length bits.words)) refl
    by-word false e =
        let differ : word_of k ≢ word_of id = grind (arith, nat_tests, e) in
        ap (λ (n : ℕ). eqb (bit_at n (k % 64)) 1) (in-other bits id v k differ) ∙ has

pub more_bits : (bits : Bits) (id k : ℕ) → has_bit bits k ≡ true → has_bit (with_bit bits id) k ≡ true
more_bits bits id k has =
    keeps bits id (bit_or (word bits id) (2 ^ (id % 64))) k has
    (λ same was. or_bit (word bits id) (2 ^ (id % 64)) (k % 64) was)

-- A word of which all bits are set.

pub own_word : (bits : Bits) (k n : ℕ) → word_of k ≡ n → has_bit (with_word bits n) k ≡ true
unfolding has_bit
own_word bits k n is = go (ltb n (length bits.words)) refl
  where
    go : (b : Bool) → ltb n (length bits.words) ≡ b → has_bit (with_word bits n) k ≡ true
    go true e =
        ap (λ (m : ℕ). eqb (bit_at m (k % 64)) 1)
        (ap (λ (m : ℕ). get_or (set bits.words n (2 ^ 64 - 1)) m (2 ^ 64 - 1)) is
        ∙ get_or-set_same bits.words n (2 ^ 64 - 1) (2 ^ 64 - 1) (grind (arith, nat_tests, e)))
        ∙ ap (λ (m : ℕ). eqb m 1) (bit_at_ones 64 (k % 64) (omega arith))
    go false e =
        let far : length bits.words ≤ n = grind (arith, nat_tests, e) in
        ap (λ (m : ℕ). eqb (bit_at m (k % 64)) 1)
        (ap (λ (ws : List ℕ). get_or ws (word_of k) (2 ^ 64 - 1)) (set_past bits.words n (2 ^ 64 - 1) far)
        ∙ ap (λ (m : ℕ). get_or bits.words m (2 ^ 64 - 1)) is ∙ get_or_past bits.words n (2 ^ 64 - 1) far)
        ∙ ap (λ (m : ℕ). eqb m 1) (bit_at_ones 64 (k % 64) (omega arith))

-- A bit that is cleared.

-- a number that has another bit than the one of the same word has another place in it
other-place : (k id : ℕ) → word_of k ≡ word_of id → have_one_bit k id ≡ false → k % 64 ≢ id % 64
other-place k id same apart = λ place.
    let rest : k % 1024 ≡ id % 1024 = omega (arith, same, place) in
    let both : true ≡ false = grind (arith, nat_tests, rest, apart) in
    absurd cc

pub other_bits : (bits : Bits) (id k : ℕ) → have_one_bit k id ≡ false → has_bit bits k ≡ true
    → has_bit (without_bit bits id) k ≡ true
other_bits bits id k apart has = keeps bits id v k has stays
  where
    v : ℕ
    v = bit_and (word bits id) (2 ^ 64 - 1 - 2 ^ (id % 64))

    shifted : 1 * 2 ^ (id % 64) % 2 ^ 64 ≡ 2 ^ (id % 64)
    shifted = one_shl (id % 64) 64 (omega arith)

    stays : word_of k ≡ word_of id → (bit_at (word bits id) (k % 64) == 1) ≡ true → (bit_at v (k % 64) == 1) ≡ true
    stays same was =
        ap (λ (n : ℕ). eqb n 1)
        (ap (λ (n : ℕ). bit_at (bit_and (word bits id) (2 ^ 64 - 1 - n)) (k % 64)) (sym shifted)
        ∙ bit_at_clear_other w64 (word bits id) (id % 64) (omega arith) (k % 64) (omega arith) (other-place k id same apart))
        ∙ was

-- Two sets of bits as one.

-- words below the place are joined, and the others are as they were
pub record AreJoined (place : ℕ) (words more all : List ℕ) : Type 0 where
  pub length : length all ≡ 16
  pub below : (k : ℕ) → k < place → get_or all k 0 ≡ bit_or (get_or words k 0) (get_or more k 0)
  pub rest : (k : ℕ) → place ≤ k → get_or all k 0 ≡ get_or words k 0

pub no_joined : (words more : List ℕ) → length words ≡ 16 → AreJoined 0 words more words
no_joined words more long = record { length = long; below = λ k lt. absurd (omega (arith, lt)); rest = λ k le. refl }

pub one_joined : (place v : ℕ) (words more all : List ℕ) → place < 16 → AreJoined place words more all
    → v ≡ bit_or (get_or all place 0) (get_or more place 0) → AreJoined (place + 1) words more (set all place v)
one_joined place v words more all within j is = record {
  length = length-set all place v ∙ j.length;
  below = λ k lt. below k lt (k == place) refl;
  rest = λ k le.
      let differ : k ≢ place = λ e. absurd (omega (arith, e, le)) in
      get_or-set_other all place k v 0 differ ∙ j.rest k (omega (arith, le));
}
  where
    below : (k : ℕ) → k < place + 1 → (b : Bool) → (k == place) ≡ b
        → get_or (set all place v) k 0 ≡ bit_or (get_or words k 0) (get_or more k 0)
    below k lt true e =
        let same : k ≡ place = grind (arith, nat_tests, e) in
        let long : place < length all = omega (arith, within, j.length) in
        ap (λ (n : ℕ). get_or (set all place v) n 0) same ∙ get_or-set_same all place v 0 long ∙ is
        ∙ ap (λ (n : ℕ). bit_or n (get_or more place 0)) (j.rest place (omega arith))
        ∙ ap (λ (n : ℕ). bit_or (get_or words n 0) (get_or more n 0)) (sym same)
    below k lt false e =
        let differ : k ≢ place = grind (arith, nat_tests, e) in
        get_or-set_other all place k v 0 differ ∙ j.below k (omega (arith, lt, differ))

-- what a word is that is there
there : (words : List ℕ) (at d : ℕ) → length words ≡ 16 → at < 16 → get_or words at d ≡ get_or words at 0
there words at d long within = get_or_default words at d 0 (omega (arith, long, within))

pub former_joined : (words more all : List ℕ) → length words ≡ 16 → AreJoined 16 words more all → (id : ℕ)
    → has_bit (record { words = words }) id ≡ true → has_bit (record { words = all }) id ≡ true
unfolding has_bit
former_joined words more all long j id has =
    let within : word_of id < 16 = omega arith in
    ap (λ (n : ℕ). eqb (bit_at n (id % 64)) 1) (there all (word_of id) (2 ^ 64 - 1) j.length within ∙ j.below (word_of id) within)
    ∙ or_bit (get_or words (word_of id) 0) (get_or more (word_of id) 0) (id % 64)
    (ap (λ (n : ℕ). eqb (bit_at n (id % 64)) 1) (sym (there words (word_of id) (2 ^ 64 - 1) long within)) ∙ has)

pub more_joined : (words more all : List ℕ) → length more ≡ 16 → AreJoined 16 words more all → (id : ℕ)
    → has_bit (record { words = more }) id ≡ true → has_bit (record { words = all }) id ≡ true
unfolding has_bit
more_joined words more all long j id has =
    let within : word_of id < 16 = omega arith in
    ap (λ (n : ℕ). eqb (bit_at n (id % 64)) 1) (there all (word_of id) (2 ^ 64 - 1) j.length within ∙ j.below (word_of id) within)
    ∙ or_more (get_or words (word_of id) 0) (get_or more (word_of id) 0) (id % 64)
    (ap (λ (n : ℕ). eqb (bit_at n (id % 64)) 1) (sym (there more (word_of id) (2 ^ 64 - 1) long within)) ∙ has)

-- A bit that is read.

pub bit_read : (bits : Bits) (id at : ℕ) → length bits.words ≡ 16 → at ≡ word_of id
    → (bit_and (get_or bits.words at 0 / 2 ^ (id % 64)) 1 == 1) ≡ has_bit bits id
unfolding has_bit
bit_read bits id at long is =
    ap (λ (n : ℕ). eqb n 1)
    (shr_and_one (get_or bits.words at 0) (id % 64)
    ∙ ap (λ (n : ℕ). bit_at n (id % 64))
    (ap (λ (n : ℕ). get_or bits.words n 0) is ∙ sym (there bits.words (word_of id) (2 ^ 64 - 1) long (omega arith))))

-- What is left of a word above a place.

shr-bit : (n p i : ℕ) → bit_at (n / 2 ^ p) i ≡ bit_at n (p + i)
shr-bit n p i = ap (λ (m : ℕ). m % 2) (shr-shr n p i)

-- numbers from the first one on, up to the next one or the end of its word
no-bit : (bits : Bits) (id k at : ℕ) → length bits.words ≡ 16 → at ≡ word_of id → id ≤ k → k < id / 64 * 64 + 64
    → bit_at (get_or bits.words at 0 / 2 ^ (id % 64)) (k - id) ≡ 0 → has_bit bits k ≡ false
unfolding has_bit
no-bit bits id k at long is le lt none =
    ap (λ (n : ℕ). eqb n 1)
    (ap (λ (n : ℕ). bit_at n (k % 64))
    (ap (λ (n : ℕ). get_or bits.words n (2 ^ 64 - 1)) same ∙ there bits.words at (2 ^ 64 - 1) long (omega (arith, is)))
    ∙ ap (λ (n : ℕ). bit_at (get_or bits.words at 0) n) place ∙ sym (shr-bit (get_or bits.words at 0) (id % 64) (k - id)) ∙ none)
  where
    same : word_of k ≡ at
    same = omega (arith, is, le, lt)

    place : k % 64 ≡ id % 64 + (k - id)
    place = omega (arith, le, lt)

-- the numbers of a word without bits are passed
pub word_passed : (bits : Bits) (first id next at : ℕ) → length bits.words ≡ 16 → at ≡ word_of id
    → ((k : ℕ) → first ≤ k → k < id → has_bit bits k ≡ false)
    → get_or bits.words at 0 / 2 ^ (id % 64) ≡ 0 → next ≤ id / 64 * 64 + 64
    → (k : ℕ) → first ≤ k → k < next → has_bit bits k ≡ false
word_passed bits first id next at long is none zero most k le lt = go (ltb k id) refl
  where
    go : (b : Bool) → ltb k id ≡ b → has_bit bits k ≡ false
    go true e = none k le (grind (arith, nat_tests, e))
    go false e =
        no-bit bits id k at long is (grind (arith, nat_tests, e)) (omega (arith, lt, most))
        (ap (λ (n : ℕ). bit_at n (k - id)) zero ∙ bit_at-zero (k - id))

-- no bit that is set lies above its word
inside : (n p i : ℕ) → n < 2 ^ 64 → bit_at (n / 2 ^ p) i ≡ 1 → p + i < 64
inside n p i fits one = go (ltb (p + i) 64) refl
  where
    go : (b : Bool) → ltb (p + i) 64 ≡ b → p + i < 64
    go true e = grind (arith, nat_tests, e)
    go false e =
        let above : 64 ≤ p + i = grind (arith, nat_tests, e) in
        absurd (omega (arith, one, shr-bit n p i, bit_at_above n 64 (p + i) fits above))

-- and those below the first bit of one that has some
pub bit_found : (bits : Bits) (first id next at : ℕ) → length bits.words ≡ 16 → at ≡ word_of id
    → ((k : ℕ) → first ≤ k → k < id → has_bit bits k ≡ false)
    → get_or bits.words at 0 < 2 ^ 64 → get_or bits.words at 0 / 2 ^ (id % 64) < 2 ^ 64
    → 0 < get_or bits.words at 0 / 2 ^ (id % 64)
    → next ≤ id + trailing_zeros w64 (get_or bits.words at 0 / 2 ^ (id % 64))
    → (k : ℕ) → first ≤ k → k < next → has_bit bits k ≡ false
bit_found bits first id next at long is none word-fits fits some most k le lt = go (ltb k id) refl
  where
    go : (b : Bool) → ltb k id ≡ b → has_bit bits k ≡ false
    go true e = none k le (grind (arith, nat_tests, e))
    go false e =
        let from : id ≤ k = grind (arith, nat_tests, e) in
        let zeros = bit_at-trailing_zeros w64 (get_or bits.words at 0 / 2 ^ (id % 64)) some fits in
        let within = inside (get_or bits.words at 0) (id % 64) (trailing_zeros w64 (get_or bits.words at 0 / 2 ^ (id % 64))) word-fits zeros.1 in
        no-bit bits id k at long is from (omega (arith, lt, most, from, within))
        (zeros.2 (k - id) (omega (arith, lt, most, from)))
