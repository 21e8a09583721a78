-- Bits of numbers by their rests: sixteen words of sixty-four bits, the bits of the lowest rests first.
use Rattle.std.specs.Int.{bit_at}
use Rattle.std.specs.Prelude.{Bool, bit_and, bit_or, replicate, slice_index_or, slice_set, ℕ, ◌%◌, ◌-◌, ◌/◌, ◌==◌, ◌^◌}
use Rattle.swarm_spans.specs.declared.bits.Bits.{Bits}

abbrev pub word_of : ℕ → ℕ
word_of id = id / 64 % 16

-- a word that isn't there counts as one with all bits set
abbrev pub word : Bits → ℕ → ℕ
word bits id = slice_index_or bits.words (word_of id) (2 ^ 64 - 1)

unfoldable pub has_bit : Bits → ℕ → Bool
has_bit bits id = bit_at (word bits id) (id % 64) == 1

abbrev pub no_bits : Bits
no_bits = record { words = replicate 16 0 }

abbrev pub all_bits : Bits
all_bits = record { words = replicate 16 (2 ^ 64 - 1) }

abbrev pub with_bit : Bits → ℕ → Bits
with_bit bits id = record { words = slice_set bits.words (word_of id) (bit_or (word bits id) (2 ^ (id % 64))) }

abbrev pub without_bit : Bits → ℕ → Bits
without_bit bits id =
    record { words = slice_set bits.words (word_of id) (bit_and (word bits id) (2 ^ 64 - 1 - 2 ^ (id % 64))) }

-- all bits of this word too
abbrev pub with_word : Bits → ℕ → Bits
with_word bits n = record { words = slice_set bits.words n (2 ^ 64 - 1) }

abbrev pub have_one_bit : ℕ → ℕ → Bool
have_one_bit id other = id % 1024 == other % 1024
