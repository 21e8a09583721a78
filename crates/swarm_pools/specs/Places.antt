-- The places that are taken, of so many from 0 on.
use Rattle.std.specs.Prelude.{Bool, false, ℕ, ◌==◌, ◌-◌, ◌<◌, ◌≤◌, ◌^◌, ◌≡◌, ◌&&◌, nat_lt, nat_le, if◌then◌else◌, ⊤}
use Rattle.std.specs.Int.{bit_at, trailing_ones, w64}
use Rattle.swarm_pools.specs.declared.places.Places.{Places, Clear, Word, Fork'}

abbrev pub has_bit : ℕ → ℕ → Bool
has_bit word place = bit_at word place == 1

-- how many bits from the lowest one on are set without a gap
abbrev pub low_ones : ℕ → ℕ
low_ones word = trailing_ones w64 word

abbrev pub is_taken : Places → ℕ → Bool
is_taken Clear place = false
is_taken (Word word) place = has_bit word place
is_taken (Fork' half full p low q high) place =
    if nat_lt place half then is_taken low place else is_taken high (place - half)

-- each of so many places is taken
abbrev pub is_full : ℕ → Places → Bool
is_full size Clear = false
is_full size (Word word) = nat_le size (low_ones word)
is_full size (Fork' half full p low q high) = full

-- a part has at most the places of a word, or two halves, and knows whether both are full
abbrev pub IsShaped : ℕ → Places → Type 0
IsShaped size Clear = ⊤
IsShaped size (Word word) = (size ≤ 64) × (word < 2 ^ 64)
IsShaped size (Fork' half full p low q high) =
    (half < size) × (0 < half) × IsShaped half low × IsShaped (size - half) high
    × (full ≡ (is_full half low && is_full (size - half) high))
