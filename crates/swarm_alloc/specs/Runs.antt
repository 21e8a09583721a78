-- Numbers that are held, as bits of a word.
use Rattle.std.specs.Prelude.{Bool, false, true, ℕ, ◌+◌, ◌<◌, ◌||◌, ◌≡◌, ◌≤◌}
use Rattle.swarm_pools.specs.Places.{has_bit}

-- the bits of the one that are set, and those that pass
pub record HasMore (word more : ℕ) (passes : ℕ → Bool) : Type 0 where
  pub bits : (place : ℕ) → place < 64 → has_bit more place ≡ (has_bit word place || passes place)

-- so many numbers from this one on are held, and the one behind them isn't, or is beyond the last, or beyond those of a
-- word
pub record IsHeldRun (is_held : ℕ → Bool) (from last count : ℕ) : Type 0 where
  pub most : count ≤ 64
  pub held : (place : ℕ) → place < count → is_held (from + place) ≡ true
  pub free : count < 64 → from + count ≤ last → is_held (from + count) ≡ false
