-- What a pool is seen as.
use Rattle.std.specs.Prelude.{List, ℕ, filter, ◌≤◌, ◌+◌, ◌-◌, Bool}
use Rattle.std.specs.List.{range_with_len}
use Rattle.swarm_pools.specs.Places.{IsShaped, is_taken}
use Rattle.swarm_pools.specs.declared.places.Places.{Places}

-- the numbers from the first to the last, and those of them that are taken, rising
pub record Numbers : Type 0 where
  pub first : ℕ
  pub last : ℕ
  pub taken : List ℕ

-- the places are those of the numbers from this one on
abbrev pub is_number_taken : ℕ → Places → ℕ → Bool
is_number_taken first places number = is_taken places (number - first)

-- those that are taken, of so many
abbrev pub numbers_taken : ℕ → ℕ → Places → List ℕ
numbers_taken first size places = filter (is_number_taken first places) (range_with_len first size)

abbrev pub numbers : ℕ → ℕ → Places → Numbers
numbers first last places =
    record { first = first; last = last; taken = numbers_taken first (last - first + 1) places }

-- there is a place for each number
pub record HasShape (first : ℕ) (last : ℕ) (places : Places) : Type 0 where
  pub order : first ≤ last
  pub shape : IsShaped (last - first + 1) places
