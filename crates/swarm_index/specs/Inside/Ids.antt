-- The ids of the rows that have one digest of their keys of one number.
use Rattle.std.specs.Prelude.{ℕ, ◌≡◌, ◌<◌, ◌≤◌, Bool, true, false, ◌==◌, List, Option, None, Some}
use Rattle.std.specs.List.{list_any}

-- the id is among them
abbrev pub has_id : List ℕ → ℕ → Bool
has_id ids id = list_any (λ i. i == id) ids

-- the least of them above the number
abbrev pub IsNextId : List ℕ → ℕ → Option ℕ → Type 0
IsNextId ids after None = (i : ℕ) → after < i → has_id ids i ≡ false
IsNextId ids after (Some i) = (after < i) × (has_id ids i ≡ true) × ((j : ℕ) → after < j → has_id ids j ≡ true → i ≤ j)
