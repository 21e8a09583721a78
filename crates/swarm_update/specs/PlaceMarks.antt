-- What contracts see of the places that are noted.
use Rattle.std.specs.Prelude.{Bool, List, get_or, length, ℕ, ◌≡◌, ◌≤◌}
use Rattle.swarm_update.specs.declared.marks.Mark.{Mark}
use Rattle.swarm_update.specs.declared.marks.TheConstants.{UNMARKED, WIDTH}

-- their marks by their numbers, where these end, and that a task stands in a place that isn't noted
pub record PlaceMarks : Type 0 where
  pub marks : List Mark
  pub reach : ℕ
  pub has_far : Bool

-- no place from the reach on has a mark that is set
pub record EndsAt (reach : ℕ) (marks : List Mark) : Type 0 where
  pub wide : length marks ≡ WIDTH
  pub within : reach ≤ WIDTH
  pub rest : (k : ℕ) → reach ≤ k → get_or marks k UNMARKED ≡ UNMARKED
