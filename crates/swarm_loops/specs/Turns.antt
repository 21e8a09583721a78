-- What a worker's turns append.
use Rattle.std.specs.Prelude.{◌≡◌, ℕ, List, [], ◌∷◌, ◌++◌, length, Some}
use Rattle.swarm_model.specs.History.{replay}
use Rattle.swarm_objects.specs.Duties.{duties}
use Rattle.swarm_objects.specs.Kinds.{role_of}
use Rattle.swarm_objects.specs.Rows.{Has, first_of}
use Rattle.swarm_objects.specs.declared.calls.Entry.{Entry}
use Rattle.swarm_objects.specs.declared.calls.What.TheVariants.{Duty as Done}
use Rattle.swarm_objects.specs.declared.duties.Duty.{Duty}
use Rattle.swarm_objects.specs.declared.loops.Role.{Role}
use Rattle.turn_cell.specs.Entries.{StartsWith}

-- the entry with this number of the history is a duty of one of these control loops, the loop's first one just before
-- it
pub record IsTurn (rs : List Role) (history : List Entry) (m : ℕ × Entry) : Type 0 where
  pub duty : Duty
  pub is_duty : m.1.what ≡ Done duty
  pub shared : Has rs (role_of duty)
  pub before : List Entry
  pub stands : StartsWith history (before ++ m.1 ∷ [])
  pub number : m.0 ≡ length (before ++ m.1 ∷ [])
  pub first : first_of (duties (role_of duty) (replay before)) ≡ Some duty

-- a caller's entries in the history, each with its number, are its earlier ones, and then turns of these control loops
pub record AddsTurns (rs : List Role) (earlier mine : List (ℕ × Entry)) (history : List Entry) : Type 0 where
  pub turns : List (ℕ × Entry)
  pub adds : mine ≡ earlier ++ turns
  pub are_turns : (m : ℕ × Entry) → Has turns m → IsTurn rs history m
