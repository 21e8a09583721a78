-- A stretch of turns, and the stretches of a wait line.
use Rattle.std.specs.Prelude.{◌≡◌, ℕ, ◌-◌, ◌<◌, ◌≤◌, List, [], length, false, sum_by}
use Rattle.swarm_lines.specs.Came.{Came}
use Rattle.swarm_lines.specs.declared.unanswered.Unanswered.{Unanswered}
use Rattle.swarm_lines.specs.declared.unanswered.Unanswered.TheVariants.{Full, NoMemory}
use Rattle.swarm_model.specs.History.{replay}
use Rattle.swarm_model.specs.Kept.{AreTurns, KeepsBegun, KeepsStopped, KeepsTicks, KeepsWaited, Stretch}
use Rattle.swarm_model.specs.Own.{Step}
use Rattle.swarm_model.specs.Script.{is_busy}
use Rattle.swarm_model.specs.Undone.{SeesBusy}
use Rattle.swarm_objects.specs.declared.calls.Entry.{Entry}
use Rattle.swarm_world.specs.Work.{IsFull}

-- the turns that a stretch took, at most so many
pub record Settling (n : ℕ) (old new : List Entry) : Type 0 where
  pub turns : List Step
  pub came : Came old new turns
  pub are_turns : AreTurns turns
  pub few : length turns ≤ n

-- and the last look, which is of the world now, named no duty unless there were so many
pub record Settled (n : ℕ) (old new : List Entry) : Type 0 where
  pub some : Settling n old new
  pub idle : length some.turns < n → is_busy (replay new) ≡ false

-- so many turns were taken so far
pub record Took (n count : ℕ) (old now : List Entry) : Type 0 where
  pub some : Settling n old now
  pub count_is : length some.turns ≡ count

-- the last look named a duty, for which the history had no room
pub record HasNoRoom (n : ℕ) (old new : List Entry) : Type 0 where
  pub some : Settling n old new
  pub less : length some.turns < n
  pub busy : SeesBusy new
  pub full : IsFull new

abbrev pub StopsTurns : Unanswered → ℕ → List Entry → List Entry → Type 0
StopsTurns Full n old new = HasNoRoom n old new
StopsTurns NoMemory n old new = Settling n old new

-- of a wait line so many stretches with their ticks are done, and so much of its time is left
pub record Waiting (ms left : ℕ) (old now : List Entry) : Type 0 where
  pub stretches : List Stretch
  pub part : List Step
  pub came : Came old now part
  pub ticks : KeepsTicks ms stretches [] part
  pub time : left ≡ ms - sum_by (λ s. s.ms) stretches

-- all of a wait line was done
pub record Waited (ms : ℕ) (old now : List Entry) : Type 0 where
  pub part : List Step
  pub came : Came old now part
  pub keeps : KeepsWaited ms part now

-- a part of a wait line was done
pub record BeganWait (ms : ℕ) (old now : List Entry) : Type 0 where
  pub part : List Step
  pub came : Came old now part
  pub keeps : KeepsBegun ms part

-- it isn't done, and the history had no room for more
pub record StoppedWait (ms : ℕ) (old now : List Entry) : Type 0 where
  pub part : List Step
  pub came : Came old now part
  pub keeps : KeepsStopped ms part now
  pub full : IsFull now

abbrev pub StopsWait : Unanswered → ℕ → List Entry → List Entry → Type 0
StopsWait Full ms old new = StoppedWait ms old new
StopsWait NoMemory ms old new = BeganWait ms old new
