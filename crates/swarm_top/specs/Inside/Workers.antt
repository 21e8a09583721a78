-- What passes say after the script and the workers.
use Rattle.std.specs.Prelude.{◌≡◌, ℕ, ◌+◌, ◌<◌, List, [], length, slice_index_or}
use Rattle.std.specs.List.{All}
use Rattle.swarm_input.specs.Streams.{Stream}
use Rattle.swarm_lines.specs.Came.{Halts}
use Rattle.swarm_lines.specs.ScriptSteps.{IsRead}
use Rattle.swarm_lines.specs.declared.endings.Ending.{Ending}
use Rattle.swarm_loops.specs.Turns.{AddsTurns}
use Rattle.swarm_model.specs.Script.{share}
use Rattle.swarm_objects.specs.declared.calls.Entry.{Entry}
use Rattle.turn_cell.specs.Passes.{IsPassOf, mine, number_of, seen}
use Rattle.turn_cell.specs.declared.cell.TurnCell.{TurnCell}
use Rattle.turn_cell.specs.declared.pass.Pass.{Pass}
use Rattle.turn_cell.specs.declared.work.Counted.{Ghosts}

module _ {V : Type 0} {C : Ghosts V Entry} where
  -- worker n's pass, before it makes a turn
  pub record IsReady (cell : TurnCell V Entry) (n : ℕ) (p : Pass V Entry C) : Type 0 where
    pub cell_is : IsPassOf cell p
    pub number : number_of p ≡ n
    pub empty : mine p ≡ []

  -- all of worker n's entries are turns of its share
  pub record HasWorked (cell : TurnCell V Entry) (workers n : ℕ) (p : Pass V Entry C) : Type 0 where
    pub cell_is : IsPassOf cell p
    pub number : number_of p ≡ n
    pub adds : AddsTurns (share n workers) [] (mine p) (seen p)

  -- caller 0 has read a script, and Halt stands behind it
  pub record HasRead
      (cell : TurnCell V Entry) (ending : Ending) (script out : Stream) (p : Pass V Entry C) : Type 0 where
    pub cell_is : IsPassOf cell p
    pub number : number_of p ≡ 0
    pub now : List Entry
    pub read : IsRead ending script out now
    pub halts : Halts now (seen p)

  -- the passes of the workers from 1 on, in order
  abbrev pub AreReady : TurnCell V Entry → List (Pass V Entry C) → Type 0
  AreReady cell passes =
      (k : ℕ) (d : Pass V Entry C) → k < length passes → IsReady cell (k + 1) (slice_index_or passes k d)

  abbrev pub HaveWorked : TurnCell V Entry → ℕ → List (Pass V Entry C) → Type 0
  HaveWorked cell workers passes =
      (k : ℕ) (d : Pass V Entry C) → k < length passes → HasWorked cell workers (k + 1) (slice_index_or passes k d)

  -- the passes of all callers, in order
  pub record HaveRun (cell : TurnCell V Entry) (workers : ℕ) (ending : Ending) (script out : Stream)
      (passes : List (Pass V Entry C)) : Type 0 where
    pub count : length passes ≡ workers + 1
    pub cells : All (IsPassOf cell) passes
    pub numbers : (k : ℕ) (d : Pass V Entry C) → k < length passes → number_of (slice_index_or passes k d) ≡ k
    pub first : (d : Pass V Entry C) → HasRead cell ending script out (slice_index_or passes 0 d)
    pub others : (k : ℕ) (d : Pass V Entry C) → 0 < k → k < length passes →
        HasWorked cell workers k (slice_index_or passes k d)
