use Rattle.std.proofs.Common.{◌≡◌, length}
use Rattle.swarm_spread.specs.Sums.{AreFirst}
use Rattle.swarm_spread.proofs.levels.branches.Given as goal

abbrev pub invariant-loop-place : goal.invariant-loop-place
invariant-loop-place l =
    record { count : length l.branches ≡ l.place; first : AreFirst l.parents l.paths l.depth l.place l.branches }
