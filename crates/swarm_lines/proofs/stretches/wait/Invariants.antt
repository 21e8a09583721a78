use Rattle.std.proofs.Common.{◌≡◌}
use Rattle.swarm_lines.proofs.stretches.wait.Given as goal
use Rattle.swarm_lines.specs.Stretches.{Waiting}
use Rattle.turn_cell.specs.Passes.{IsPassOf, number_of, seen}

abbrev pub invariant-loop-left : goal.invariant-loop-left
invariant-loop-left g l =
    IsPassOf l.cluster.cell l.pass × (number_of l.pass ≡ 0)
    × Waiting l.ms l.left (seen l.initial.pass) (seen l.pass)

abbrev pub decreases-loop-left : goal.decreases-loop-left
decreases-loop-left g l = l.left
