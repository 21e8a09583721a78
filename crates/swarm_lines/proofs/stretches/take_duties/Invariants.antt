use Rattle.std.proofs.Common.{◌≡◌, ◌≤◌, ◌-◌}
use Rattle.swarm_lines.proofs.stretches.take_duties.Given as goal
use Rattle.swarm_lines.specs.Stretches.{Took}
use Rattle.turn_cell.specs.Passes.{IsPassOf, number_of, seen}

abbrev pub invariant-loop-count : goal.invariant-loop-count
invariant-loop-count g l =
    IsPassOf l.cluster.cell l.pass × (number_of l.pass ≡ 0) × (l.count ≤ l.budget)
    × Took l.budget l.count (seen l.initial.pass) (seen l.pass)

abbrev pub decreases-loop-count : goal.decreases-loop-count
decreases-loop-count g l = l.budget - l.count
