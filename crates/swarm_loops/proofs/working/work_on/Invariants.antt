use Rattle.std.proofs.Common.{◌≡◌, ◌≤◌, ◌<◌, length}
use Rattle.turn_cell.specs.Entries.{StartsWith}
use Rattle.turn_cell.specs.Passes.{number_of, seen, known, mine, IsPassOf}
use Rattle.swarm_loops.specs.Turns.{AddsTurns}
use Rattle.swarm_loops.proofs.working.work_on.Given as goal

abbrev pub invariant-loop : goal.invariant-loop
invariant-loop g l =
    (goal.iterator-loop g).can_next l.iterator' × (goal.iterator-loop g).is_finite l.iterator'
    × IsPassOf l.cluster.cell l.pass × (number_of l.pass ≡ number_of l.initial.pass)
    × StartsWith (seen l.pass) (seen l.initial.pass) × (known l.initial.pass ≤ known l.pass)
    × (l.place < length l.roles) × (l.idle.turns < length l.roles)
    × AddsTurns l.roles (mine l.initial.pass) (mine l.pass) (seen l.pass)
