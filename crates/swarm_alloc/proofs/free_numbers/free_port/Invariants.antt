use Rattle.std.proofs.Common.{◌-◌, ◌+◌}
use Rattle.swarm_alloc.proofs.HeldPorts.{AreBefore}
use Rattle.swarm_objects.specs.Limits.{last_port}
use Rattle.swarm_alloc.proofs.free_numbers.free_port.Given as goal

abbrev pub invariant-loop-number : goal.invariant-loop-number
invariant-loop-number g l = AreBefore (g.R.Rows.tables l.rows) l.udp l.number

abbrev pub decreases-loop-number : goal.decreases-loop-number
decreases-loop-number g l = last_port + 1 - l.number
