use Rattle.std.proofs.Common.{◌+◌, ◌-◌}
use Rattle.swarm_objects.proofs.FreeNumbers.{AreTaken, lowest}
use Rattle.swarm_objects.specs.Tasks.Addresses.{addresses_held}
use Rattle.swarm_alloc.proofs.free_numbers.free_in.Given as goal

abbrev pub invariant-loop-number : goal.invariant-loop-number
invariant-loop-number g l =
    AreTaken (lowest l.network) (addresses_held (g.R.Rows.tables l.rows) l.id) l.number

abbrev pub decreases-loop-number : goal.decreases-loop-number
decreases-loop-number g l = l.last + 1 - l.number
