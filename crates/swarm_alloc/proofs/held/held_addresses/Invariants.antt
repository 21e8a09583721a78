use Rattle.std.proofs.Common.{◌≡◌, ◌++◌}
use Rattle.std.specs.Prelude.{filter, flat_map}
use Rattle.swarm_objects.specs.Tasks.Addresses.{addresses_held, addresses_in}
use Rattle.swarm_objects.specs.Tasks.Words.{is_not_over}
use Rattle.swarm_alloc.proofs.held.held_addresses.Given as goal

abbrev pub invariant-loop-task : goal.invariant-loop-task
invariant-loop-task g l =
    l.held ++ flat_map (addresses_in l.network) (filter is_not_over l.task-iterator)
    ≡ addresses_held (g.R.Rows.tables l.rows) l.network
