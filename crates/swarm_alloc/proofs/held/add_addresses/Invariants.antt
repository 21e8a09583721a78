use Rattle.std.proofs.Common.{◌≡◌, ◌++◌, drop}
use Rattle.std.specs.Prelude.{filter, map, ◌==◌}
use Rattle.swarm_objects.specs.Tasks.Addresses.{addresses_in}
use Rattle.swarm_objects.specs.declared.tasks.Address.{Address}
use Rattle.swarm_alloc.proofs.held.add_addresses.Given as goal

abbrev pub invariant-loop-address : goal.invariant-loop-address
invariant-loop-address l =
    l.held ++ map (λ (a : Address). a.number)
    (filter (λ (a : Address). a.network == l.network) (drop l.address-index l.address-items))
    ≡ l.initial.held ++ addresses_in l.network l.task
