use Rattle.std.proofs.Common.{drop, ◌+◌}
use Rattle.swarm_alloc.proofs.HeldRuns.{IsMoreOf}
use Rattle.swarm_objects.specs.Tasks.Holders.{is_address}
use Rattle.swarm_alloc.proofs.runs.with_addresses.Given as goal

abbrev pub invariant-loop-address : goal.invariant-loop-address
invariant-loop-address l =
    IsMoreOf (λ place. is_address l.network (l.from + place)) l.addresses l.word (drop l.address-index l.addresses)
    l.more
