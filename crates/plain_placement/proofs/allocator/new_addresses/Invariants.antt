use Rattle.std.proofs.Common.{◌≡◌, ◌++◌, drop}
use Rattle.std.specs.Prelude.{flat_map}
use Rattle.swarm_objects.specs.Loops.Allocator.{address_in, new_addresses}
use Rattle.swarm_plain.specs.Plain.{tables_of}
use Rattle.plain_placement.proofs.allocator.new_addresses.Given as goal

abbrev pub invariant-loop-network : goal.invariant-loop-network
invariant-loop-network l =
    let t = tables_of l.plain in
    l.addresses ++ flat_map (address_in t) (drop l.network-index l.network-items) ≡ new_addresses t l.task
