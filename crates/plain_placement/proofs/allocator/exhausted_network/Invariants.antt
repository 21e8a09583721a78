use Rattle.std.proofs.Common.{◌≡◌, drop, not}
use Rattle.std.specs.Prelude.{find}
use Rattle.swarm_objects.specs.Loops.Allocator.{exhausted_network, has_free_address}
use Rattle.swarm_plain.specs.Plain.{tables_of}
use Rattle.plain_placement.proofs.allocator.exhausted_network.Given as goal

abbrev pub invariant-loop-network : goal.invariant-loop-network
invariant-loop-network l =
    let t = tables_of l.plain in
    find (λ n. not (has_free_address t n)) (drop l.network-index l.network-items) ≡ exhausted_network t l.task
