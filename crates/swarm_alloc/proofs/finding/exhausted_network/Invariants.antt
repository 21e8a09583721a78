use Rattle.std.proofs.Common.{◌≡◌, drop, not}
use Rattle.std.specs.Prelude.{find}
use Rattle.swarm_objects.specs.Loops.Allocator.{exhausted_network, has_free_address}
use Rattle.swarm_alloc.proofs.finding.exhausted_network.Given as goal

abbrev pub invariant-loop-network : goal.invariant-loop-network
invariant-loop-network g l =
    let t = g.R.Rows.tables l.rows in
    find (λ n. not (has_free_address t n)) (drop l.network-index l.network-items) ≡ exhausted_network t l.task
