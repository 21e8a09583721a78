use Rattle.std.proofs.Common.{◌≡◌}
use Rattle.std.specs.Prelude.{flat_map}
use Rattle.swarm_objects.specs.Loops.Allocator.{port_duties}
use Rattle.swarm_objects.specs.Rows.{first_of}
use Rattle.swarm_alloc.proofs.finding.first_port.Given as goal

abbrev pub invariant-loop-service : goal.invariant-loop-service
invariant-loop-service g l =
    let t = g.R.Rows.tables l.rows in
    first_of (flat_map (port_duties t) l.service-iterator) ≡ first_of (flat_map (port_duties t) t.services)
