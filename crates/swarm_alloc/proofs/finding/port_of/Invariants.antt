use Rattle.std.proofs.Common.{◌≡◌, drop}
use Rattle.swarm_alloc.proofs.Steps.{duties_of_ports}
use Rattle.swarm_objects.specs.Loops.Allocator.{port_duties}
use Rattle.swarm_objects.specs.Rows.{first_of}
use Rattle.swarm_alloc.proofs.finding.port_of.Given as goal

abbrev pub invariant-loop-port : goal.invariant-loop-port
invariant-loop-port g l =
    let t = g.R.Rows.tables l.rows in
    let s = l.service in
    first_of (duties_of_ports t s (drop l.port-index l.port-items)) ≡ first_of (port_duties t s)
