use Rattle.std.proofs.Common.{false, replicate}
use Rattle.swarm_alloc.proofs.HeldPorts.{AreLeft}
use Rattle.swarm_objects.specs.Services.Ports.{holds_port}
use Rattle.swarm_alloc.proofs.held_ports.held_ports.Given as goal

abbrev pub invariant-loop-service : goal.invariant-loop-service
invariant-loop-service g l =
    AreLeft (holds_port l.udp) (g.R.Rows.tables l.rows).services l.service-iterator (replicate 2768 false) l.held
