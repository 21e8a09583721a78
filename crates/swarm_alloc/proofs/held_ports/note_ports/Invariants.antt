use Rattle.std.proofs.Common.{drop}
use Rattle.swarm_alloc.proofs.HeldPorts.{AreLeft}
use Rattle.swarm_objects.specs.Services.Ports.{has_port_number}
use Rattle.swarm_alloc.proofs.held_ports.note_ports.Given as goal

abbrev pub invariant-loop-port : goal.invariant-loop-port
invariant-loop-port l = AreLeft (has_port_number l.udp) l.ports (drop l.port-index l.ports) l.initial.held l.held
