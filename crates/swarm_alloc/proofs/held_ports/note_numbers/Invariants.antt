use Rattle.std.proofs.Common.{drop}
use Rattle.swarm_alloc.proofs.HeldPorts.{AreLeft}
use Rattle.swarm_objects.specs.Services.Ports.{is_numbered}
use Rattle.swarm_alloc.proofs.held_ports.note_numbers.Given as goal

abbrev pub invariant-loop-given : goal.invariant-loop-given
invariant-loop-given l = AreLeft (is_numbered l.udp) l.numbers (drop l.given-index l.numbers) l.initial.held l.held
