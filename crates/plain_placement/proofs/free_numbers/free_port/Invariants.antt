use Rattle.swarm_objects.proofs.FreeNumbers.{AreTaken, all_ports}
use Rattle.swarm_objects.specs.Limits.{first_port}
use Rattle.swarm_plain.specs.Plain.{tables_of}
use Rattle.plain_placement.proofs.free_numbers.free_port.Given as goal

abbrev pub invariant-loop-number : goal.invariant-loop-number
invariant-loop-number l = AreTaken first_port (all_ports (tables_of l.plain) l.udp) l.number
