use Rattle.std.proofs.Common.{◌≡◌, take}
use Rattle.std.specs.Prelude.{map}
use Rattle.swarm_objects.specs.Shown.{numbered}
use Rattle.swarm_objects.proofs.details.numbered_ports.Given as goal

abbrev pub invariant-loop-port : goal.invariant-loop-port
invariant-loop-port l = l.ports ≡ map (numbered l.service.numbers) (take l.port-index l.port-items)
