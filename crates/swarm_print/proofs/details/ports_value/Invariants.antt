use Rattle.std.proofs.Common.{◌≡◌, map, take}
use Rattle.serde_json.specs.View.{view}
use Rattle.swarm_print.specs.Details.{port_data}
use Rattle.swarm_print.proofs.details.ports_value.Given as goal

abbrev pub invariant-loop-port : goal.invariant-loop-port
invariant-loop-port l = map view l.values.items ≡ map port_data (take l.port-index l.ports)
