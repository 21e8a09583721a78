use Rattle.std.proofs.Common.{◌≡◌, drop}
use Rattle.swarm_model.specs.Calls.Refusals.{port_taken}
use Rattle.swarm_store.proofs.state.State.check_ports.Given as goal
use Rattle.swarm_store.specs.Inside.State.{tables_now}

abbrev pub invariant-loop-port : goal.invariant-loop-port
invariant-loop-port l =
    port_taken (tables_now l.self) l.own (drop l.port-index l.ports) ≡ port_taken (tables_now l.self) l.own l.ports
