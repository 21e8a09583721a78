use Rattle.std.proofs.Common.{◌≡◌, drop}
use Rattle.swarm_model.specs.Calls.Refusals.{missing_network}
use Rattle.swarm_store.proofs.state.State.check_networks.Given as goal
use Rattle.swarm_store.specs.Inside.State.{tables_now}

abbrev pub invariant-loop-name : goal.invariant-loop-name
invariant-loop-name l =
    missing_network (tables_now l.self) (drop l.name-index l.names) ≡ missing_network (tables_now l.self) l.names
