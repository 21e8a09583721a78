use Rattle.std.proofs.Common.{◌≡◌, ◌++◌, drop}
use Rattle.swarm_model.specs.Calls.Services.{network_ids}
use Rattle.swarm_store.proofs.state.State.network_ids.Given as goal
use Rattle.swarm_store.specs.Inside.State.{tables_now}

abbrev pub invariant-loop-name : goal.invariant-loop-name
invariant-loop-name l =
    l.ids ++ network_ids (tables_now l.self) (drop l.name-index l.names) ≡ network_ids (tables_now l.self) l.names
