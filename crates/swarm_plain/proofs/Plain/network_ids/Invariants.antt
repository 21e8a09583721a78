use Rattle.std.proofs.Common.{◌≡◌, ◌++◌, drop}
use Rattle.swarm_model.specs.Calls.Services.{network_ids}
use Rattle.swarm_plain.proofs.Plain.network_ids.Given as goal
use Rattle.swarm_plain.specs.Plain.{tables_of}

abbrev pub invariant-loop-name : goal.invariant-loop-name
invariant-loop-name l =
    l.ids ++ network_ids (tables_of l.self) (drop l.name-index l.names) ≡ network_ids (tables_of l.self) l.names
