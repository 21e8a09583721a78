use Rattle.std.proofs.Common.{◌≡◌, drop}
use Rattle.swarm_model.specs.Calls.Refusals.{missing_network}
use Rattle.swarm_plain.proofs.Plain.check_networks.Given as goal
use Rattle.swarm_plain.specs.Plain.{tables_of}

abbrev pub invariant-loop-name : goal.invariant-loop-name
invariant-loop-name l =
    missing_network (tables_of l.self) (drop l.name-index l.names) ≡ missing_network (tables_of l.self) l.names
