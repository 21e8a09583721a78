use Rattle.std.proofs.Common.{◌≡◌, drop}
use Rattle.std.specs.Prelude.{flat_map}
use Rattle.swarm_model.specs.Settle.{held_by}
use Rattle.swarm_objects.specs.Rows.{first_of}
use Rattle.swarm_plain.specs.Plain.{tables_of}
use Rattle.swarm_duties.proofs.idle.held.Given as goal

abbrev pub invariant-loop-service : goal.invariant-loop-service
invariant-loop-service l =
    let answers = held_by (tables_of l.plain) in
    first_of (flat_map answers (drop l.service-index l.service-items)) ≡ first_of (flat_map answers l.plain.services)
