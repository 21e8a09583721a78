use Rattle.std.proofs.Common.{◌≡◌, drop, Some}
use Rattle.swarm_model.specs.Calls.Refusals.{other_holder}
use Rattle.swarm_objects.specs.Rows.{first_of}
use Rattle.swarm_plain.proofs.Plain.other_holder.Given as goal
use Rattle.swarm_plain.specs.Plain.{tables_of}

abbrev pub invariant-loop-service : goal.invariant-loop-service
invariant-loop-service l =
    let t = tables_of l.self in
    first_of (other_holder (record t { services = drop l.service-index l.service-items }) l.own l.port (Some l.number)) ≡
    first_of (other_holder t l.own l.port (Some l.number))
