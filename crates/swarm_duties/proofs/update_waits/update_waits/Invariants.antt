use Rattle.std.proofs.Common.{◌≡◌, drop}
use Rattle.std.specs.Prelude.{flat_map}
use Rattle.swarm_model.specs.Settle.{update_wait, wait_cmp}
use Rattle.swarm_objects.specs.Rows.{least_by}
use Rattle.swarm_plain.specs.Plain.{tables_of}
use Rattle.swarm_duties.proofs.update_waits.update_waits.Given as goal

abbrev pub invariant-loop-service : goal.invariant-loop-service
invariant-loop-service l =
    let waits = update_wait (tables_of l.plain) in
    least_by wait_cmp l.least (flat_map waits (drop l.service-index l.service-items))
    ≡ least_by wait_cmp l.fn.best (flat_map waits l.plain.services)
