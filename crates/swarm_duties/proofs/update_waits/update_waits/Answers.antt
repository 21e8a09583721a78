use Rattle.std.proofs.Common.{arith}
use Rattle.std.specs.Prelude.{flat_map}
use Rattle.swarm_settle.proofs.LeastWaits.{least_next}
use Rattle.swarm_model.specs.Settle.{update_wait, wait_cmp}
use Rattle.swarm_objects.specs.Rows.{least_by}
use Rattle.swarm_plain.specs.Plain.{tables_of}
use Rattle.swarm_duties.proofs.update_waits.update_waits.Goals as goal

pub loop-service-preserved : goal.loop-service-preserved
loop-service-preserved c =
    let waits = update_wait (tables_of c.args.plain.now) in
    least_next wait_cmp waits c.as_slice-service-items.result.now c.loop-service.service-index c.service-item.result
    c.loop-service.least c.update_wait-least.result (least_by wait_cmp c.args.best (flat_map waits c.args.plain.now.services))
    (omega arith) c.service-item.is c.update_wait-least.ensures c.loop-service.invariant
