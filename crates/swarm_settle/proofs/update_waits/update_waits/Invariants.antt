use Rattle.std.specs.Prelude.{◌-◌}
use Rattle.swarm_model.specs.Settle.{update_wait}
use Rattle.swarm_objects.specs.Rows.{service_id}
use Rattle.swarm_settle.proofs.update_waits.update_waits.Given as goal
use Rattle.swarm_settle.specs.Waiting.{IsGoneOver}

abbrev pub invariant-loop-service : goal.invariant-loop-service
invariant-loop-service g l =
    let t = g.R.Rows.tables l.rows in IsGoneOver service_id (update_wait t) t.services l.fn.best l.least l.left

abbrev pub decreases-loop-service : goal.decreases-loop-service
decreases-loop-service g l = l.left.high - l.left.after
