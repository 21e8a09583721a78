use Rattle.std.specs.Prelude.{◌-◌}
use Rattle.swarm_model.specs.Settle.{start_wait}
use Rattle.swarm_objects.specs.Rows.{task_id}
use Rattle.swarm_settle.proofs.waits.start_waits.Given as goal
use Rattle.swarm_settle.specs.Waiting.{IsGoneOver}

abbrev pub invariant-loop-task : goal.invariant-loop-task
invariant-loop-task g l =
    let t = g.R.Rows.tables l.rows in IsGoneOver task_id (start_wait t) t.tasks l.fn.best l.least l.left

abbrev pub decreases-loop-task : goal.decreases-loop-task
decreases-loop-task g l = l.left.high - l.left.after
