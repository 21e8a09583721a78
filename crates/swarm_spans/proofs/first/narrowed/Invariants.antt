use Rattle.std.specs.Prelude.{◌-◌}
use Rattle.swarm_objects.specs.Rows.{task_id}
use Rattle.swarm_spans.specs.Spans.{Covers, has_duty, is_left_out}
use Rattle.swarm_spans.proofs.first.narrowed.Given as goal

abbrev pub invariant-loop-task : goal.invariant-loop-task
invariant-loop-task g l =
    let t = g.R.Rows.tables l.rows in
    Covers task_id (is_left_out task_id (has_duty (g.L.TaskLine.duties t)) l.narrow) l.left t.tasks

abbrev pub decreases-loop-task : goal.decreases-loop-task
decreases-loop-task g l = l.left.high - l.left.after
