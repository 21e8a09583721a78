use Rattle.std.specs.Prelude.{◌-◌}
use Rattle.swarm_spans.specs.Spans.{CoversTasks}
use Rattle.swarm_spans.proofs.first.first_of_tasks.Given as goal

abbrev pub invariant-loop-task : goal.invariant-loop-task
invariant-loop-task g l = CoversTasks g.L.TaskLine.duties (g.R.Rows.tables l.rows) l.span

abbrev pub decreases-loop-task : goal.decreases-loop-task
decreases-loop-task g l = l.span.high - l.span.after
