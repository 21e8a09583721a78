use Rattle.std.proofs.Common.{length, ◌+◌, ◌≡◌, ◌≤◌}
use Rattle.std.specs.Prelude.{Some, count_by, filter}
use Rattle.swarm_objects.specs.Loops.Replicated.{crowd}
use Rattle.swarm_objects.specs.Tasks.Words.{is_on}
use Rattle.swarm_replicated.proofs.Counting.{is_live_of}
use Rattle.swarm_replicated.proofs.crowds.count_on.Given as goal

abbrev pub invariant-loop-task : goal.invariant-loop-task
invariant-loop-task g l =
    let t = g.R.Rows.tables l.rows in
    record {
      sum : l.count + count_by (is_live_of l.service) l.task-iterator ≡ crowd t l.service (Some l.node);
      fits : l.count + length l.task-iterator ≤ length (filter (is_on l.node) t.tasks);
    }
