use Rattle.std.proofs.Common.{◌≡◌, ◌+◌, ◌≤◌, length}
use Rattle.std.specs.Prelude.{count_by, filter}
use Rattle.swarm_objects.specs.Services.Runs.{is_failure}
use Rattle.swarm_objects.specs.Tasks.Words.{is_of}
use Rattle.swarm_update.proofs.survey.count_failures.Given as goal

abbrev pub invariant-loop-task : goal.invariant-loop-task
invariant-loop-task g l =
    let all = filter (is_of l.service.id) (g.R.Rows.tables l.rows).tasks in
    record {
      sum : l.failures + count_by (is_failure l.service l.run) l.task-iterator
          ≡ count_by (is_failure l.service l.run) all;
      fits : l.failures + length l.task-iterator ≤ length all;
    }
