use Rattle.std.proofs.Common.{◌≡◌, ◌+◌, ◌≤◌, length}
use Rattle.std.specs.Prelude.{count_by, filter, fold}
use Rattle.swarm_objects.specs.Services.Runs.{is_failure}
use Rattle.swarm_objects.specs.Tasks.Words.{is_of}
use Rattle.swarm_update.specs.Marks.{noted, noted_all}
use Rattle.swarm_update.proofs.survey.Survey.make_anew.Given as goal

abbrev pub invariant-loop-task : goal.invariant-loop-task
invariant-loop-task g l =
    let t = g.R.Rows.tables l.rows in
    let all = filter (is_of l.service.id) t.tasks in
    record {
      places : fold (noted t l.service) l.self.places l.task-iterator ≡ noted_all t l.service;
      sum : l.failures + count_by (is_failure l.service l.run) l.task-iterator
          ≡ count_by (is_failure l.service l.run) all;
      fits : l.failures + length l.task-iterator ≤ length all;
    }
