use Rattle.std.proofs.Common.{◌≡◌, ◌+◌, ◌≤◌, length}
use Rattle.std.specs.Prelude.{count_by}
use Rattle.swarm_objects.specs.Shown.{is_shown_running}
use Rattle.swarm_model.specs.Calls.Views.{running_of}
use Rattle.swarm_store.specs.Inside.State.{tables_now}
use Rattle.swarm_store.proofs.state.State.running_of.Given as goal

abbrev pub invariant-loop-task : goal.invariant-loop-task
invariant-loop-task l =
    let t = tables_now l.self in
    record {
      sum : l.count + count_by (is_shown_running l.service) l.task-iterator ≡ running_of t l.service;
      fits : l.count + length l.task-iterator ≤ length t.tasks;
    }
