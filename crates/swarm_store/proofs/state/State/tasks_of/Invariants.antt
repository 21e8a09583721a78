use Rattle.std.proofs.Common.{◌≡◌, ◌++◌}
use Rattle.std.specs.Prelude.{map}
use Rattle.swarm_objects.specs.Shown.{task_shown}
use Rattle.std.specs.Prelude.{filter}
use Rattle.swarm_objects.specs.Tasks.Words.{is_of}
use Rattle.swarm_store.specs.Inside.State.{tables_now}
use Rattle.swarm_store.proofs.state.State.tasks_of.Given as goal

abbrev pub invariant-loop-task : goal.invariant-loop-task
invariant-loop-task l =
    l.rows ++ map (task_shown (tables_now l.self)) l.task-iterator ≡ map (task_shown (tables_now l.self)) (filter (is_of l.service) (tables_now l.self).tasks)
