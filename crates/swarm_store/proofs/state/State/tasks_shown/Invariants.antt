use Rattle.std.proofs.Common.{◌≡◌, ◌++◌}
use Rattle.std.specs.Prelude.{map}
use Rattle.swarm_objects.specs.Shown.{task_shown}
use Rattle.swarm_store.specs.Inside.State.{tables_now}
use Rattle.swarm_store.proofs.state.State.tasks_shown.Given as goal

abbrev pub invariant-loop-task : goal.invariant-loop-task
invariant-loop-task l =
    l.rows ++ map (task_shown (tables_now l.self)) l.task-iterator ≡ map (task_shown (tables_now l.self)) (tables_now l.self).tasks
