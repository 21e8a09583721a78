use Rattle.std.proofs.Common.{◌≡◌, ◌++◌, drop, take}
use Rattle.swarm_objects.specs.Changes.{in_state}
use Rattle.swarm_objects.specs.Rows.{change_row, task_id}
use Rattle.swarm_objects.specs.declared.tasks.TaskState.TheVariants as state
use Rattle.plain_placement.proofs.scheduler.shut_down.Given as goal

abbrev pub invariant-loop-task : goal.invariant-loop-task
invariant-loop-task l =
    let change = change_row task_id l.id (in_state l.version l.now state.Shutdown) in
    take l.task-index l.tasks ++ change (drop l.task-index l.tasks) ≡ change l.initial.tasks
