use Rattle.std.proofs.Common.{◌≡◌, ◌++◌, drop, take}
use Rattle.swarm_objects.specs.Loops.Restart.{closed_by}
use Rattle.swarm_objects.specs.Rows.{change_row, task_id}
use Rattle.swarm_plain.proofs.tasks.close_of.Given as goal

abbrev pub invariant-loop-task : goal.invariant-loop-task
invariant-loop-task l =
    let change = change_row task_id l.id (closed_by l.version l.cause) in
    take l.task-index l.tasks ++ change (drop l.task-index l.tasks) ≡ change l.initial.tasks
