use Rattle.std.proofs.Common.{◌≡◌, ◌++◌, drop, take}
use Rattle.swarm_objects.specs.Changes.{placed}
use Rattle.swarm_objects.specs.Rows.{change_row, task_id}
use Rattle.plain_placement.proofs.scheduler.place.Given as goal

abbrev pub invariant-loop-task : goal.invariant-loop-task
invariant-loop-task l =
    let change = change_row task_id l.id (placed l.version l.now l.node) in
    take l.task-index l.tasks ++ change (drop l.task-index l.tasks) ≡ change l.initial.tasks
