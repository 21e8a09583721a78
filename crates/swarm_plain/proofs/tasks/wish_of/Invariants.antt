use Rattle.std.proofs.Common.{◌≡◌, ◌++◌, drop, take}
use Rattle.swarm_objects.specs.Changes.{wanted}
use Rattle.swarm_objects.specs.Rows.{change_row, task_id}
use Rattle.swarm_plain.proofs.tasks.wish_of.Given as goal

abbrev pub invariant-loop-task : goal.invariant-loop-task
invariant-loop-task l =
    let change = change_row task_id l.id (wanted l.version l.desired) in
    take l.task-index l.tasks ++ change (drop l.task-index l.tasks) ≡ change l.initial.tasks
