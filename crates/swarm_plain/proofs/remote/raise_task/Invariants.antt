use Rattle.std.proofs.Common.{◌≡◌, ◌++◌, drop, take}
use Rattle.swarm_objects.specs.Changes.{raised_to}
use Rattle.swarm_objects.specs.Rows.{change_row, task_id}
use Rattle.swarm_plain.proofs.remote.raise_task.Given as goal

abbrev pub invariant-loop-row : goal.invariant-loop-row
invariant-loop-row l =
    let change = change_row task_id l.task (raised_to l.version l.clock l.state) in
    take l.row-index l.tasks ++ change (drop l.row-index l.tasks) ≡ change l.initial.tasks
