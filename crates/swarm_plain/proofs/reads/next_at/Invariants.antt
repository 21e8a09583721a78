use Rattle.std.proofs.Common.{◌≡◌, drop}
use Rattle.std.specs.Prelude.{filter}
use Rattle.swarm_objects.specs.Rows.{row_above, task_id}
use Rattle.swarm_objects.specs.Tasks.Words.{is_at}
use Rattle.swarm_plain.proofs.reads.next_at.Given as goal

abbrev pub invariant-loop-task : goal.invariant-loop-task
invariant-loop-task l =
    row_above task_id l.after (filter (is_at l.service l.fn.place) (drop l.task-index l.tasks))
    ≡ row_above task_id l.after (filter (is_at l.service l.fn.place) l.tasks)
