use Rattle.std.proofs.Common.{◌≡◌, ◌+◌, ◌*◌, ◌≤◌, ◌^◌, length}
use Rattle.std.specs.Prelude.{sum_by}
use Rattle.swarm_objects.specs.Nodes.Holdings.{task_mem, tasks_placed_on}
use Rattle.swarm_objects.proofs.placed.reserved_mem.Given as goal

abbrev pub invariant-loop-task : goal.invariant-loop-task
invariant-loop-task g l =
    let placed = tasks_placed_on (g.R.Rows.tables l.rows) l.node in
    record {
      left : l.sum + sum_by task_mem l.task-iterator ≡ sum_by task_mem placed;
      small : l.sum + 2 ^ 64 * length l.task-iterator ≤ 2 ^ 64 * length placed;
    }
