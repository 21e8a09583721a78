use Rattle.std.proofs.Common.{◌≡◌, ◌≤◌, ◌*◌, ◌^◌, take}
use Rattle.std.specs.Prelude.{filter, sum_by}
use Rattle.swarm_objects.specs.Nodes.Holdings.{is_placed_on, task_mem}
use Rattle.plain_placement.proofs.filters.reserved_mem.Given as goal

abbrev pub invariant-loop-task : goal.invariant-loop-task
invariant-loop-task l = record {
  so_far : l.sum ≡ sum_by task_mem (filter (is_placed_on l.node) (take l.task-index l.task-items));
  small : l.sum ≤ l.task-index * 2 ^ 64;
}
