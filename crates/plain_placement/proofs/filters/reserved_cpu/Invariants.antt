use Rattle.std.proofs.Common.{◌≡◌, ◌≤◌, ◌*◌, ◌^◌, take}
use Rattle.std.specs.Prelude.{filter, sum_by}
use Rattle.swarm_objects.specs.Nodes.Holdings.{is_placed_on, task_cpu}
use Rattle.plain_placement.proofs.filters.reserved_cpu.Given as goal

abbrev pub invariant-loop-task : goal.invariant-loop-task
invariant-loop-task l = record {
  so_far : l.sum ≡ sum_by task_cpu (filter (is_placed_on l.node) (take l.task-index l.task-items));
  small : l.sum ≤ l.task-index * 2 ^ 64;
}
