use Rattle.std.proofs.Common.{◌≡◌, ◌≤◌, ◌*◌, ◌^◌, cond, take}
use Rattle.std.specs.Prelude.{◌&&◌, count_by, sum_by}
use Rattle.swarm_objects.specs.Nodes.Holdings.{is_placed_on, task_cpu, task_mem}
use Rattle.swarm_objects.specs.Tasks.Words.{is_live, is_of}
use Rattle.swarm_objects.specs.declared.tasks.Task.{Task}
use Rattle.plain_placement.proofs.loads.node_load.Given as goal

abbrev pub invariant-loop-task : goal.invariant-loop-task
invariant-loop-task l =
    let seen = take l.task-index l.task-items in
    record {
      cpu : l.load.cpu ≡ sum_by (λ (x : Task). cond (is_placed_on l.node x) (task_cpu x) 0) seen;
      mem : l.load.mem ≡ sum_by (λ (x : Task). cond (is_placed_on l.node x) (task_mem x) 0) seen;
      here : l.load.here ≡ count_by (λ (x : Task). is_of l.service x && is_live x && is_placed_on l.node x) seen;
      live : l.load.live ≡ count_by (λ (x : Task). is_live x && is_placed_on l.node x) seen;
      small_cpu : l.load.cpu ≤ l.task-index * 2 ^ 64;
      small_mem : l.load.mem ≤ l.task-index * 2 ^ 64;
      few_here : l.load.here ≤ l.task-index;
      few_live : l.load.live ≤ l.task-index;
    }
