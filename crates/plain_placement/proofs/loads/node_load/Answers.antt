use Rattle.std.proofs.Common.{arith, cond, length, ◌≤◌}
use Rattle.std.specs.Prelude.{◌&&◌}
use Rattle.swarm_objects.specs.Nodes.Holdings.{is_placed_on, task_cpu, task_mem}
use Rattle.swarm_objects.specs.Tasks.Words.{is_live, is_of}
use Rattle.swarm_objects.specs.declared.tasks.Task.{Task}
use Rattle.swarm_plain.specs.Plain.{tables_of}
use Rattle.plain_placement.proofs.Loading.{added_so_far, of_all, passed_sum}
use Rattle.plain_placement.proofs.loads.node_load.Goals as goal

pub loop-task-preserved : goal.loop-task-preserved
loop-task-preserved c =
    let node = c.args.node in
    let service = c.args.service in
    let items = c.as_slice-task-items.result.now in
    let i = c.loop-task.task-index in
    let x = c.task-item.result in
    let lt = c.loop-task-test.true in
    let so_far = c.loop-task.invariant in
    let more = c.with_task-load.ensures in
    record {
      cpu =
          added_so_far (λ (x : Task). cond (is_placed_on node x) (task_cpu x) 0) items i x c.loop-task.load.cpu
          c.with_task-load.result.cpu lt c.task-item.is so_far.cpu more.cpu;
      mem =
          added_so_far (λ (x : Task). cond (is_placed_on node x) (task_mem x) 0) items i x c.loop-task.load.mem
          c.with_task-load.result.mem lt c.task-item.is so_far.mem more.mem;
      here =
          added_so_far (λ (x : Task). cond (is_of service x && is_live x && is_placed_on node x) 1 0) items i x
          c.loop-task.load.here c.with_task-load.result.here lt c.task-item.is so_far.here more.here;
      live =
          added_so_far (λ (x : Task). cond (is_live x && is_placed_on node x) 1 0) items i x c.loop-task.load.live
          c.with_task-load.result.live lt c.task-item.is so_far.live more.live;
      small_cpu = omega (arith, so_far.small_cpu, more.small_cpu);
      small_mem = omega (arith, so_far.small_mem, more.small_mem);
      few_here = omega (arith, so_far.few_here, more.few_here);
      few_live = omega (arith, so_far.few_live, more.few_live);
    }

pub returns : goal.returns
returns c =
    let node = c.args.node in
    let service = c.args.service in
    let items = c.as_slice-task-items.result.now in
    let rows = (tables_of c.args.plain.now).tasks in
    let i = c.loop-task.task-index in
    let held = c.loop-task.load in
    let are = c.as_slice-task-items.ensures in
    let ended : length items ≤ i = omega (arith, c.loop-task-test.false) in
    let so_far = c.loop-task.invariant in
    record {
      cpu =
          passed_sum task_cpu (is_placed_on node) rows held.cpu
          (of_all (λ (x : Task). cond (is_placed_on node x) (task_cpu x) 0) items rows i held.cpu are ended so_far.cpu);
      mem =
          passed_sum task_mem (is_placed_on node) rows held.mem
          (of_all (λ (x : Task). cond (is_placed_on node x) (task_mem x) 0) items rows i held.mem are ended so_far.mem);
      here =
          of_all (λ (x : Task). cond (is_of service x && is_live x && is_placed_on node x) 1 0) items rows i held.here
          are ended so_far.here;
      live =
          of_all (λ (x : Task). cond (is_live x && is_placed_on node x) 1 0) items rows i held.live are ended
          so_far.live;
    }
