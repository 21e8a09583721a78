use Rattle.std.proofs.Common.{arith, length, ◌≤◌}
use Rattle.swarm_plain.proofs.Openings.{all_within}
use Rattle.swarm_plain.proofs.remote.reject_unfit.Goals as goal

pub returns : goal.returns
returns c =
    let at_end : length c.loop-task.tasks ≤ c.loop-task.task-index = omega arith in
    all_within c.args.version c.args.clock c.args.node c.args.cpu c.args.mem c.loop-task.cpu_left c.loop-task.mem_left
    c.loop-task.task-index c.loop-task.tasks c.args.tasks.now at_end c.loop-task.invariant
