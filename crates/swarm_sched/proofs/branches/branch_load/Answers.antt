use Rattle.std.proofs.Common.{ap, arith, length, ◌∙◌}
use Rattle.std.specs.Prelude.{count_by}
use Rattle.swarm_sched.proofs.Branching.{branch_is}
use Rattle.swarm_sched.proofs.branches.branch_load.Goals as goal
use Rattle.swarm_sched.specs.Inside.Branches.{is_of_branch}

pub loop-task-init : goal.loop-task-init
loop-task-init g c =
    let t = g.R.Rows.tables c.args.rows.now in
    let keys = c.args.keys.now in
    let node = c.args.node.now in
    let tasks = c.into_iter-task-iterator.ensures.into_iter_gives ∙ c.tasks_of-task-items.ensures in
    let all = branch_is t c.args.service keys node c.requires.sound.ordered.nodes in
    record {
      sum = omega (arith, ap (count_by (is_of_branch t keys node)) tasks, all);
      fits = omega (arith, ap length tasks);
    }
