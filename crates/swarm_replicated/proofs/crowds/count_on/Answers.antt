use Rattle.std.proofs.Common.{ap, arith, length, ◌∙◌}
use Rattle.std.specs.Prelude.{count_by}
use Rattle.swarm_replicated.proofs.Counting.{crowd_on, is_live_of}
use Rattle.swarm_replicated.proofs.crowds.count_on.Goals as goal

pub loop-task-init : goal.loop-task-init
loop-task-init g c =
    let t = g.R.Rows.tables c.args.rows.now in
    let service = c.args.service.now in
    let tasks = c.into_iter-task-iterator.ensures.into_iter_gives ∙ c.tasks_on-task-items.ensures in
    let all = crowd_on t service c.args.node in
    record {
      sum = omega (arith, ap (count_by (is_live_of service)) tasks, all);
      fits = omega (arith, ap length tasks);
    }
