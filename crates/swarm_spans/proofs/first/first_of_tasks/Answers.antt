use Rattle.swarm_spans.proofs.Firsts.{less_tasks}
use Rattle.swarm_spans.proofs.first.first_of_tasks.Goals as goal

pub loop-task-smaller : goal.loop-task-smaller
loop-task-smaller g c =
    less_tasks (g.R.Rows.tables c.args.rows.now) c.loop-task.span c.pass.new.self c.in-Some.task.now
    c.in-Some.ensures c.pass.ensures
