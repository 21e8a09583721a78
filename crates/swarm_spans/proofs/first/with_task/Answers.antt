use Rattle.swarm_spans.proofs.Narrowing.{duty_added}
use Rattle.swarm_spans.proofs.first.with_task.Goals as goal

pub returns-then-is_some : goal.returns-then-is_some
returns-then-is_some g c =
    duty_added (g.L.TaskLine.duties (g.R.Rows.tables c.args.rows.now)) c.args.task.now c.args.span c.add.new.self c.add.ensures
