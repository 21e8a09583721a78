use Rattle.std.proofs.Common.{◌∙◌}
use Rattle.swarm_settle.proofs.HeldTasks.{found_among}
use Rattle.swarm_settle.proofs.held_updates.holding_task.Goals as goal

pub returns : goal.returns
returns g c = c.holding_among.ensures ∙ found_among c.args.service.now (g.R.Rows.tables c.args.rows.now).tasks
