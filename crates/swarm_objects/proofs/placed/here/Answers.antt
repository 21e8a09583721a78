use Rattle.std.proofs.Common.{◌∙◌}
use Rattle.swarm_objects.proofs.Placing.{here_is}
use Rattle.swarm_objects.proofs.placed.here.Goals as goal

pub returns : goal.returns
returns g c = c.count_here.ensures ∙ here_is (g.R.Rows.tables c.args.rows.now) c.args.node c.args.service
