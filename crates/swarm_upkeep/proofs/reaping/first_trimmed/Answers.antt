use Rattle.std.proofs.Common.{◌∙◌}
use Rattle.swarm_upkeep.proofs.Pasts.{trimmed_is_past}
use Rattle.swarm_upkeep.proofs.reaping.first_trimmed.Goals as goal

pub returns : goal.returns
returns g c = c.first_trimmed_past.ensures ∙ trimmed_is_past (g.R.Rows.tables c.args.rows.now) c.requires
