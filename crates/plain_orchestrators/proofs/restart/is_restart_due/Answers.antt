use Rattle.std.proofs.Common.{◌∙◌}
use Rattle.plain_orchestrators.proofs.OneDue.{restart_due}
use Rattle.swarm_plain.specs.Plain.{world_of}
use Rattle.plain_orchestrators.proofs.restart.is_restart_due.Goals as goal

pub returns : goal.returns
returns c = c.has_over.ensures ∙ restart_due (world_of c.args.plain.now) c.args.id
