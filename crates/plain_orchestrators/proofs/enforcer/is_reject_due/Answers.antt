use Rattle.std.proofs.Common.{◌∙◌}
use Rattle.plain_orchestrators.proofs.OneDue.{reject_due}
use Rattle.swarm_plain.specs.Plain.{world_of}
use Rattle.plain_orchestrators.proofs.enforcer.is_reject_due.Goals as goal

pub returns : goal.returns
returns c = c.has_misplaced.ensures ∙ reject_due (world_of c.args.plain.now) c.args.id
