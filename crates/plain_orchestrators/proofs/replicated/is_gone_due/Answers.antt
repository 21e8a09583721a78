use Rattle.std.proofs.Common.{◌∙◌}
use Rattle.plain_orchestrators.proofs.ReplicatedDue.{gone_due}
use Rattle.swarm_plain.specs.Plain.{world_of}
use Rattle.plain_orchestrators.proofs.replicated.is_gone_due.Goals as goal

pub returns : goal.returns
returns c = c.any_gone.ensures ∙ gone_due (world_of c.args.plain.now) c.args.id
