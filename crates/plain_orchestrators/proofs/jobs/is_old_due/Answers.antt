use Rattle.std.proofs.Common.{◌∙◌}
use Rattle.plain_orchestrators.proofs.JobsDue.{old_due}
use Rattle.swarm_plain.specs.Plain.{world_of}
use Rattle.plain_orchestrators.proofs.jobs.is_old_due.Goals as goal

pub returns : goal.returns
returns c = c.any_old.ensures ∙ old_due (world_of c.args.plain.now) c.args.id
