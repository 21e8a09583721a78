use Rattle.std.proofs.Common.{◌∙◌}
use Rattle.plain_updates.proofs.UpdatesDue.{fail_due}
use Rattle.swarm_plain.specs.Plain.{world_of}
use Rattle.plain_updates.proofs.updates.is_fail_due.Goals as goal

pub returns : goal.returns
returns c = c.any_fail.ensures ∙ fail_due (world_of c.args.plain.now) c.args.id
