use Rattle.std.proofs.Common.{◌∙◌}
use Rattle.plain_updates.proofs.UpdatesDue.{start_due}
use Rattle.swarm_plain.specs.Plain.{world_of}
use Rattle.plain_updates.proofs.updates.is_start_due.Goals as goal

pub returns : goal.returns
returns c = c.any_start.ensures ∙ start_due (world_of c.args.plain.now) c.args.id
