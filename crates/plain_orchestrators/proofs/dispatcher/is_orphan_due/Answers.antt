use Rattle.std.proofs.Common.{◌∙◌}
use Rattle.plain_orchestrators.proofs.OneDue.{orphan_due}
use Rattle.swarm_plain.specs.Plain.{world_of}
use Rattle.plain_orchestrators.proofs.dispatcher.is_orphan_due.Goals as goal

pub returns : goal.returns
returns c = c.has_orphaned.ensures ∙ orphan_due (world_of c.args.plain.now) c.args.id
