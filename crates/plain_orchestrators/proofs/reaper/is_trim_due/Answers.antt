use Rattle.std.proofs.Common.{◌∙◌}
use Rattle.plain_orchestrators.proofs.OneDue.{trim_due}
use Rattle.swarm_plain.specs.Plain.{world_of}
use Rattle.plain_orchestrators.proofs.reaper.is_trim_due.Goals as goal

pub returns : goal.returns
returns c = c.has_trimmed.ensures ∙ trim_due (world_of c.args.plain.now) c.args.id
