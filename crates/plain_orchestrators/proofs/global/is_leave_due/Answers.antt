use Rattle.std.proofs.Common.{◌∙◌}
use Rattle.plain_orchestrators.proofs.GlobalDue.{any_leaves_due}
use Rattle.swarm_plain.specs.Plain.{world_of}
use Rattle.plain_orchestrators.proofs.global.is_leave_due.Goals as goal

pub returns : goal.returns
returns c = c.any_leaves.ensures ∙ any_leaves_due (world_of c.args.plain.now) c.args.id c.args.node
