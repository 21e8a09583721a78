use Rattle.std.proofs.Common.{◌∙◌}
use Rattle.plain_orchestrators.proofs.GlobalDue.{any_comes_due}
use Rattle.swarm_plain.specs.Plain.{world_of}
use Rattle.plain_orchestrators.proofs.global.is_global_create_due.Goals as goal

pub returns : goal.returns
returns c = c.any_comes.ensures ∙ any_comes_due (world_of c.args.plain.now) c.args.id c.args.node
