use Rattle.std.proofs.Common.{◌∙◌}
use Rattle.plain_updates.proofs.UpdatesDue.{swap_due}
use Rattle.swarm_plain.specs.Plain.{world_of}
use Rattle.plain_updates.proofs.updates.is_swap_due.Goals as goal

pub returns : goal.returns
returns c = c.any_swap.ensures ∙ swap_due (world_of c.args.plain.now) c.args.id c.args.number
