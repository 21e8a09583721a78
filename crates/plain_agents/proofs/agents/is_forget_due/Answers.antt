use Rattle.std.proofs.Common.{◌∙◌}
use Rattle.plain_agents.proofs.AgentDues.{forget_due}
use Rattle.swarm_plain.specs.Plain.{world_of}
use Rattle.plain_agents.proofs.agents.is_forget_due.Goals as goal

pub returns : goal.returns
returns c = c.one_forgets.ensures ∙ forget_due (world_of c.args.plain.now) c.args.node c.args.task
