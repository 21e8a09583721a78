use Rattle.std.proofs.Common.{◌∙◌}
use Rattle.plain_agents.proofs.AgentDues.{register_due}
use Rattle.swarm_plain.specs.Plain.{world_of}
use Rattle.plain_agents.proofs.agents.is_register_due.Goals as goal

pub returns : goal.returns
returns c = c.one_registers.ensures ∙ register_due (world_of c.args.plain.now) c.args.node
