use Rattle.swarm_settle.proofs.QuietAgents.{quiet-agents}
use Rattle.swarm_settle.proofs.theorems.agents_of_ready_nodes_are_quiet.Goals as goal

pub returns : goal.returns
returns c = quiet-agents
