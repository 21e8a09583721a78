use Rattle.swarm_agent.proofs.Heard.{hearing}
use Rattle.swarm_agent.proofs.theorems.messages_bring_the_last_due_set.Goals as goal

pub returns : goal.returns
returns c = hearing
