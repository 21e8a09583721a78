use Rattle.swarm_agent.proofs.Found.{duties}
use Rattle.swarm_agent.proofs.theorems.what_is_found_is_the_first_duty.Goals as goal

pub returns : goal.returns
returns c = duties
