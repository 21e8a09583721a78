use Rattle.swarm_agent.proofs.Seen.{times}
use Rattle.swarm_agent.proofs.theorems.times_that_no_step_looks_at.Goals as goal

pub returns : goal.returns
returns c = times
