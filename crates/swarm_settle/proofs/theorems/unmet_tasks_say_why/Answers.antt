use Rattle.swarm_settle.proofs.Unmet.{unmet}
use Rattle.swarm_settle.proofs.theorems.unmet_tasks_say_why.Goals as goal

pub returns : goal.returns
returns c = unmet
