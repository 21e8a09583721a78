use Rattle.swarm_model.proofs.Laws.Orderly.{tasks-rise}
use Rattle.swarm_model.proofs.theorems.tasks_rise.Goals as goal

pub returns : goal.returns
returns c = tasks-rise
