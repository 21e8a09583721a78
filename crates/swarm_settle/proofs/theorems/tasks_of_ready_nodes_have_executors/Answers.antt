use Rattle.swarm_settle.proofs.Served.{always-served}
use Rattle.swarm_settle.proofs.theorems.tasks_of_ready_nodes_have_executors.Goals as goal

pub returns : goal.returns
returns c = always-served
