use Rattle.swarm_settle.proofs.SentLaws.{always-owners}
use Rattle.swarm_settle.proofs.theorems.modelled_nodes_have_agents.Goals as goal

pub returns : goal.returns
returns c = always-owners
