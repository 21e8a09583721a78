use Rattle.swarm_settle.proofs.Fresh.{always-fresh}
use Rattle.swarm_settle.proofs.theorems.inboxes_are_fresh.Goals as goal

pub returns : goal.returns
returns c = always-fresh
