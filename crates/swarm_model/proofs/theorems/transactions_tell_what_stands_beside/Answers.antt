use Rattle.swarm_model.proofs.Laws.Beside.{stands-beside}
use Rattle.swarm_model.proofs.theorems.transactions_tell_what_stands_beside.Goals as goal

pub returns : goal.returns
returns c = stands-beside
