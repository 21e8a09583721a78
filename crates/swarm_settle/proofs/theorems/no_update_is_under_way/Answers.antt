use Rattle.swarm_settle.proofs.WellPlaced.{no-updates}
use Rattle.swarm_settle.proofs.theorems.no_update_is_under_way.Goals as goal

pub returns : goal.returns
returns c = no-updates
