use Rattle.swarm_settle.proofs.NothingElse.{nothing-else}
use Rattle.swarm_settle.proofs.theorems.nothing_else_is_live.Goals as goal

pub returns : goal.returns
returns c = nothing-else
