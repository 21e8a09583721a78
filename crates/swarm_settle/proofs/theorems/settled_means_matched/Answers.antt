use Rattle.swarm_settle.proofs.Matched.{settled-matches}
use Rattle.swarm_settle.proofs.theorems.settled_means_matched.Goals as goal

pub returns : goal.returns
returns c = settled-matches
