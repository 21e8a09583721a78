use Rattle.swarm_watch.proofs.Joining.{finishes}
use Rattle.swarm_watch.proofs.theorems.ended_watches_are_the_worlds.Goals as goal

pub returns : goal.returns
returns c = finishes
