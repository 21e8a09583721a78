use Rattle.swarm_watch.proofs.Joining.{notes}
use Rattle.swarm_watch.proofs.theorems.entries_are_noted.Goals as goal

pub returns : goal.returns
returns c = notes
