use Rattle.swarm_watch.proofs.Joining.{polls}
use Rattle.swarm_watch.proofs.theorems.polls_are_the_worlds.Goals as goal

pub returns : goal.returns
returns c = polls
