use Rattle.swarm_watch.proofs.Joining.{begins, next_free}
use Rattle.swarm_watch.proofs.theorems.new_watches_are_the_worlds.Goals as goal

pub returns-clause-free : goal.returns-clause-free
returns-clause-free c = next_free

pub returns-clause-begun : goal.returns-clause-begun
returns-clause-begun c = begins
