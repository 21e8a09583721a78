use Rattle.swarm_store.proofs.Usable.{usable_store}
use Rattle.swarm_store.proofs.theorems.followed_stores_are_usable.Goals as goal

pub returns : goal.returns
returns c = usable_store
