use Rattle.swarm_update.proofs.StaleBits.{none_stale}
use Rattle.swarm_update.proofs.stale_places.StalePlaces.none.Goals as goal

pub returns : goal.returns
returns c = none_stale
