use Rattle.swarm_replicated.proofs.Keeping.{none-known}
use Rattle.swarm_replicated.proofs.known_places.KnownPlaces.none.Goals as goal

pub returns : goal.returns
returns c t = none-known t
