use Rattle.swarm_settle.proofs.GlobalPlaces.{places}
use Rattle.swarm_settle.proofs.theorems.places_are_as_wanted.Goals as goal

pub returns : goal.returns
returns c = places
