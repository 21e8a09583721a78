use Rattle.swarm_settle.proofs.ClosedPlaces.{closed-places}
use Rattle.swarm_settle.proofs.theorems.closed_places_say_why.Goals as goal

pub returns : goal.returns
returns c = closed-places
