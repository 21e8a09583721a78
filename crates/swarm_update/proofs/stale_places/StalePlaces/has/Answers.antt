use Rattle.swarm_update.proofs.StaleBits.{bit_read}
use Rattle.swarm_update.proofs.stale_places.StalePlaces.has.Goals as goal

pub returns : goal.returns
returns c = bit_read c.args.self.now c.args.number
