use Rattle.std.proofs.Common.{◌≡◌, length, rules}
use Rattle.swarm_update.proofs.StaleBits.{bit_added}
use Rattle.swarm_update.proofs.stale_places.StalePlaces.add.Goals as goal

pub returns : goal.returns
returns c = λ other.
    let long : length c.args.self.now.words ≡ 16 = search rules in
    bit_added c.args.self.now c.args.number other long c.requires
