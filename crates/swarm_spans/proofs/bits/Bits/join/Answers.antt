use Rattle.std.proofs.Common.{length, rules, ◌≡◌}
use Rattle.swarm_spans.proofs.HasBits.{AreJoined, former_joined, more_joined}
use Rattle.swarm_spans.proofs.bits.Bits.join.Goals as goal

pub returns-clause-former : goal.returns-clause-former
returns-clause-former c =
    let long : length c.args.self.now.words ≡ 16 = search rules in
    let all : AreJoined 16 c.args.self.now.words c.args.other.words c.loop-place.self.words = search rules in
    former_joined c.args.self.now.words c.args.other.words c.loop-place.self.words long all

pub returns-clause-more : goal.returns-clause-more
returns-clause-more c =
    let long : length c.args.other.words ≡ 16 = search rules in
    let all : AreJoined 16 c.args.self.now.words c.args.other.words c.loop-place.self.words = search rules in
    more_joined c.args.self.now.words c.args.other.words c.loop-place.self.words long all
