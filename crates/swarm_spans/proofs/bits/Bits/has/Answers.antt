use Rattle.std.proofs.Common.{length, rules, ◌≡◌}
use Rattle.swarm_spans.proofs.HasBits.{bit_read}
use Rattle.swarm_spans.proofs.bits.Bits.has.Goals as goal

pub returns : goal.returns
returns c =
    let long : length c.args.self.now.words ≡ 16 = search rules in
    bit_read c.args.self.now c.args.id c.word_of.result long c.word_of.ensures.word
