use Rattle.std.proofs.Common.{arith, get_or, length, rules, ◌%◌, ◌/◌, ◌<◌, ◌^◌, ◌≡◌}
use Rattle.swarm_spans.proofs.HasBits.{bit_found, word_passed}
use Rattle.swarm_spans.proofs.bits.Bits.from.Goals as goal

pub returns-then-rest-ne0-clause-onwards : goal.returns-then-rest-ne0-clause-onwards
returns-then-rest-ne0-clause-onwards c = omega (arith, c.saturating_add.ensures, c.loop.invariant.0, c.ranges.first.fits)

pub returns-then-rest-ne0-clause-none : goal.returns-then-rest-ne0-clause-none
returns-then-rest-ne0-clause-none c =
    let long : length c.args.self.now.words ≡ 16 = search rules in
    let fits : get_or c.args.self.now.words c.word_of.result 0 < 2 ^ 64 = search rules in
    let rest : get_or c.args.self.now.words c.word_of.result 0 / 2 ^ (c.loop.id % 64) < 2 ^ 64 = search rules in
    let some : 0 < get_or c.args.self.now.words c.word_of.result 0 / 2 ^ (c.loop.id % 64) = search rules in
    bit_found c.args.self.now c.args.first c.loop.id c.saturating_add.result c.word_of.result long c.word_of.ensures.word
    c.loop.invariant.1 fits rest some (omega (arith, c.saturating_add.ensures, c.from.ensures))

pub loop-preserved : goal.loop-preserved
loop-preserved c =
    let long : length c.args.self.now.words ≡ 16 = search rules in
    let zero : get_or c.args.self.now.words c.word_of.result 0 / 2 ^ (c.loop.id % 64) ≡ 0 = search rules in (
      omega (arith, c.saturating_add-id.ensures, c.loop.invariant.0, c.ranges.first.fits),
      word_passed c.args.self.now c.args.first c.loop.id c.saturating_add-id.result c.word_of.result long c.word_of.ensures.word
          c.loop.invariant.1 zero (omega (arith, c.saturating_add-id.ensures)),
    )
