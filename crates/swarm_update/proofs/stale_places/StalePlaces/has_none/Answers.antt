use Rattle.std.proofs.Common.{◌≡◌, arith, get_or}
use Rattle.std.proofs.lemmas.Bool.Decides.{nat_tests}
use Rattle.swarm_update.proofs.StaleBits.{word_none}
use Rattle.swarm_update.proofs.stale_places.StalePlaces.has_none.Goals as goal

pub returns : goal.returns
returns c = λ e number is.
    let zero : get_or c.args.self.now.words c.args.word 0 ≡ 0 = grind (arith, nat_tests, e) in
    word_none c.args.self.now c.args.word number zero is
