use Rattle.std.proofs.Common.{rules, ◌≡◌}
use Rattle.role_words.specs.Slots.{slots}
use Rattle.role_words.specs.Tallies.{empty}
use Rattle.role_words.proofs.Tallying.{counting_all, few_at_first}
use Rattle.role_words.proofs.tallies.tally_of.Goals as goal

pub loop-slot-init : goal.loop-slot-init
loop-slot-init c =
    let s = c.args.service.now in
    let tasks = c.args.tasks.now in
    let all : c.into_iter-slot-iterator.result ≡ slots s tasks = search rules in
    let begun : c.new-tally.result ≡ empty c.args.from = search rules in
    record {
      left = counting_all c.args.from s tasks c.new-tally.result c.into_iter-slot-iterator.result begun all;
      few = few_at_first c.args.from s tasks c.new-tally.result c.into_iter-slot-iterator.result begun all;
    }
