use Rattle.std.proofs.Common.{rules, ap, refl, sym, ◌∙◌, ◌≡◌, []}
use Rattle.std.specs.Prelude.{fold}
use Rattle.role_words.specs.Slots.{slots}
use Rattle.role_words.specs.Tallies.{counted, empty}
use Rattle.role_words.proofs.Tallying.{counting_all, few_at_first, tells_rows}
use Rattle.role_words.proofs.windows.tally.Goals as goal

pub loop-slot-init : goal.loop-slot-init
loop-slot-init g c =
    let s = c.args.service.now in
    let tasks = (g.R.Rows.tables c.args.rows.now).tasks in
    let all : c.into_iter-slot-iterator.result ≡ slots s tasks = search rules in
    let begun : c.new-tally.result ≡ empty c.args.from = search rules in
    record {
      left = counting_all c.args.from s tasks c.new-tally.result c.into_iter-slot-iterator.result begun all;
      few = few_at_first c.args.from s tasks c.new-tally.result c.into_iter-slot-iterator.result begun all;
    }

pub returns : goal.returns
returns g c =
    let t = g.R.Rows.tables c.args.rows.now in
    let none : c.loop-slot.slot-iterator ≡ [] = search rules in
    tells_rows c.args.from t c.args.service.now t.tasks c.loop-slot.tally refl
    (sym (ap (fold counted c.loop-slot.tally) none) ∙ c.loop-slot.invariant.left)
