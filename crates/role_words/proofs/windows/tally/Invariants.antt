use Rattle.std.proofs.Common.{length, ◌+◌, ◌≡◌}
use Rattle.std.specs.Prelude.{fold}
use Rattle.role_words.specs.Slots.{slots}
use Rattle.role_words.specs.Tallies.{counted, tally_of}
use Rattle.role_words.proofs.Tallying.{IsFew}
use Rattle.role_words.proofs.windows.tally.Given as goal

abbrev pub invariant-loop-slot : goal.invariant-loop-slot
invariant-loop-slot g l =
    let tasks = (g.R.Rows.tables l.rows).tasks in
    record {
      left : fold counted l.tally l.slot-iterator ≡ tally_of l.from (slots l.service tasks);
      few : IsFew (l.from + length tasks) (length l.slot-iterator) l.tally;
    }
