use Rattle.std.proofs.Common.{length, ◌+◌, ◌≡◌}
use Rattle.std.specs.Prelude.{fold}
use Rattle.role_words.specs.Slots.{slots}
use Rattle.role_words.specs.Tallies.{counted, tally_of}
use Rattle.role_words.proofs.Tallying.{IsFew}
use Rattle.role_words.proofs.tallies.tally_of.Given as goal

abbrev pub invariant-loop-slot : goal.invariant-loop-slot
invariant-loop-slot l = record {
  left : fold counted l.tally l.slot-iterator ≡ tally_of l.from (slots l.service l.tasks);
  few : IsFew (l.from + length l.tasks) (length l.slot-iterator) l.tally;
}
