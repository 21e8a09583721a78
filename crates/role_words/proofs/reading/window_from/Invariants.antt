use Rattle.std.proofs.Common.{take}
use Rattle.role_words.specs.Windows.{IsFresh, Shows}
use Rattle.role_words.proofs.reading.window_from.Given as goal

abbrev pub invariant-loop-task : goal.invariant-loop-task
invariant-loop-task l = record {
  fresh : IsFresh l.window l.first;
  shows : Shows l.window l.service (take l.task-index l.tasks);
}
