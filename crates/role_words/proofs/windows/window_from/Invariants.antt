use Rattle.std.specs.Prelude.{filter}
use Rattle.swarm_objects.specs.Tasks.Words.{is_of}
use Rattle.role_words.proofs.SlotLemmas.{IsPart}
use Rattle.role_words.specs.Windows.{IsFresh}
use Rattle.role_words.proofs.windows.window_from.Given as goal

abbrev pub invariant-loop-task : goal.invariant-loop-task
invariant-loop-task g l =
    let tasks = filter (is_of l.service.id) (g.R.Rows.tables l.rows).tasks in
    record {
      fresh : IsFresh l.window l.first;
      part : IsPart l.window l.service tasks l.task-iterator;
    }
