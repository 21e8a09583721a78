use Rattle.std.proofs.Common.{◌≡◌}
use Rattle.std.specs.Prelude.{fold}
use Rattle.role_words.specs.Marks.{tasks_at}
use Rattle.swarm_update.specs.Marks.{mark_of}
use Rattle.swarm_update.proofs.Renoting.{marked}
use Rattle.swarm_update.proofs.marks.mark_of.Given as goal

abbrev pub invariant-loop-task : goal.invariant-loop-task
invariant-loop-task g l =
    let t = g.R.Rows.tables l.rows in
    fold (marked t l.service) l.mark l.task-iterator ≡ mark_of t l.service (tasks_at l.service t.tasks l.number)
