use Rattle.std.proofs.Common.{◌≡◌}
use Rattle.std.specs.Prelude.{fold}
use Rattle.role_words.specs.UpdateMarks.{marked, update_window}
use Rattle.role_words.proofs.update_window.window_of.Given as goal

abbrev pub invariant-loop-task : goal.invariant-loop-task
invariant-loop-task g l =
    let t = g.R.Rows.tables l.rows in
    fold (marked t l.service) l.window l.task-iterator ≡ update_window t l.service l.first
