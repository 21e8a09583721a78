use Rattle.std.proofs.Common.{drop}
use Rattle.swarm_update.proofs.CleanSlots.{PassSlots}
use Rattle.swarm_update.proofs.clean.CleanServices.forget_changed.Given as goal

abbrev pub invariant-loop-change : goal.invariant-loop-change
invariant-loop-change g l =
    PassSlots (g.R.Rows.tables l.rows) (drop l.change-index l.changes) l.changes l.self
