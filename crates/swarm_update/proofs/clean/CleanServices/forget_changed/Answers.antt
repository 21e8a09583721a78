use Rattle.std.proofs.Common.{drop}
use Rattle.std.proofs.lemmas.List.{drop_all}
use Rattle.swarm_update.proofs.CleanSlots.{slots_end}
use Rattle.swarm_update.proofs.clean.CleanServices.forget_changed.Goals as goal

pub returns-clause-goes_on : goal.returns-clause-goes_on
returns-clause-goes_on g c =
    let changes = c.args.changes.now in
    let i = c.loop-change.change-index in
    slots_end (g.R.Rows.tables c.args.rows.now) (drop i changes) changes c.loop-change.self
    (drop_all i changes c.loop-change-test.false) c.loop-change.invariant
