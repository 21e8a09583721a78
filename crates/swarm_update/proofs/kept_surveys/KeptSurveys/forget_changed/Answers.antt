use Rattle.std.proofs.Common.{drop}
use Rattle.std.proofs.lemmas.List.{drop_all}
use Rattle.swarm_update.proofs.Forgetting.{pass_at, pass_end}
use Rattle.swarm_update.proofs.kept_surveys.KeptSurveys.forget_changed.Goals as goal

pub returns-clause-goes_on : goal.returns-clause-goes_on
returns-clause-goes_on g c =
    let changes = c.args.changes.now in
    let i = c.loop-change.change-index in
    pass_end (g.R.Rows.tables c.args.rows.now) (drop i changes) changes c.loop-change.self c.requires.usable
    (drop_all i changes c.loop-change-test.false) c.loop-change.invariant

pub loop-change-preserved : goal.loop-change-preserved
loop-change-preserved g c =
    pass_at (g.R.Rows.tables c.args.rows.now) c.args.changes.now c.loop-change.change-index c.change-item.result
    c.loop-change.self c.forget_change.new.self c.loop-change-test.true c.change-item.is c.forget_change.ensures
    c.loop-change.invariant
