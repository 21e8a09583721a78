use Rattle.std.proofs.Common.{drop}
use Rattle.swarm_update.proofs.Forgetting.{AllPass}
use Rattle.swarm_update.proofs.kept_surveys.KeptSurveys.forget_changed.Given as goal

abbrev pub invariant-loop-change : goal.invariant-loop-change
invariant-loop-change g l =
    AllPass (g.R.Rows.tables l.rows) (drop l.change-index l.changes) l.changes l.self
