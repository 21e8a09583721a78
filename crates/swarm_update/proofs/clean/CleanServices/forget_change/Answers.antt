use Rattle.std.proofs.Common.{sym, ◌∙◌}
use Rattle.swarm_update.proofs.CleanSlots.{left_unknown}
use Rattle.swarm_update.proofs.clean.CleanServices.forget_change.Goals as goal

pub returns-then-not-has : goal.returns-then-not-has
returns-then-not-has g c =
    left_unknown (g.R.Rows.tables c.args.rows.now) c.args.change.now c.args.self.now c.in-Some.service
    (sym c.in-Some.ensures) (sym c.has.ensures ∙ c.if-not-has.true)
