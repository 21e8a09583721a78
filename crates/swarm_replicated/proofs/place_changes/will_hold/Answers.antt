use Rattle.std.proofs.Common.{sym, ◌∙◌}
use Rattle.swarm_replicated.proofs.PlaceSteps.{emptied, filled, kept}
use Rattle.swarm_replicated.proofs.place_changes.will_hold.Goals as goal

pub returns-then-is_filled : goal.returns-then-is_filled
returns-then-is_filled g c =
    sym (filled (g.R.Rows.tables c.args.rows.now) c.args.service.now c.args.number c.args.changes.now
    (sym c.is_filled.ensures ∙ c.if-is_filled.true))

pub returns-then-is_kept : goal.returns-then-is_kept
returns-then-is_kept g c =
    sym (kept (g.R.Rows.tables c.args.rows.now) c.args.service.now c.args.number c.args.changes.now
    (sym c.is_kept.ensures ∙ c.if-is_kept.true))

pub returns-then-is_emptied : goal.returns-then-is_emptied
returns-then-is_emptied g c =
    sym (emptied (g.R.Rows.tables c.args.rows.now) c.args.service.now c.args.number c.args.changes.now
    (sym c.is_emptied.ensures ∙ c.if-is_emptied.true))
