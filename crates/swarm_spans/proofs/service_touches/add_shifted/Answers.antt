use Rattle.swarm_spans.proofs.Services.Touching.{touching_ends}
use Rattle.swarm_spans.proofs.service_touches.add_shifted.Goals as goal

pub returns-clause-has : goal.returns-clause-has
returns-clause-has g c =
    let t = g.R.Rows.tables c.args.rows.now in
    touching_ends (g.S.Sight.quiet t) (g.S.Sight.see t) t c.args.changes.now c.loop-change.left.now c.args.span.now
    c.loop-change.span c.loop-change.invariant c.in_default.ensures.cases
