use Rattle.std.specs.Prelude.{length}
use Rattle.swarm_spans.specs.Services.Touches.{HasTouched, Touching}
use Rattle.swarm_spans.proofs.service_touches.add_shifted.Given as goal

abbrev pub invariant-loop-change : goal.invariant-loop-change
invariant-loop-change g l =
    let t = g.R.Rows.tables l.rows in
    Touching (HasTouched (g.S.Sight.quiet t) (g.S.Sight.see t) t) l.changes l.left l.initial.span l.span

abbrev pub decreases-loop-change : goal.decreases-loop-change
decreases-loop-change g l = length l.left
