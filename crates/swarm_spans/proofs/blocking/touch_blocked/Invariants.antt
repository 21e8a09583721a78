use Rattle.std.specs.Prelude.{length}
use Rattle.swarm_spans.specs.Blocked.{TouchesBlocked}
use Rattle.swarm_spans.specs.Services.Touches.{Touching}
use Rattle.swarm_spans.proofs.blocking.touch_blocked.Given as goal

abbrev pub invariant-loop-change : goal.invariant-loop-change
invariant-loop-change g l =
    Touching (λ c s. TouchesBlocked (g.R.Rows.tables l.rows) l.waiting s c) l.changes l.left l.initial.span l.span

abbrev pub decreases-loop-change : goal.decreases-loop-change
decreases-loop-change g l = length l.left
