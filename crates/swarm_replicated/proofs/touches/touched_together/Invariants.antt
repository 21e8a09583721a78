use Rattle.std.proofs.Common.{drop}
use Rattle.swarm_replicated.proofs.Reaching.{Reaches}
use Rattle.swarm_replicated.specs.Inside.Touches.{touches_only}
use Rattle.swarm_replicated.proofs.touches.touched_together.Given as goal

abbrev pub invariant-loop-change : goal.invariant-loop-change
invariant-loop-change g l =
    Reaches (touches_only (g.R.Rows.tables l.rows)) l.together (drop l.change-index l.changes) l.changes
