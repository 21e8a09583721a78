use Rattle.std.specs.Prelude.{length}
use Rattle.swarm_sched.proofs.known.KnownTotals.forget_each.Given as goal
use Rattle.swarm_sched.specs.Inside.Known.{Forgetting}

abbrev pub invariant-loop-change : goal.invariant-loop-change
invariant-loop-change g l = Forgetting (g.R.Rows.tables l.rows) l.changes l.left l.initial.self l.self

abbrev pub decreases-loop-change : goal.decreases-loop-change
decreases-loop-change g l = length l.left
