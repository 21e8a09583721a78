use Rattle.std.proofs.Common.{length}
use Rattle.swarm_sched.proofs.ranks.Ranks.touch_each.Given as goal
use Rattle.swarm_sched.specs.Inside.Ranks.{AreStaler, AreTouching}

abbrev pub invariant-loop-change : goal.invariant-loop-change
invariant-loop-change g l = record {
  staler : AreStaler l.initial.self l.self;
  each : AreTouching (g.R.Rows.tables l.rows) l.changes l.left l.self.stale;
}

abbrev pub decreases-loop-change : goal.decreases-loop-change
decreases-loop-change g l = length l.left
