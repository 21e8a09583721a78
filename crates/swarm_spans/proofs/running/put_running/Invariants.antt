use Rattle.std.specs.Prelude.{length}
use Rattle.swarm_spans.specs.Holding.{HavePassed}
use Rattle.swarm_spans.specs.RunsOn.{PutsRunning}
use Rattle.swarm_spans.proofs.running.put_running.Given as goal

abbrev pub invariant-loop-change : goal.invariant-loop-change
invariant-loop-change g l = HavePassed (PutsRunning (g.R.Rows.tables l.rows)) l.changes l.left

abbrev pub decreases-loop-change : goal.decreases-loop-change
decreases-loop-change g l = length l.left
