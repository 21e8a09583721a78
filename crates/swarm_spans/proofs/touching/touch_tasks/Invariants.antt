use Rattle.std.specs.Prelude.{length}
use Rattle.swarm_spans.specs.Touched.{Touches, Touching}
use Rattle.swarm_spans.proofs.touching.touch_tasks.Given as goal

abbrev pub invariant-loop-change : goal.invariant-loop-change
invariant-loop-change g l =
    Touching
    (λ c s. Touches g.T.TaskReads.may g.T.TaskReads.Alike g.S.ServiceReads.Alike g.N.NodeReads.Alike
    (g.R.Rows.tables l.rows) s c)
    l.changes l.left l.initial.span l.span

abbrev pub decreases-loop-change : goal.decreases-loop-change
decreases-loop-change g l = length l.left
