use Rattle.std.specs.Prelude.{length}
use Rattle.swarm_spans.specs.Touched.{Touching, TouchesReady}
use Rattle.swarm_spans.proofs.touching.touch_nodes.Given as goal

abbrev pub invariant-loop-change : goal.invariant-loop-change
invariant-loop-change l = Touching (λ c s. TouchesReady s c) l.changes l.left l.initial.span l.span

abbrev pub decreases-loop-change : goal.decreases-loop-change
decreases-loop-change l = length l.left
