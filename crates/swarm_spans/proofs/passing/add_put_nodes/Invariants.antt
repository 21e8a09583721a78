use Rattle.std.specs.Prelude.{length}
use Rattle.swarm_spans.specs.Timed.{AddsNode}
use Rattle.swarm_spans.specs.Touched.{Touching}
use Rattle.swarm_spans.proofs.passing.add_put_nodes.Given as goal

abbrev pub invariant-loop-change : goal.invariant-loop-change
invariant-loop-change g l = Touching (AddsNode g.T.NodeTest.test) l.changes l.left l.initial.span l.span

abbrev pub decreases-loop-change : goal.decreases-loop-change
decreases-loop-change g l = length l.left
