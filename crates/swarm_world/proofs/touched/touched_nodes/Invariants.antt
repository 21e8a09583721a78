use Rattle.std.specs.Prelude.{length}
use Rattle.swarm_spans.specs.Spans.{empty}
use Rattle.swarm_spans.specs.Touched.{Touching}
use Rattle.swarm_world.proofs.touched.touched_nodes.Given as goal
use Rattle.swarm_world.specs.Inside.Records.{tables_of}
use Rattle.swarm_world.specs.Inside.Touches.{TouchesTold}

abbrev pub invariant-loop-change : goal.invariant-loop-change
invariant-loop-change l =
    Touching (λ c s. TouchesTold (tables_of l.records) s c) l.changes l.left empty l.span

abbrev pub decreases-loop-change : goal.decreases-loop-change
decreases-loop-change l = length l.left
