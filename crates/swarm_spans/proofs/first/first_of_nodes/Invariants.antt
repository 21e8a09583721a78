use Rattle.std.specs.Prelude.{◌-◌}
use Rattle.swarm_spans.specs.Spans.{CoversNodes}
use Rattle.swarm_spans.proofs.first.first_of_nodes.Given as goal

abbrev pub invariant-loop-node : goal.invariant-loop-node
invariant-loop-node g l = CoversNodes g.L.NodeLine.duties (g.R.Rows.tables l.rows) l.span

abbrev pub decreases-loop-node : goal.decreases-loop-node
decreases-loop-node g l = l.span.high - l.span.after
