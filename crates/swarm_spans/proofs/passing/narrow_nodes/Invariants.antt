use Rattle.std.specs.Prelude.{◌-◌}
use Rattle.swarm_objects.specs.Rows.{node_id}
use Rattle.swarm_spans.specs.Spans.{Covers, is_left_out}
use Rattle.swarm_spans.proofs.passing.narrow_nodes.Given as goal

abbrev pub invariant-loop-node : goal.invariant-loop-node
invariant-loop-node g l =
    Covers node_id (is_left_out node_id g.T.NodeTest.test l.narrow) l.left (g.R.Rows.tables l.rows).nodes

abbrev pub decreases-loop-node : goal.decreases-loop-node
decreases-loop-node g l = l.left.high - l.left.after
