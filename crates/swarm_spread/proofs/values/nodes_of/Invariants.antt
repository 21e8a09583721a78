use Rattle.std.proofs.Common.{◌≡◌, ◌++◌}
use Rattle.std.specs.Prelude.{map}
use Rattle.swarm_objects.specs.Rows.{node_id}
use Rattle.swarm_spread.proofs.values.nodes_of.Given as goal

abbrev pub invariant-loop-node : goal.invariant-loop-node
invariant-loop-node g l = l.ids ++ map node_id l.node-iterator ≡ map node_id (g.R.Rows.tables l.rows).nodes
