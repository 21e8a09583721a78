use Rattle.std.proofs.Common.{arith}
use Rattle.swarm_objects.proofs.Few.{few_nodes}
use Rattle.swarm_spread.proofs.tree.SpreadTree.best_place.Goals as goal

pub overflow_add-place : goal.overflow_add-place
overflow_add-place g c =
    omega (arith, c.loop-node.invariant.left, few_nodes (g.R.Rows.tables c.args.rows.now) c.requires.usable, c.requires.nodes)
