use Rattle.swarm_sched.proofs.classes.sorted_nodes.Given as goal
use Rattle.swarm_sched.specs.Inside.Classes.{AreSorting}

abbrev pub invariant-loop-node : goal.invariant-loop-node
invariant-loop-node g l = AreSorting (g.R.Rows.tables l.rows).nodes l.keys l.heads l.sorted l.node-iterator
