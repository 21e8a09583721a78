use Rattle.swarm_sched.proofs.class_table.values_of.Given as goal
use Rattle.swarm_sched.specs.Inside.ClassTable.{AreRows}

abbrev pub invariant-loop-class : goal.invariant-loop-class
invariant-loop-class l = AreRows l.key l.heads l.class l.rows
