use Rattle.swarm_sched.proofs.class_table.row_of.Given as goal
use Rattle.swarm_sched.specs.Inside.ClassTable.{IsRow}

abbrev pub invariant-loop-class : goal.invariant-loop-class
invariant-loop-class l = IsRow l.key l.heads l.node l.class l.row
