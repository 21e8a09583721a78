use Rattle.std.proofs.Common.{◌<◌}
use Rattle.swarm_sched.proofs.class_table.ClassTable.leading.Given as goal

abbrev pub invariant-loop-class : goal.invariant-loop-class
invariant-loop-class l = l.lead < l.class
