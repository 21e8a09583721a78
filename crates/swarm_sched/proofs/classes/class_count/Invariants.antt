use Rattle.swarm_sched.proofs.Classing.{AreBelowUpTo}
use Rattle.swarm_sched.proofs.classes.class_count.Given as goal

abbrev pub invariant-loop-entry : goal.invariant-loop-entry
invariant-loop-entry l = AreBelowUpTo l.sorted l.entry-index l.count
