use Rattle.std.proofs.Common.{length, ◌≡◌}
use Rattle.swarm_sched.proofs.class_loads.tell_classes.Given as goal
use Rattle.swarm_sched.specs.declared.classes.TheConstants.{CLASSES}

abbrev pub invariant-loop-entry : goal.invariant-loop-entry
invariant-loop-entry g l = record {
  same : l.branches ≡ l.initial.branches;
  all : length l.is_told ≡ CLASSES;
}
