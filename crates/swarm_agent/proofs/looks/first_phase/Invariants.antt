use Rattle.std.proofs.Common.{true, ◌≡◌}
use Rattle.std.specs.List.{list_all}
use Rattle.std.specs.Slice.Iter.{iter_rest}
use Rattle.swarm_agent.specs.Agent.{least_phase, phase_cmp, phases}
use Rattle.swarm_objects.specs.Bounds.{has_near_times}
use Rattle.swarm_objects.specs.Rows.{least_by}
use Rattle.swarm_agent.proofs.looks.first_phase.Given as goal

abbrev pub invariant-loop-executor : goal.invariant-loop-executor
invariant-loop-executor l = record {
  near : list_all has_near_times (iter_rest l.executor-iterator) ≡ true;
  least : least_by phase_cmp l.least (phases (iter_rest l.executor-iterator)) ≡ least_phase l.executors;
}
