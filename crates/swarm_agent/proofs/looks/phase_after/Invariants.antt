use Rattle.std.proofs.Common.{true, ◌≡◌}
use Rattle.std.specs.List.{list_all}
use Rattle.std.specs.Slice.Iter.{iter_rest}
use Rattle.std.specs.Option.{option_map}
use Rattle.swarm_agent.specs.Agent.{phase_after, phases, task_first}
use Rattle.swarm_objects.specs.Bounds.{has_near_times}
use Rattle.swarm_objects.specs.Rows.{first_of}
use Rattle.swarm_agent.proofs.looks.phase_after.Given as goal

abbrev pub invariant-loop-executor : goal.invariant-loop-executor
invariant-loop-executor l = record {
  near : list_all has_near_times (iter_rest l.executor-iterator) ≡ true;
  first : option_map task_first (first_of (phases (iter_rest l.executor-iterator)))
      ≡ phase_after l.after l.executors;
}
