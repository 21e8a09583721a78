use Rattle.std.proofs.Common.{◌≡◌}
use Rattle.std.specs.Slice.Iter.{iter_rest}
use Rattle.swarm_agent.specs.Agent.{first_task}
use Rattle.swarm_objects.specs.Loops.Agents.{is_forgotten}
use Rattle.swarm_agent.proofs.looks.first_forgotten.Given as goal

abbrev pub invariant-loop-executor : goal.invariant-loop-executor
invariant-loop-executor l = first_task is_forgotten (iter_rest l.executor-iterator) ≡ first_task is_forgotten l.executors
