use Rattle.std.proofs.Common.{◌≡◌}
use Rattle.std.specs.Slice.Iter.{iter_rest}
use Rattle.swarm_agent.specs.Agent.{first_task}
use Rattle.swarm_objects.specs.Loops.Agents.{has_step}
use Rattle.swarm_objects.specs.Rows.{executor_task, rows_above}
use Rattle.swarm_agent.proofs.looks.first_step_above.Given as goal

abbrev pub invariant-loop-executor : goal.invariant-loop-executor
invariant-loop-executor l =
    first_task (has_step l.now) (iter_rest l.executor-iterator)
    ≡ first_task (has_step l.now) (rows_above executor_task l.after l.executors)
