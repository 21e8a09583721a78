use Rattle.std.proofs.Common.{◌≡◌, drop}
use Rattle.std.specs.Prelude.{flat_map}
use Rattle.swarm_model.specs.Settle.{phase_wait, wait_cmp}
use Rattle.swarm_objects.specs.Rows.{least_by}
use Rattle.swarm_duties.proofs.waits.executor_wait.Given as goal

abbrev pub invariant-loop-executor : goal.invariant-loop-executor
invariant-loop-executor l =
    least_by wait_cmp l.least (flat_map phase_wait (drop l.executor-index l.executor-items))
    ≡ least_by wait_cmp l.fn.best (flat_map phase_wait l.agent.executors)
