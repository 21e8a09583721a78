use Rattle.std.proofs.Common.{◌≡◌, ◌+◌, arith, drop, true}
use Rattle.std.proofs.lemmas.Grind.{common_steps}
use Rattle.std.proofs.lemmas.List.{drop-set-lt}
use Rattle.std.specs.List.{list_all}
use Rattle.plain_agents.proofs.AgentChanges.{all_next}
use Rattle.swarm_objects.specs.Bounds.{is_near_executor}
use Rattle.plain_agents.proofs.agents.step_executor.Goals as goal
use Rattle.plain_agents.proofs.agents.step_executor.Goals.{then-executor-task, else-executor-task}

pub loop-executor-preserved : goal.loop-executor-preserved
loop-executor-preserved c =
    let at = c.loop-executor.executor-index in
    let rest : list_all is_near_executor (drop (at + 1) c.loop-executor.executors) ≡ true =
    all_next is_near_executor c.loop-executor.executors at (omega arith) c.loop-executor.invariant.near in
    record {
      near = elim c.if-executor-task.branch [
        | then-executor-task w ↦ grind (arith, common_steps, drop-set-lt, rest)
        | else-executor-task w ↦ grind (arith, common_steps, rest)
      ];
      rows = elim c.if-executor-task.branch [
        | then-executor-task w ↦ grind (arith, common_steps)
        | else-executor-task w ↦ grind (arith, common_steps)
      ];
    }
