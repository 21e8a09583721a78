use Rattle.std.proofs.Common.{◌≡◌, ◌++◌, drop, take, true}
use Rattle.std.specs.List.{list_all}
use Rattle.swarm_objects.specs.Agents.Messages.{change_executor}
use Rattle.swarm_objects.specs.Bounds.{is_near_executor}
use Rattle.swarm_objects.specs.Loops.Agents.{stepped}
use Rattle.plain_agents.proofs.agents.step_executor.Given as goal

abbrev pub invariant-loop-executor : goal.invariant-loop-executor
invariant-loop-executor l =
    let change = change_executor l.task (stepped l.clock) in record {
      near : list_all is_near_executor (drop l.executor-index l.executors) ≡ true;
      rows : take l.executor-index l.executors ++ change (drop l.executor-index l.executors)
          ≡ change l.initial.executors;
    }
