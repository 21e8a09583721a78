use Rattle.std.proofs.Common.{◌≡◌, ◌++◌, drop, take}
use Rattle.swarm_objects.specs.Agents.Messages.{change_executor, gone_executor}
use Rattle.plain_agents.proofs.executors.set_gone.Given as goal

abbrev pub invariant-loop-executor : goal.invariant-loop-executor
invariant-loop-executor l =
    let change = change_executor l.task gone_executor in
    take l.executor-index l.executors ++ change (drop l.executor-index l.executors) ≡ change l.initial.executors
