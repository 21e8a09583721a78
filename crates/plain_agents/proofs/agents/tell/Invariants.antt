use Rattle.std.proofs.Common.{◌≡◌, ◌++◌, drop, take}
use Rattle.swarm_objects.specs.Agents.Messages.{change_executor}
use Rattle.swarm_objects.specs.Loops.Agents.{told}
use Rattle.plain_agents.proofs.agents.tell.Given as goal

abbrev pub invariant-loop-executor : goal.invariant-loop-executor
invariant-loop-executor l =
    let change = change_executor l.task told in
    take l.executor-index l.executors ++ change (drop l.executor-index l.executors) ≡ change l.initial.executors
