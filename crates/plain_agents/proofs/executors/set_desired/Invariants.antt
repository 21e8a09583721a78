use Rattle.std.proofs.Common.{◌≡◌, ◌++◌, drop, take}
use Rattle.swarm_objects.specs.Agents.Messages.{change_executor}
use Rattle.plain_agents.proofs.executors.set_desired.Given as goal

abbrev pub invariant-loop-executor : goal.invariant-loop-executor
invariant-loop-executor l =
    let change = change_executor l.task (λ e. record e { desired = l.desired }) in
    take l.executor-index l.executors ++ change (drop l.executor-index l.executors) ≡ change l.initial.executors
