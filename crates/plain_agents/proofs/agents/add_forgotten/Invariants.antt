use Rattle.std.proofs.Common.{◌≡◌, ◌++◌, take}
use Rattle.swarm_objects.specs.Loops.Agents.{is_forgotten}
use Rattle.swarm_objects.specs.Loops.Words.{duty_where}
use Rattle.swarm_objects.specs.declared.duties.Duty.TheVariants as duty
use Rattle.plain_agents.proofs.agents.add_forgotten.Given as goal

abbrev pub invariant-loop-executor : goal.invariant-loop-executor
invariant-loop-executor l =
    l.duties
    ≡ l.initial.duties
    ++ duty_where is_forgotten (λ e. duty.Forget l.agent.node e.task) (take l.executor-index l.executor-items)
