use Rattle.std.proofs.Common.{◌≡◌, ◌++◌, take}
use Rattle.swarm_objects.specs.Loops.Agents.{has_step}
use Rattle.swarm_objects.specs.Loops.Words.{duty_where}
use Rattle.swarm_objects.specs.declared.duties.Duty.TheVariants as duty
use Rattle.plain_agents.proofs.agents.add_steps.Given as goal

abbrev pub invariant-loop-executor : goal.invariant-loop-executor
invariant-loop-executor l =
    l.duties
    ≡ l.initial.duties
    ++ duty_where (has_step l.clock) (λ e. duty.Exec l.agent.node e.task) (take l.executor-index l.executor-items)
