use Rattle.std.proofs.Common.{subst, true, ◌≡◌}
use Rattle.std.specs.Prelude.{IfSome}
use Rattle.swarm_agent.proofs.Found.{first-passes}
use Rattle.swarm_agent.specs.Agent.{AgentState, passes}
use Rattle.swarm_objects.specs.Loops.Agents.{is_forgotten}
use Rattle.swarm_agent.proofs.agent.Agent.forget_due.Goals as goal

pub returns-clause-due : goal.returns-clause-due
returns-clause-due c =
    subst (λ (s : AgentState). IfSome c.first_forgotten.result (λ task. passes is_forgotten task s ≡ true)) c.self.view_is
    (first-passes is_forgotten c.first_forgotten.result c.self.inside.executors c.first_forgotten.ensures.order c.first_forgotten.ensures.value)
