use Rattle.std.proofs.Common.{None, subst, ℕ, ◌-◌, ◌<◌, ◌^◌, ◌≡◌, ◌≤◌}
use Rattle.std.specs.Prelude.{IfSome}
use Rattle.swarm_agent.proofs.Sleeping.{never-phase, no-phase, no-step}
use Rattle.swarm_agent.specs.Agent.{AgentState, first_task, least_phase}
use Rattle.swarm_objects.specs.Loops.Agents.{has_step}
use Rattle.swarm_agent.proofs.agent.Agent.first_wake.Goals as goal

pub returns-clause-phases : goal.returns-clause-phases
returns-clause-phases c =
    subst (λ (s : AgentState). IfSome (least_phase s.executors) (λ phase. c.wakes.result ≤ phase.0)) c.self.view_is
    (no-phase c.wakes.result c.self.inside.executors c.wakes.ensures)

pub returns-clause-steps : goal.returns-clause-steps
returns-clause-steps c =
    subst (λ (s : AgentState). (clock : ℕ) → clock < c.wakes.result → first_task (has_step clock) s.executors ≡ None)
    c.self.view_is (λ clock. no-step c.wakes.result clock c.self.inside.executors c.wakes.ensures)

pub returns-clause-none : goal.returns-clause-none
returns-clause-none c =
    subst (λ (s : AgentState). c.wakes.result ≡ 2 ^ 64 - 1 → least_phase s.executors ≡ None) c.self.view_is
    (never-phase c.wakes.result c.self.inside.executors c.wakes.ensures)
