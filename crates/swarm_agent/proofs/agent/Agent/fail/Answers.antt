use Rattle.std.proofs.Common.{subst, sym}
use Rattle.swarm_agent.proofs.Near.{near-lost}
use Rattle.swarm_agent.specs.Inside.Near.{AreNear}
use Rattle.swarm_agent.proofs.agent.Agent.fail.Goals as goal

pub invariant_of-self : goal.invariant_of-self
invariant_of-self c =
    subst (λ es. AreNear es c.self.inside.inbox) (sym c.lose.ensures)
    (near-lost c.self.inside.executors c.self.inside.inbox c.self.invariant)
