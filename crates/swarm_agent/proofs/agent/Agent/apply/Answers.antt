use Rattle.std.proofs.Common.{None, subst, sym}
use Rattle.swarm_agent.proofs.Near.{near-applied}
use Rattle.swarm_agent.specs.Inside.Near.{AreNear}
use Rattle.swarm_agent.proofs.agent.Agent.apply.Goals as goal

pub invariant_of-self-2 : goal.invariant_of-self-2
invariant_of-self-2 c =
    subst (λ es. AreNear es None) (sym c.in_ok-take_in.ensures.ok)
    (near-applied c.self.inside.executors c.self.inside.inbox c.in-Some.message c.self.invariant c.in-Some.is)
