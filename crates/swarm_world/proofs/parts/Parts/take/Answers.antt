use Rattle.std.proofs.Common.{ap, subst, sym, ◌∙◌}
use Rattle.swarm_objects.specs.Effects.{is_agents}
use Rattle.swarm_world.proofs.AgentsTaken.{agents_role, agents_taken}
use Rattle.swarm_world.specs.Inside.Spanned.{CoversAgents}
use Rattle.swarm_world.proofs.parts.Parts.take.Goals as goal

pub take_by_agents-requires-clause-own : goal.take_by_agents-requires-clause-own
take_by_agents-requires-clause-own c =
    ap is_agents c.requires.own ∙ sym c.is_agents.ensures ∙ c.if-is_agents.true

pub returns-then-is_agents-clause-agents : goal.returns-then-is_agents-clause-agents
returns-then-is_agents-clause-agents c = λ h is due covers.
    let own = c.requires.own ∙ agents_role c.args.role (sym c.is_agents.ensures ∙ c.if-is_agents.true) in
    subst (CoversAgents c.take_by_agents.new.self) (sym c.take_by_agents.ensures.agents)
    (agents_taken c.agents_stay_covered.ensures c.args.version h c.args.duty c.take_by_agents.result c.args.self.now
    c.take_by_agents.new.self c.args.marks.now.agents is own due (c.take_by_agents.ensures.enters h is) covers)
