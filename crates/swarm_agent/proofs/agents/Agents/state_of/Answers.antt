use Rattle.std.proofs.Common.{ap, sym, ◌∙◌}
use Rattle.std.specs.Option.{option_copied}
use Rattle.swarm_agent.proofs.ByNode.{state-at, state-none}
use Rattle.swarm_agent.proofs.agents.Agents.state_of.Goals as goal

pub returns-in-Some : goal.returns-in-Some
returns-in-Some c agents seen =
    c.state_of.ensures
    ∙ state-at c.args.node c.args.task c.self.inside.rows.entries c.in-Some.agent.now agents (c.self.view_is ∙ seen)
    (ap option_copied (sym c.in-Some.is) ∙ c.get.ensures.value)

pub returns-in-None : goal.returns-in-None
returns-in-None c agents seen =
    state-none c.args.node c.args.task c.self.inside.rows.entries agents (c.self.view_is ∙ seen)
    (ap option_copied (sym c.in-None.is) ∙ c.get.ensures.value)
