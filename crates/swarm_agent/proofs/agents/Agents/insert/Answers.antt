use Rattle.std.proofs.Common.{ap, refl, ◌∙◌}
use Rattle.std.specs.Prelude.{map}
use Rattle.swarm_agent.proofs.ByNode.{put-rises}
use Rattle.swarm_agent.specs.Agent.{at_node}
use Rattle.swarm_agent.specs.Agents.{agent_row}
use Rattle.swarm_agent.specs.Times.{seen_agent}
use Rattle.swarm_objects.proofs.MapEntries.{put-entry}
use Rattle.swarm_objects.specs.Rows.{agent_node, with_row}
use Rattle.swarm_agent.proofs.agents.Agents.insert.Goals as goal

pub invariant_of-self : goal.invariant_of-self
invariant_of-self c =
    put-rises c.args.node c.self.inside.rows.entries c.insert.new.self.entries c.args.agent c.insert.result c.self.invariant
    c.insert.ensures.entries c.insert.ensures.err

pub returns-in-Ok-clause-ok : goal.returns-in-Ok-clause-ok
returns-in-Ok-clause-ok c =
    ap (map agent_row) c.in-Ok.ensures.entries
    ∙ put-entry agent_node agent_row (λ e. refl) c.args.node c.args.agent c.self.inside.rows.entries
    ∙ ap (with_row agent_node (seen_agent (at_node c.args.node c.args.agent))) c.self.view_is
