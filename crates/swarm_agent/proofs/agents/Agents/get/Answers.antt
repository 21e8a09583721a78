use Rattle.std.proofs.Common.{ap, ◌∙◌}
use Rattle.std.specs.Option.{option_map}
use Rattle.swarm_agent.proofs.ByNode.{found-row}
use Rattle.swarm_agent.specs.Agent.{at_node}
use Rattle.swarm_agent.specs.Times.{seen_agent}
use Rattle.swarm_objects.specs.Rows.{agent_node, row_at}
use Rattle.swarm_agent.proofs.agents.Agents.get.Goals as goal

pub returns : goal.returns
returns c =
    ap (option_map (λ a. seen_agent (at_node c.args.node a))) c.get.ensures.value
    ∙ found-row c.args.node c.self.inside.rows.entries ∙ ap (row_at agent_node c.args.node) c.self.view_is
