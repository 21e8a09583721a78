use Rattle.std.proofs.Common.{ap, ◌∙◌}
use Rattle.swarm_agent.proofs.ByNode.{next-above}
use Rattle.swarm_objects.specs.Rows.{agent_node, row_above}
use Rattle.swarm_agent.proofs.agents.Agents.next.Goals as goal

pub returns : goal.returns
returns c =
    next-above c.args.after c.self.inside.rows.entries c.range.result c.next.new.self c.next.result
    (c.range.ensures.between tt) c.next.ensures.steps
    ∙ ap (row_above agent_node c.args.after) c.self.view_is
