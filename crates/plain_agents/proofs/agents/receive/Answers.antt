use Rattle.plain_agents.proofs.AgentChanges.{change_at, change_unless}
use Rattle.swarm_objects.specs.Loops.Agents.{received}
use Rattle.swarm_objects.specs.Rows.{agent_node}
use Rattle.plain_agents.proofs.agents.receive.Goals as goal

pub returns : goal.returns
returns c =
    change_at agent_node 0 c.args.node (received c.args.message) c.args.agents.now c.index-agents-index.result
    c.in-Some.index c.requires c.in-Some.ensures

pub returns-in_default : goal.returns-in_default
returns-in_default c =
    change_unless agent_node c.args.node (received c.args.message) c.args.agents.now c.agent_index.result
    c.agent_index.ensures c.in_default.not-Some
