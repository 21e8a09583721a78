use Rattle.plain_agents.proofs.AgentChanges.{change_at, change_unless}
use Rattle.plain_agents.specs.OneAgent.{finished}
use Rattle.swarm_objects.specs.Rows.{agent_node}
use Rattle.plain_agents.proofs.agents.finish.Goals as goal

pub returns : goal.returns
returns c =
    change_at agent_node 0 c.args.node (finished c.args.applied c.args.executors) c.args.agents.now
    c.index-agents-index.result c.in-Some.index c.requires c.in-Some.ensures

pub returns-in_default : goal.returns-in_default
returns-in_default c =
    change_unless agent_node c.args.node (finished c.args.applied c.args.executors) c.args.agents.now
    c.agent_index.result c.agent_index.ensures c.in_default.not-Some
