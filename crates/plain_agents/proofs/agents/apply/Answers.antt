use Rattle.std.proofs.Common.{ap, ◌∙◌}
use Rattle.plain_agents.proofs.AgentApplies.{apply_empty, apply_message, apply_nowhere}
use Rattle.swarm_objects.specs.Rows.{agent_node, row_at}
use Rattle.swarm_plain.specs.Plain.{world_of}
use Rattle.plain_agents.proofs.agents.apply.Goals as goal

pub returns-in_ok-executors-in-Some-inbox-clause-ok : goal.returns-in_ok-executors-in-Some-inbox-clause-ok
returns-in_ok-executors-in-Some-inbox-clause-ok c =
    c.finish_at.ensures
    ∙ apply_message (world_of c.args.plain.now) c.args.node c.in-Some.agent.now c.in-Some-inbox.message
    c.in_ok-executors-in-Some-inbox.executors c.requires.agents
    (c.in-Some.ensures ∙ ap (row_at agent_node c.args.node) c.as_slice.ensures) c.in-Some-inbox.is
    c.in_ok-executors-in-Some-inbox.ensures

pub returns-in-None-inbox-clause-ok : goal.returns-in-None-inbox-clause-ok
returns-in-None-inbox-clause-ok c =
    apply_empty (world_of c.args.plain.now) c.args.node c.in-Some.agent.now c.requires.agents
    (c.in-Some.ensures ∙ ap (row_at agent_node c.args.node) c.as_slice.ensures) c.in-None-inbox.is

pub returns-in-None-clause-ok : goal.returns-in-None-clause-ok
returns-in-None-clause-ok c =
    apply_nowhere (world_of c.args.plain.now) c.args.node
    (c.in-None.ensures ∙ ap (row_at agent_node c.args.node) c.as_slice.ensures)
