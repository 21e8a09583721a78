use Rattle.swarm_settle.proofs.NextAgents.{agent_found, no_agent, no_agent_more}
use Rattle.swarm_settle.proofs.next_agents.next_agent_in.Goals as goal

pub returns-in_default : goal.returns-in_default
returns-in_default c =
    no_agent c.args.agents.now c.args.span.now c.loop-after.after c.skip.result c.loop-after.invariant c.skip.ensures.none
    c.in_default.ensures

pub returns-then-has : goal.returns-then-has
returns-then-has c =
    agent_found c.args.agents.now c.args.span.now c.loop-after.after c.skip.result c.in-Some.node.now c.in-Some.agent.now
    c.requires c.loop-after.invariant c.skip.ensures.none c.in-Some.ensures c.if-has.ensures

pub returns : goal.returns
returns c =
    no_agent_more c.args.agents.now c.args.span.now c.loop-after.after c.loop-after.invariant c.loop-after-test.false
