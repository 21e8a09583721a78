use Rattle.swarm_objects.specs.Rows.{agent_node}
use Rattle.swarm_settle.specs.Asked.{may_wait}
use Rattle.swarm_spans.proofs.Narrowing.{narrow_begins, narrow_ends}
use Rattle.swarm_world.proofs.StillWaiting.{fewer_asked, one_asked}
use Rattle.swarm_world.proofs.settling.still_waiting.Goals as goal

pub loop-node-init : goal.loop-node-init
loop-node-init c = narrow_begins agent_node may_wait c.empty-still.result c.args.span c.args.agents.now c.requires.covers

pub loop-node-preserved : goal.loop-node-preserved
loop-node-preserved c =
    one_asked c.args.agents.now c.loop-node.still c.add_waiting.new.span c.loop-node.left c.pass.new.self
    c.in-Some.node.now c.in-Some.agent.now c.requires.ordered c.loop-node.invariant c.in-Some.ensures
    c.add_waiting.ensures.wider c.add_waiting.ensures.own c.pass.ensures

pub loop-node-smaller : goal.loop-node-smaller
loop-node-smaller c =
    fewer_asked c.args.agents.now c.loop-node.left c.pass.new.self c.in-Some.node.now c.in-Some.agent.now
    c.in-Some.ensures c.pass.ensures

pub returns : goal.returns
returns c =
    narrow_ends agent_node may_wait c.loop-node.still c.loop-node.left c.args.agents.now c.loop-node.invariant
    c.in_default.ensures
