use Rattle.swarm_agent.specs.Agent.{at_node}
use Rattle.swarm_agent.specs.Times.{seen_agent}
use Rattle.swarm_objects.specs.Rows.{agent_node}
use Rattle.swarm_settle.proofs.Asking.{agent_asked}
use Rattle.swarm_settle.proofs.GoingOver.{begins, covers_giving, ends, goes_on}
use Rattle.swarm_settle.proofs.waits.waits_at_some.Goals as goal
use Rattle.swarm_settle.specs.Asked.{may_wait}
use Rattle.swarm_settle.specs.ByAgent.{waits_at}
use Rattle.swarm_settle.specs.Standing.{world_with}
use Rattle.std.proofs.Common.{sym}
use Rattle.swarm_spans.proofs.InSpans.{less-left}

pub next_agent_in-requires : goal.next_agent_in-requires
next_agent_in-requires g c = c.requires.rise

pub loop-id-init : goal.loop-id-init
loop-id-init g c =
    let w = world_with (g.R.Rows.tables c.args.rows.now) c.args.sessions.now c.args.agents.now in
    begins agent_node (waits_at w) w.agents c.args.asked c.args.best
    (covers_giving agent_node may_wait (waits_at w) c.args.asked w.agents (agent_asked w) c.requires.covers)

pub loop-id-preserved : goal.loop-id-preserved
loop-id-preserved g c =
    let w = world_with (g.R.Rows.tables c.args.rows.now) c.args.sessions.now c.args.agents.now in
    goes_on agent_node (waits_at w) w.agents c.loop-id.left c.pass.new.self c.args.best c.loop-id.least
    c.waits_at-least.result (seen_agent (at_node c.in-Some.id.now c.in-Some.agent.now)) c.requires.rise
    c.loop-id.invariant c.in-Some.ensures c.waits_at-least.ensures c.pass.ensures

pub loop-id-smaller : goal.loop-id-smaller
loop-id-smaller g c =
    less-left agent_node c.loop-id.left c.pass.new.self c.args.agents.now
    (seen_agent (at_node c.in-Some.id.now c.in-Some.agent.now)) (sym c.in-Some.ensures) c.pass.ensures

pub returns : goal.returns
returns g c =
    let w = world_with (g.R.Rows.tables c.args.rows.now) c.args.sessions.now c.args.agents.now in
    ends agent_node (waits_at w) w.agents c.loop-id.left c.args.best c.loop-id.least c.loop-id.invariant
    c.in_default.ensures
