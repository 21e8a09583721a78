use Rattle.std.proofs.Common.{subst}
use Rattle.std.specs.Prelude.{IfSome}
use Rattle.swarm_settle.proofs.ByAgent.{waits_by_agent}
use Rattle.swarm_settle.proofs.waits.agent_waits.Goals as goal
use Rattle.swarm_settle.specs.Asked.{AreAgentsAsked}
use Rattle.swarm_settle.specs.Standing.{world_with}

pub waits_at_some-requires : goal.waits_at_some-requires
waits_at_some-requires g c = subst (λ o. IfSome o (AreAgentsAsked c.args.agents.now)) c.in-Some.is c.requires.asked

pub returns-in-Some : goal.returns-in-Some
returns-in-Some g c =
    let w = world_with (g.R.Rows.tables c.args.rows.now) c.args.sessions.now c.args.agents.now in
    waits_by_agent w c.args.best c.waits_at_some.result c.requires.usable.sound.ordered.nodes c.waits_at_some.ensures

pub returns-in-None : goal.returns-in-None
returns-in-None g c =
    let w = world_with (g.R.Rows.tables c.args.rows.now) c.args.sessions.now c.args.agents.now in
    waits_by_agent w c.args.best c.waits_at_all.result c.requires.usable.sound.ordered.nodes c.waits_at_all.ensures
