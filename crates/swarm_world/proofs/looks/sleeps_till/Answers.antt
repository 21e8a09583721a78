use Rattle.std.proofs.Common.{ap, arith, sym, ◌∙◌}
use Rattle.swarm_agent.specs.Agent.{at_node}
use Rattle.swarm_world.proofs.Restless.{never_sleeps, off_sleeps, session_sleeps}
use Rattle.swarm_world.proofs.looks.sleeps_till.Goals as goal
use Rattle.swarm_world.specs.Inside.Looks.{looked_at}
use Rattle.swarm_world.specs.Inside.Records.{tables_of}

pub returns-then-not-is_on : goal.returns-then-not-is_on
returns-then-not-is_on c = λ sent none.
    off_sleeps (looked_at (tables_of c.args.records.now) sent) (at_node c.args.node c.args.agent.now) _
    (sym c.is_on.ensures ∙ c.if-not-is_on.true)

pub returns-in_default : goal.returns-in_default
returns-in_default c = λ sent none.
    never_sleeps (looked_at (tables_of c.args.records.now) sent) (at_node c.args.node c.args.agent.now)

pub returns : goal.returns
returns c = λ sent.
    let least = c.min-2.ensures in
    let ends = c.min.ensures in
    let beat = c.saturating_add-beat.ensures in
    let heartbeat = ap (λ s. s.heartbeat) c.settings.ensures in
    session_sleeps (looked_at (tables_of c.args.records.now) sent) (at_node c.args.node c.args.agent.now)
    c.in-Some.session c.min-2.result (sym c.in-Some.is ∙ c.get.ensures) (sym c.is_on.ensures ∙ c.if-not-is_on.false)
    (omega (arith, least, ends)) (omega (arith, least, ends, beat, heartbeat))
    (λ clock lt. c.first_wake.ensures.steps clock (omega (arith, lt, least)))
