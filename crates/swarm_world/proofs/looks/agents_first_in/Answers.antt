use Rattle.std.proofs.Common.{refl, subst, sym, ◌∙◌}
use Rattle.swarm_agent.specs.Agent.{at_node}
use Rattle.swarm_world.proofs.AsksIn.{fewer_left, next_found, next_passes, next_rises, next_stays, next_steps, none_spanned}
use Rattle.swarm_world.proofs.looks.agents_first_in.Goals as goal
use Rattle.swarm_world.specs.Inside.Looks.{IsAsked, IsHeard, IsPassed, looked_at}
use Rattle.swarm_world.specs.Inside.Records.{tables_of}

pub agent_first-requires-clause-rises : goal.agent_first-requires-clause-rises
agent_first-requires-clause-rises c =
    next_rises c.times_that_no_step_looks_at.ensures c.args.agents.now c.loop-node.spans.duties c.in-Some.node.now
    c.in-Some.agent.now c.requires.rises c.in-Some.ensures

pub agent_first-requires-clause-none : goal.agent_first-requires-clause-none
agent_first-requires-clause-none c =
    next_steps c.times_that_no_step_looks_at.ensures (looked_at (tables_of c.args.records.now) c.args.sent.now)
    c.args.agents.now c.loop-node.spans c.in-Some.node.now c.in-Some.agent.now c.loop-node.invariant c.in-Some.ensures

pub returns-in-Some-agent_first-clause-first : goal.returns-in-Some-agent_first-clause-first
returns-in-Some-agent_first-clause-first c =
    next_found c.times_that_no_step_looks_at.ensures (looked_at (tables_of c.args.records.now) c.args.sent.now)
    c.args.agents.now c.loop-node.spans c.in-Some.node.now c.in-Some.agent.now c.in-Some-agent_first.duty
    c.loop-node.invariant c.in-Some.ensures (sym c.in-Some-agent_first.is ∙ c.agent_first.ensures.first)

pub returns-in-Some-agent_first-clause-covers : goal.returns-in-Some-agent_first-clause-covers
returns-in-Some-agent_first-clause-covers c =
    next_stays c.times_that_no_step_looks_at.ensures (looked_at (tables_of c.args.records.now) c.args.sent.now) c.args.agents.now c.loop-node.spans _
    c.in-Some.node.now c.in-Some.agent.now c.requires.ordered c.loop-node.invariant c.in-Some.ensures refl refl refl
    c.agent_first.ensures.asked c.agent_first.ensures.heard c.agent_first.ensures.passed

pub loop-node-smaller : goal.loop-node-smaller
loop-node-smaller c =
    fewer_left c.args.agents.now c.loop-node.spans.duties c.sleep.new.self.duties c.in-Some.node.now c.in-Some.agent.now
    c.in-Some.ensures c.sleep.ensures.duties

pub loop-node-preserved : goal.loop-node-preserved
loop-node-preserved c =
    next_passes c.times_that_no_step_looks_at.ensures (looked_at (tables_of c.args.records.now) c.args.sent.now)
    c.args.agents.now c.loop-node.spans c.sleep.new.self c.in-Some.node.now c.in-Some.agent.now c.requires.ordered
    c.loop-node.invariant c.in-Some.ensures c.sleep.ensures.duties c.sleeps_till.result
    (record { sleeps = c.sleeps_till.ensures c.args.sent.now; till = c.sleep.ensures.till; sooner = c.sleep.ensures.sooner })
    c.sleep.ensures.waits
    (subst (λ s. IsAsked (looked_at (tables_of c.args.records.now) c.args.sent.now) c.in-Some.node.now c.loop-node.spans.tells s) (sym c.sleep.ensures.tells) c.agent_first.ensures.asked)
    (subst (λ s. IsHeard (looked_at (tables_of c.args.records.now) c.args.sent.now) (at_node c.in-Some.node.now c.in-Some.agent.now) c.loop-node.spans.news s) (sym c.sleep.ensures.news) c.agent_first.ensures.heard)
    (subst (λ s. IsPassed (tables_of c.args.records.now).clock (at_node c.in-Some.node.now c.in-Some.agent.now) c.loop-node.spans.steps s) (sym c.sleep.ensures.steps) c.agent_first.ensures.passed)
    c.in-None.ensures.first

pub returns-clause-covers : goal.returns-clause-covers
returns-clause-covers c =
    none_spanned (looked_at (tables_of c.args.records.now) c.args.sent.now) c.args.agents.now c.loop-node.spans
    c.clear.new.self c.loop-node.invariant c.in_default.ensures c.clear.ensures.duties c.clear.ensures.tells
    c.clear.ensures.news c.clear.ensures.waits c.clear.ensures.steps c.clear.ensures.wakes
