-- The spans of the agents' loop over the agents as they are seen: they cover them where they cover the world's.
use Rattle.std.proofs.Common.{◌≡◌, ◌∙◌, Bool, List, true, ap, map, subst, sym}
use Rattle.std.specs.Prelude.{is_some}
use Rattle.swarm_agent.specs.Times.{TimesLaw, seen_agent}
use Rattle.swarm_objects.proofs.RowLemmas.{Has-map, Has-map_cases}
use Rattle.swarm_objects.specs.Rows.{Has, agent_node, first_of, row_at, sent_node}
use Rattle.swarm_objects.specs.World.{Tables, World}
use Rattle.swarm_objects.specs.declared.agents.NodeAgent.{NodeAgent}
use Rattle.swarm_objects.specs.declared.duties.Duty.{Duty}
use Rattle.swarm_objects.specs.declared.messages.NodeSent.{NodeSent}
use Rattle.swarm_spans.specs.Spans.{Covers, is_in}
use Rattle.swarm_spans.specs.declared.span.Span.{Span}
use Rattle.swarm_world.proofs.AgentsShown.{ShowsNoMore, had-duty, had-message, is_busy, same-tables}
use Rattle.swarm_world.proofs.KnownSteps.{known-seen, seen-known}
use Rattle.swarm_world.proofs.Restless.{restless-seen, shown-restless}
use Rattle.swarm_world.proofs.StillWaiting.{waits-seen}
use Rattle.swarm_world.proofs.Unsaid.{had-unsaid, seen-unsaid, unsaid-seen}
use Rattle.swarm_settle.specs.Asked.{may_wait}
use Rattle.swarm_world.specs.Inside.Looks.{AreSpanned, HasNoStep, is_restless, is_unsaid, looked_at, wants_message}
use Rattle.swarm_world.specs.declared.agent_spans.AgentSpans.{AgentSpans}

-- these tables, what was sent and agents are the world's, but for times that no step looks at
pub record ShowsWorld (t : Tables) (s : List NodeSent) (all : List NodeAgent) (w : World) : Type 0 where
  pub tables : t ≡ w.tables
  pub sent : s ≡ w.sent
  pub agents : all ≡ map seen_agent w.agents

-- An agent has a duty where it has one as it is seen.

seen-tables : (t : Tables) (sent : List NodeSent) (agents : List NodeAgent) (w : World) (a : NodeAgent) →
    ShowsWorld t sent agents w → ShowsNoMore (looked_at t sent) w a × ShowsNoMore w (looked_at t sent) a
seen-tables t sent agents w a shows =
    let same = ap (λ (rows : List NodeSent). row_at sent_node a.node rows) shows.sent in
    (same-tables (looked_at t sent) w a shows.tables same, same-tables w (looked_at t sent) a (sym shows.tables) (sym same))

from-seen : (times : TimesLaw) (t : Tables) (sent : List NodeSent) (agents : List NodeAgent) (w : World) (a : NodeAgent) →
    ShowsWorld t sent agents w → is_busy (looked_at t sent) (seen_agent a) ≡ true → is_busy w a ≡ true
from-seen times t sent agents w a shows passes =
    ap (λ (ds : List Duty). is_some (first_of ds)) (sym (times.duties w a))
    ∙ had-duty (looked_at t sent) w (seen_agent a) (seen-tables t sent agents w (seen_agent a) shows).0 passes

to-seen : (times : TimesLaw) (t : Tables) (sent : List NodeSent) (agents : List NodeAgent) (w : World) (a : NodeAgent) →
    ShowsWorld t sent agents w → is_busy w a ≡ true → is_busy (looked_at t sent) (seen_agent a) ≡ true
to-seen times t sent agents w a shows passes =
    had-duty w (looked_at t sent) (seen_agent a) (seen-tables t sent agents w (seen_agent a) shows).1
    (ap (λ (ds : List Duty). is_some (first_of ds)) (times.duties w a) ∙ passes)

-- So spans cover the ones where they cover the others.

module _ (p q : NodeAgent → Bool) (span : Span) (seen rows : List NodeAgent) (same : seen ≡ map seen_agent rows) where
  to-rows : ((a : NodeAgent) → q a ≡ true → p (seen_agent a) ≡ true) → Covers agent_node p span seen →
      Covers agent_node q span rows
  to-rows to covers = record {
    has = λ a there passes.
        covers.has (seen_agent a)
        (subst (λ all. Has all (seen_agent a)) (sym same) (Has-map seen_agent rows a there)) (to a passes);
  }

  from-rows : ((a : NodeAgent) → p (seen_agent a) ≡ true → q a ≡ true) → Covers agent_node q span rows →
      Covers agent_node p span seen
  from-rows from covers = record {
    has = λ a there passes.
        let of = Has-map_cases seen_agent rows a (subst (λ all. Has all a) same there) in
        subst (λ (b : NodeAgent). is_in span b.node ≡ true) of.2
        (covers.has of.0 of.1 (from of.0 (subst (λ b. p b ≡ true) (sym of.2) passes)));
  }

pub world-covered : (times : TimesLaw) (t : Tables) (sent : List NodeSent) (agents : List NodeAgent) (w : World)
    (spans : AgentSpans) → ShowsWorld t sent agents w → AreSpanned (looked_at t sent) spans agents →
    AreSpanned w spans w.agents
world-covered times t sent agents w spans shows covers =
    let l = looked_at t sent in
    record {
      duties =
          to-rows (is_busy l) (is_busy w) spans.duties agents w.agents shows.agents
          (λ a passes. to-seen times t sent agents w a shows passes) covers.duties;
      sleeps =
          to-rows (is_restless spans.wakes l) (is_restless spans.wakes w) spans.duties agents w.agents shows.agents
          (λ a restless.
          shown-restless spans.wakes w l (seen_agent a) (seen-tables t sent agents w (seen_agent a) shows).1
          (restless-seen times spans.wakes w a ∙ restless)) covers.sleeps;
      tells =
          to-rows (wants_message l) (wants_message w) spans.tells agents w.agents shows.agents
          (λ a wants. had-message w l (seen_agent a) (seen-tables t sent agents w (seen_agent a) shows).1 wants) covers.tells;
      news =
          to-rows (is_unsaid l) (is_unsaid w) spans.news agents w.agents shows.agents
          (λ a unsaid.
          had-unsaid w l (seen_agent a) (seen-tables t sent agents w (seen_agent a) shows).1
          (unsaid-seen w a unsaid)) covers.news;
      waits =
          to-rows may_wait may_wait spans.waits agents w.agents shows.agents (λ a waits. waits-seen times a ∙ waits)
          covers.waits;
      steps = λ a there.
          seen-known times w.tables.clock spans.steps a
          (subst (λ k. HasNoStep k spans.steps (seen_agent a)) (ap (λ (u : Tables). u.clock) shows.tables)
          (covers.steps (seen_agent a)
          (subst (λ all. Has all (seen_agent a)) (sym shows.agents) (Has-map seen_agent w.agents a there))));
    }

pub seen-covered : (times : TimesLaw) (t : Tables) (sent : List NodeSent) (agents : List NodeAgent) (w : World)
    (spans : AgentSpans) → ShowsWorld t sent agents w → AreSpanned w spans w.agents →
    AreSpanned (looked_at t sent) spans agents
seen-covered times t sent agents w spans shows covers =
    let l = looked_at t sent in
    record {
      duties =
          from-rows (is_busy l) (is_busy w) spans.duties agents w.agents shows.agents
          (λ a passes. from-seen times t sent agents w a shows passes) covers.duties;
      sleeps =
          from-rows (is_restless spans.wakes l) (is_restless spans.wakes w) spans.duties agents w.agents shows.agents
          (λ a restless.
          sym (restless-seen times spans.wakes w a)
          ∙ shown-restless spans.wakes l w (seen_agent a) (seen-tables t sent agents w (seen_agent a) shows).0 restless)
          covers.sleeps;
      tells =
          from-rows (wants_message l) (wants_message w) spans.tells agents w.agents shows.agents
          (λ a wants. had-message l w (seen_agent a) (seen-tables t sent agents w (seen_agent a) shows).0 wants) covers.tells;
      news =
          from-rows (is_unsaid l) (is_unsaid w) spans.news agents w.agents shows.agents
          (λ a unsaid.
          seen-unsaid w a
          (had-unsaid l w (seen_agent a) (seen-tables t sent agents w (seen_agent a) shows).0 unsaid)) covers.news;
      waits =
          from-rows may_wait may_wait spans.waits agents w.agents shows.agents
          (λ a waits. sym (waits-seen times a) ∙ waits) covers.waits;
      steps = λ a there.
          let of = Has-map_cases seen_agent w.agents a (subst (λ all. Has all a) shows.agents there) in
          subst (HasNoStep t.clock spans.steps) of.2
          (subst (λ k. HasNoStep k spans.steps (seen_agent of.0)) (ap (λ (u : Tables). u.clock) (sym shows.tables))
          (known-seen times w.tables.clock spans.steps of.0 (covers.steps of.0 of.1)));
    }
