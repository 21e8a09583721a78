-- The spans of the agents' loop go on covering its nodes over a turn.
use Rattle.std.proofs.Common.{◌≡◌, List, false, true, ℕ, subst}
use Rattle.swarm_agent.specs.Times.{TimesLaw}
use Rattle.swarm_model.specs.History.{IsLegal, replay, step}
use Rattle.swarm_objects.specs.ChangeLists.{Makes}
use Rattle.swarm_objects.specs.Duties.{is_due}
use Rattle.swarm_objects.specs.Effects.{after_duty, is_agents}
use Rattle.swarm_objects.specs.Kinds.{role_of}
use Rattle.swarm_objects.specs.World.{Tables, World}
use Rattle.swarm_objects.specs.declared.calls.Entry.{Entry}
use Rattle.swarm_objects.specs.declared.calls.What.TheVariants as what
use Rattle.swarm_objects.specs.declared.duties.Duty.{Duty}
use Rattle.swarm_objects.specs.declared.loops.Role.TheVariants as role
use Rattle.swarm_objects.specs.declared.rows.Change.{Change}
use Rattle.swarm_world.proofs.AgentsCovered.{covers-on}
use Rattle.swarm_world.proofs.AgentsSeen.{ShowsWorld, seen-covered, world-covered}
use Rattle.swarm_world.proofs.Entering.{number-is}
use Rattle.swarm_world.proofs.KnownSteps.{known-less}
use Rattle.swarm_world.proofs.Recorded.{tables_are}
use Rattle.swarm_world.proofs.RowsTurned.{covers-rows}
use Rattle.swarm_world.specs.Inside.Looks.{is_restless, looked_at}
use Rattle.swarm_world.specs.Inside.Parts.{HasParts, IsAt}
use Rattle.swarm_world.specs.Inside.Records.{tables_of}
use Rattle.swarm_world.specs.Inside.Spanned.{AgentsSpanLaw, AreWider, CoversAgents, after_turn}
use Rattle.swarm_world.specs.Inside.Touches.{AreTouched}
use Rattle.swarm_world.specs.declared.agent_spans.AgentSpans.{AgentSpans}
use Rattle.swarm_world.specs.declared.parts.Parts.{Parts}

-- the parts show the world
pub shows : (p : Parts) (w : World) → HasParts p w → ShowsWorld (tables_of p.records) p.sent p.agents w
shows p w has = record { tables = tables_are p.records w has.records; sent = has.sent; agents = has.agents }

-- wider spans cover too
pub covered_wider : (p : Parts) (spans wide : AgentSpans) → AreWider wide spans → CoversAgents p spans → CoversAgents p wide
covered_wider p spans wide wider covers = record {
  duties = record { has = λ a there busy. wider.duties.has a.node (covers.duties.has a there busy) };
  sleeps = record {
    has = λ a there restless.
        wider.duties.has a.node
        (covers.sleeps.has a there
        (subst (λ k. is_restless k (looked_at (tables_of p.records) p.sent) a ≡ true) wider.wakes restless));
  };
  tells = record { has = λ a there wants. wider.tells.has a.node (covers.tells.has a there wants) };
  news = record { has = λ a there unsaid. wider.news.has a.node (covers.news.has a there unsaid) };
  waits = record { has = λ a there waits. wider.waits.has a.node (covers.waits.has a there waits) };
  steps = λ a there.
      known-less (tables_of p.records).clock spans.steps wide.steps a (wider.steps a.node) (covers.steps a there);
}

-- parts of one world
covered_as : (times : TimesLaw) (p q : Parts) (w : World) (spans : AgentSpans) → HasParts p w → HasParts q w →
    CoversAgents p spans → CoversAgents q spans
covered_as times p q w spans before after covers =
    seen-covered times (tables_of q.records) q.sent q.agents w spans (shows q w after)
    (world-covered times (tables_of p.records) p.sent p.agents w spans (shows p w before) covers)

-- a duty of the agents' loop
covered_on : (times : TimesLaw) (h : List Entry) (d : Duty) (p q : Parts) (spans : AgentSpans) → IsLegal h →
    role_of d ≡ role.Agents → is_due (replay h) d ≡ true → HasParts p (replay h) →
    HasParts q (step (replay h) (what.Duty d)).after → CoversAgents p spans → CoversAgents q (after_turn d spans)
covered_on times h d p q spans legal own due before after covers =
    let w = replay h in
    let v = (step w (what.Duty d)).after in
    seen-covered times (tables_of q.records) q.sent q.agents v (after_turn d spans) (shows q v after)
    (covers-on h legal d own due spans
    (world-covered times (tables_of p.records) p.sent p.agents w spans (shows p w before) covers))

-- a duty of a loop over the rows, whose changes touch the wider spans
covered_rows : (times : TimesLaw) (h : List Entry) (d : Duty) (version : ℕ) (cs : List Change) (p q : Parts)
    (spans wide : AgentSpans) → IsAt version p h → is_agents (role_of d) ≡ false → is_due (replay h) d ≡ true →
    Makes (tables_of p.records) cs (after_duty version (tables_of p.records) d) →
    AreTouched (tables_of p.records) spans wide cs → HasParts q (step (replay h) (what.Duty d)).after →
    CoversAgents p spans → CoversAgents q wide
covered_rows times h d version cs p q spans wide is other due makes are after covers =
    let w = replay h in
    let v = (step w (what.Duty d)).after in
    let same = tables_are p.records w is.stands.has.records in
    seen-covered times (tables_of q.records) q.sent q.agents v wide (shows q v after)
    (covers-rows h d version cs spans wide is.legal other due (number-is version p h is)
    (subst (λ (t : Tables). Makes t cs (after_duty version t d)) same makes)
    (subst (λ (t : Tables). AreTouched t spans wide cs) same are)
    (world-covered times (tables_of p.records) p.sent p.agents w spans (shows p w is.stands.has) covers))

pub agents_stay : TimesLaw → AgentsSpanLaw
agents_stay times = record {
  same = λ h p q spans wide before after wider covers.
      covered_as times p q (replay h) wide before.has after.has (covered_wider p spans wide wider covers);
  turn = λ h d p q spans legal own due before after.
      covered_on times h d p q spans legal own due before.has after.has;
  rows = λ h d version cs p q spans wide is other due makes are after.
      covered_rows times h d version cs p q spans wide is other due makes are after.has;
}
