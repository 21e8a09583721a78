-- The spans that the world keeps of the agents' loop.
use Rattle.std.specs.Prelude.{List, false, if◌then◌else◌, nat_le, nat_lt, true, ℕ, ◌&&◌, ◌==◌, ◌≡◌, ◌≤◌}
use Rattle.swarm_model.specs.History.{IsLegal, replay, step}
use Rattle.swarm_objects.specs.ChangeLists.{Makes}
use Rattle.swarm_objects.specs.Duties.{is_due}
use Rattle.swarm_objects.specs.Effects.{after_duty, is_agents}
use Rattle.swarm_objects.specs.Kinds.{role_of}
use Rattle.swarm_objects.specs.Rows.{Has}
use Rattle.swarm_objects.specs.declared.agents.NodeAgent.{NodeAgent}
use Rattle.swarm_objects.specs.declared.calls.Entry.{Entry}
use Rattle.swarm_objects.specs.declared.calls.What.TheVariants as what
use Rattle.swarm_objects.specs.declared.duties.Duty.TheVariants as duty
use Rattle.swarm_objects.specs.declared.duties.Duty.{Duty}
use Rattle.swarm_objects.specs.declared.loops.Role.TheVariants as role
use Rattle.swarm_objects.specs.declared.rows.Change.{Change}
use Rattle.swarm_spans.specs.Spans.{IsWider, is_in, onwards, with_id}
use Rattle.swarm_spans.specs.declared.span.Span.{Span}
use Rattle.swarm_world.specs.Inside.Looks.{AreSpanned, before_on, looked_at, no_steps}
use Rattle.swarm_world.specs.Inside.Parts.{IsAt, StandsFor}
use Rattle.swarm_world.specs.Inside.Records.{tables_of}
use Rattle.swarm_world.specs.Inside.Touches.{AreTouched}
use Rattle.swarm_world.specs.declared.agent_spans.AgentSpans.{AgentSpans}
use Rattle.swarm_world.specs.declared.agent_spans.Steps.{Steps}
use Rattle.swarm_world.specs.declared.parts.Parts.{Parts}

abbrev pub CoversAgents : Parts → AgentSpans → Type 0
CoversAgents p spans = AreSpanned (looked_at (tables_of p.records) p.sent) spans p.agents

-- the one has what the other has, and knows no more of steps and of sleep
pub record AreWider (wide spans : AgentSpans) : Type 0 where
  pub duties : IsWider wide.duties spans.duties
  pub tells : IsWider wide.tells spans.tells
  pub news : IsWider wide.news spans.news
  pub waits : IsWider wide.waits spans.waits
  pub wakes : wide.wakes ≡ spans.wakes
  pub steps : (node : ℕ) → before_on wide.steps node ≤ before_on spans.steps node

-- and each node from this one on, with nothing known of steps
pub record AreWiderFrom (first : ℕ) (wide spans : AgentSpans) : Type 0 where
  pub former : AreWider wide spans
  pub duties : IsWider wide.duties (onwards first)
  pub tells : IsWider wide.tells (onwards first)
  pub news : IsWider wide.news (onwards first)
  pub waits : IsWider wide.waits (onwards first)
  pub steps : wide.steps ≡ no_steps

-- it has exactly what it had up to this number
pub record IsEnded (last : ℕ) (span ended : Span) : Type 0 where
  pub is : (id : ℕ) → is_in ended id ≡ (is_in span id && nat_le id last)

-- so do all four, and what is known of steps and of sleep stays
pub record AreEnded (last : ℕ) (spans ended : AgentSpans) : Type 0 where
  pub duties : IsEnded last spans.duties ended.duties
  pub tells : IsEnded last spans.tells ended.tells
  pub news : IsEnded last spans.news ended.news
  pub waits : IsEnded last spans.waits ended.waits
  pub steps : ended.steps ≡ spans.steps
  pub wakes : ended.wakes ≡ spans.wakes

-- no agent is of a node above this one
pub record AreUpTo (agents : List NodeAgent) (last : ℕ) : Type 0 where
  pub each : (a : NodeAgent) → Has agents a → a.node ≤ last

-- a node that registers is sent all that is due; no other duty of the agents' loop makes a message due
abbrev pub told_by : Duty → Span → Span
told_by (duty.Register node) span = with_id span node
told_by _ span = span

-- the agent that does a duty may have news then, or a phase to come; a beat is of a live session, and gives none
abbrev pub news_by : Duty → Span → Span
news_by (duty.Register node) span = with_id span node
news_by (duty.Apply node) span = with_id span node
news_by (duty.Pull node) span = with_id span node
news_by (duty.Exec node task) span = with_id span node
news_by (duty.Report node task) span = with_id span node
news_by (duty.Forget node task) span = with_id span node
news_by _ span = span

-- an executor of the node may have a step from this task on
abbrev pub lowered : ℕ → ℕ → Steps → Steps
lowered node task s = if s.node == node && nat_lt task s.before then record s { before = task } else s

-- one that made a step may have the next one, and after a message each may have one; no other duty gives an executor
-- a step
abbrev pub steps_by : Duty → Steps → Steps
steps_by (duty.Apply node) s = lowered node 0 s
steps_by (duty.Exec node task) s = lowered node task s
steps_by _ s = s

abbrev pub with_told : Duty → AgentSpans → AgentSpans
with_told d spans = record spans { tells = told_by d spans.tells }

abbrev pub after_turn : Duty → AgentSpans → AgentSpans
after_turn d spans = record spans {
  tells = told_by d spans.tells;
  news = news_by d spans.news;
  waits = news_by d spans.waits;
  steps = steps_by d spans.steps;
}

-- how they go on covering
pub record AgentsSpanLaw : Type 0 where
  -- where the world is the same
  pub same : (h : List Entry) (p q : Parts) (spans wide : AgentSpans) → StandsFor p (replay h) → StandsFor q (replay h)
      → AreWider wide spans → CoversAgents p spans → CoversAgents q wide
  -- after a duty of the agents' loop
  pub turn : (h : List Entry) (d : Duty) (p q : Parts) (spans : AgentSpans) → IsLegal h → role_of d ≡ role.Agents
      → is_due (replay h) d ≡ true → StandsFor p (replay h) → StandsFor q (step (replay h) (what.Duty d)).after
      → CoversAgents p spans → CoversAgents q (after_turn d spans)
  -- after a duty of another loop, whose changes touch the wider spans
  pub rows : (h : List Entry) (d : Duty) (version : ℕ) (cs : List Change) (p q : Parts) (spans wide : AgentSpans)
      → IsAt version p h → is_agents (role_of d) ≡ false → is_due (replay h) d ≡ true
      → Makes (tables_of p.records) cs (after_duty version (tables_of p.records) d)
      → AreTouched (tables_of p.records) spans wide cs → StandsFor q (step (replay h) (what.Duty d)).after
      → CoversAgents p spans → CoversAgents q wide
