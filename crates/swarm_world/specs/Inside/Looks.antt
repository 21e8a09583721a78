-- What the agents' loop looks at, and which nodes its spans cover.
use Rattle.std.specs.Prelude.{Bool, List, [], false, if◌then◌else◌, is_some, max, true, ℕ, ◌&&◌, ◌++◌, ◌-◌, ◌<◌, ◌==◌, ◌∷◌, ◌≡◌, ◌≤◌, ◌⊎◌, ⊤}
use Rattle.swarm_objects.specs.Agents.Messages.{message_for}
use Rattle.swarm_objects.specs.Loops.Agents.{agent_duties, has_step, is_forgotten, is_mode_on, report_duties}
use Rattle.swarm_objects.specs.Loops.Words.{duty_where}
use Rattle.swarm_objects.specs.Nodes.Sessions.{is_session_live}
use Rattle.swarm_objects.specs.Rows.{Has, RisesFrom, agent_node, executor_task, first_of}
use Rattle.swarm_objects.specs.World.{Tables, World, empty_world}
use Rattle.swarm_objects.specs.declared.agents.Executor.{Executor}
use Rattle.swarm_objects.specs.declared.agents.NodeAgent.{NodeAgent}
use Rattle.swarm_objects.specs.declared.duties.Duty.TheVariants as duty
use Rattle.swarm_objects.specs.declared.duties.Duty.{Duty}
use Rattle.swarm_objects.specs.declared.messages.NodeSent.{NodeSent}
use Rattle.swarm_settle.specs.Asked.{may_wait}
use Rattle.swarm_spans.specs.Spans.{Covers, beyond, has_duty, is_in}
use Rattle.swarm_spans.specs.TasksCovered.{at_time}
use Rattle.swarm_spans.specs.Wakes.{wake_at}
use Rattle.swarm_spans.specs.declared.span.Span.{Span}
use Rattle.swarm_spans.specs.declared.wakes.Wakes.{Wakes}
use Rattle.swarm_world.specs.declared.agent_spans.AgentSpans.{AgentSpans}
use Rattle.swarm_world.specs.declared.agent_spans.Steps.{Steps}

-- the world with these tables, in which this was sent
abbrev pub looked_at : Tables → List NodeSent → World
looked_at t sent = record empty_world { tables = t; sent = sent }

-- each agent's executors stand by rising task
abbrev pub EachRises : List NodeAgent → Type 0
EachRises [] = ⊤
EachRises (a ∷ agents) = RisesFrom executor_task 0 a.executors × EachRises agents

-- Messages.

abbrev pub is_told : World → ℕ → Bool
is_told w node = is_some (message_for w node)

-- a message is due that the agent would pull: it is on, and its session is live
abbrev pub wants_message : World → NodeAgent → Bool
wants_message w a = is_mode_on a.mode && is_session_live w.tables a.node && is_told w a.node

-- the node is in the span, where a message is due that its agent would pull
abbrev pub MayBeTold : World → ℕ → Bool → Span → Type 0
MayBeTold w node live span = live ≡ true → is_told w node ≡ true → is_in span node ≡ true

-- the span stays as it is, or no message is due, and it leaves the node out with those before it
abbrev pub IsAsked : World → ℕ → Span → Span → Type 0
IsAsked w node span next = (next ≡ span) ⊎ ((is_told w node ≡ false) × (next ≡ beyond span node))

-- News.

-- for a node with or without a live session: what is reported, and the executors that go
abbrev pub news_duties : World → NodeAgent → Bool → List Duty
news_duties w a live = report_duties w a live ++ duty_where is_forgotten (λ e. duty.Forget a.node e.task) a.executors

abbrev pub has_news_on : World → NodeAgent → Bool → Bool
has_news_on w a live = is_some (first_of (news_duties w a live))

abbrev pub is_unsaid : World → NodeAgent → Bool
is_unsaid w a = is_mode_on a.mode && has_news_on w a (is_session_live w.tables a.node)

-- the node is in the span, where its agent has news
abbrev pub MayHaveNews : World → NodeAgent → Bool → Span → Type 0
MayHaveNews w a live span = has_news_on w a live ≡ true → is_in span a.node ≡ true

-- the span stays as it is, or the agent has no news, and its node leaves it with those before
abbrev pub IsHeard : World → NodeAgent → Span → Span → Type 0
IsHeard w a span next =
    (next ≡ span) ⊎ ((has_news_on w a (is_session_live w.tables a.node) ≡ false) × (next ≡ beyond span a.node))

-- Steps.

-- nothing is known
abbrev pub no_steps : Steps
no_steps = record { node = 0; before = 0 }

-- the task of the node before which no executor has a step
abbrev pub before_on : Steps → ℕ → ℕ
before_on s node = if s.node == node then s.before else 0

-- so it is for this agent
pub record HasNoStep (clock : ℕ) (s : Steps) (a : NodeAgent) : Type 0 where
  pub has : (e : Executor) → Has a.executors e → e.task < before_on s a.node → has_step clock e ≡ false

-- what is known stays as it is, or it is of this agent
abbrev pub IsPassed : ℕ → NodeAgent → Steps → Steps → Type 0
IsPassed clock a s next = (next ≡ s) ⊎ ((next.node ≡ a.node) × HasNoStep clock next a)

-- Sleep.

-- the world with this clock
abbrev pub at_clock : ℕ → World → World
at_clock clock w = record w { tables = at_time clock w.tables }

-- the agent has no duty before this time, if nothing changes but the clock
abbrev pub SleepsTill : World → NodeAgent → ℕ → Type 0
SleepsTill w a time =
    (clock : ℕ) → w.tables.clock ≤ clock → clock < time → has_duty (agent_duties (at_clock clock w)) a ≡ false

-- the agent has a duty, or will have one before the time at which it is woken
abbrev pub is_restless : Wakes → World → NodeAgent → Bool
is_restless wakes w a =
    has_duty (agent_duties (at_clock (max w.tables.clock (wake_at wakes a.node - 1)) w)) a

-- each node whose agent has a duty is in the first span, and so is each whose agent will have one before it is woken;
-- each whose agent wants a message is in the second, each whose agent has news in the third, and each whose agent may be
-- waited for in the fourth; and what is known of steps is so
pub record AreSpanned (w : World) (spans : AgentSpans) (agents : List NodeAgent) : Type 0 where
  pub duties : Covers agent_node (has_duty (agent_duties w)) spans.duties agents
  pub sleeps : Covers agent_node (is_restless spans.wakes w) spans.duties agents
  pub tells : Covers agent_node (wants_message w) spans.tells agents
  pub news : Covers agent_node (is_unsaid w) spans.news agents
  pub waits : Covers agent_node may_wait spans.waits agents
  pub steps : (a : NodeAgent) → Has agents a → HasNoStep w.tables.clock spans.steps a
