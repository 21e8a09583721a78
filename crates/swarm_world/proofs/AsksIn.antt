-- The first duty of the agents' loop, by the spans of its nodes.
use Rattle.std.proofs.Common.{◌≡◌, ◌≤◌, ◌-◌, ◌<◌, ◌∙◌, ◌∷◌, [], ℕ, Bool, true, false, List, Some, None, ap, inl, inr, refl, subst, sym}
use Rattle.std.specs.Prelude.{find, flat_map, is_some, nat_le}
use Rattle.swarm_agent.specs.Agent.{AgentState, at_node}
use Rattle.swarm_agent.specs.Times.{TimesLaw, seen_agent}
use Rattle.swarm_objects.proofs.RowLemmas.{has-found}
use Rattle.swarm_objects.proofs.Tests.{and_fails}
use Rattle.swarm_objects.specs.Loops.Agents.{agent_duties, is_mode_on}
use Rattle.swarm_objects.specs.Nodes.Sessions.{is_session_live}
use Rattle.swarm_objects.specs.Rows.{Has, RisesFrom, agent_node, executor_task, first_of}
use Rattle.swarm_objects.specs.World.{World}
use Rattle.swarm_objects.specs.declared.agents.NodeAgent.{NodeAgent}
use Rattle.swarm_objects.specs.declared.duties.Duty.{Duty}
use Rattle.swarm_spans.proofs.Firsts.{flat-found, flat-none}
use Rattle.swarm_spans.proofs.Grown.{low-end}
use Rattle.swarm_spans.proofs.InSpans.{first-found, first-none, in-rest, less-left, none-left, none-over, passed}
use Rattle.swarm_spans.specs.Spans.{Covers, beyond, empty, has_duty, is_in}
use Rattle.swarm_spans.specs.declared.span.Span.{Span}
use Rattle.swarm_world.proofs.AgentsShown.{wants-duty, wants-parts}
use Rattle.swarm_world.proofs.KnownSteps.{nothing-known, passed-on, seen-known}
use Rattle.swarm_world.proofs.LooksOn.{rises-seen}
use Rattle.swarm_world.proofs.Restless.{asleep, restless-seen, sooner-covers}
use Rattle.swarm_world.proofs.Unsaid.{unsaid-duty, unsaid-same, unsaid-seen}
use Rattle.swarm_settle.specs.Asked.{may_wait}
use Rattle.swarm_spans.specs.Wakes.{wake_at}
use Rattle.swarm_spans.specs.declared.wakes.Wakes.{Wakes}
use Rattle.swarm_world.specs.Inside.Looks.{AreSpanned, EachRises, HasNoStep, IsAsked, IsHeard, IsPassed, SleepsTill, has_news_on, is_restless, is_told, is_unsaid, no_steps, wants_message}
use Rattle.swarm_world.specs.declared.agent_spans.AgentSpans.{AgentSpans}

-- the agent with its node, as it is seen
abbrev pub seen_on : ℕ → AgentState → NodeAgent
seen_on node a = seen_agent (at_node node a)

-- the agent sleeps till this time where it has no duty, and is woken no later; and no other one is woken later than before
pub record Rests (w : World) (a : NodeAgent) (time : ℕ) (old new : Wakes) : Type 0 where
  pub sleeps : has_duty (agent_duties w) a ≡ false → SleepsTill w a time
  pub till : wake_at new a.node ≤ time
  pub sooner : (node : ℕ) → wake_at new node ≤ wake_at old node

-- it is the first in the span
abbrev pub IsNext : List NodeAgent → Span → ℕ → AgentState → Type 0
IsNext agents span node a = Some (seen_on node a) ≡ find (λ b. is_in span b.node) agents

-- The next one.

each-rises : (agents : List NodeAgent) (a : NodeAgent) → EachRises agents → Has agents a → RisesFrom executor_task 0 a.executors
each-rises [] a rises h = absurd h
each-rises (b ∷ agents) a rises (inl same) = subst (λ (c : NodeAgent). RisesFrom executor_task 0 c.executors) same rises.0
each-rises (b ∷ agents) a rises (inr h) = each-rises agents a rises.1 h

next-there : (agents : List NodeAgent) (span : Span) (node : ℕ) (a : AgentState) → IsNext agents span node a →
    Has agents (seen_on node a)
next-there agents span node a is = has-found (λ (b : NodeAgent). is_in span b.node) agents (seen_on node a) (sym is)

pub next_rises : (times : TimesLaw) (agents : List NodeAgent) (span : Span) (node : ℕ) (a : AgentState) → EachRises agents →
    IsNext agents span node a → RisesFrom executor_task 0 a.executors
next_rises times agents span node a rises is =
    rises-seen times 0 a.executors (each-rises agents (seen_on node a) rises (next-there agents span node a is))

-- it is in the other span where it wants a message
pub next_may : (w : World) (agents : List NodeAgent) (spans : AgentSpans) (node : ℕ) (a : AgentState) →
    AreSpanned w spans agents → IsNext agents spans.duties node a → wants_message w (at_node node a) ≡ true →
    is_in spans.tells node ≡ true
next_may w agents spans node a covers is wants =
    covers.tells.has (seen_on node a) (next-there agents spans.duties node a is) wants

-- and in the third where it has news
pub next_may_say : (w : World) (agents : List NodeAgent) (spans : AgentSpans) (node : ℕ) (a : AgentState) →
    AreSpanned w spans agents → IsNext agents spans.duties node a → is_unsaid w (at_node node a) ≡ true →
    is_in spans.news node ≡ true
next_may_say w agents spans node a covers is unsaid =
    covers.news.has (seen_on node a) (next-there agents spans.duties node a is) (unsaid-seen w (at_node node a) unsaid)

-- and what is known of steps is so
pub next_steps : (times : TimesLaw) (w : World) (agents : List NodeAgent) (spans : AgentSpans) (node : ℕ) (a : AgentState) →
    AreSpanned w spans agents → IsNext agents spans.duties node a →
    HasNoStep w.tables.clock spans.steps (at_node node a)
next_steps times w agents spans node a covers is =
    seen-known times w.tables.clock spans.steps (at_node node a)
    (covers.steps (seen_on node a) (next-there agents spans.duties node a is))

-- its first duty is the first of all
pub next_found : (times : TimesLaw) (w : World) (agents : List NodeAgent) (spans : AgentSpans) (node : ℕ) (a : AgentState)
    (d : Duty) → AreSpanned w spans agents → IsNext agents spans.duties node a →
    Some d ≡ first_of (agent_duties w (at_node node a)) → Some d ≡ first_of (flat_map (agent_duties w) agents)
next_found times w agents spans node a d covers is found =
    let first : first_of (agent_duties w (seen_on node a)) ≡ Some d =
    ap (λ (ds : List Duty). first_of ds) (times.duties w (at_node node a)) ∙ sym found in
    sym (flat-found (agent_duties w) agents (seen_on node a) d
    (first-found agent_node (has_duty (agent_duties w)) spans.duties agents (seen_on node a) covers.duties (sym is)
    (ap is_some first)) first)

-- Each that wants a message has a duty.

wants-covered : (w : World) (agents : List NodeAgent) (spans : AgentSpans) → AreSpanned w spans agents →
    Covers agent_node (wants_message w) spans.duties agents
wants-covered w agents spans covers = record { has = λ a h wants. covers.duties.has a h (wants-duty w a wants) }

not-told : (w : World) (a : NodeAgent) → is_told w a.node ≡ false → wants_message w a ≡ false
not-told w a none = go (wants_message w a) refl
  where
    go : (b : Bool) → wants_message w a ≡ b → wants_message w a ≡ false
    go false is = is
    go true is = absurd (let both : false ≡ true = sym none ∙ (wants-parts w a is).2 in cc)

-- after it was asked for a message, each that wants one is in the span still
tells-on : (w : World) (agents : List NodeAgent) (spans : AgentSpans) (tells : Span) (node : ℕ) (a : AgentState) →
    RisesFrom agent_node 0 agents → AreSpanned w spans agents → IsNext agents spans.duties node a →
    IsAsked w node spans.tells tells → Covers agent_node (wants_message w) tells agents
tells-on w agents spans tells node a rises covers is (inl same) =
    subst (λ (s : Span). Covers agent_node (wants_message w) s agents) (sym same) covers.tells
tells-on w agents spans tells node a rises covers is (inr left) = record {
  has = λ x h wants.
      let beyond-it : is_in (beyond spans.duties node) x.node ≡ true =
      passed agent_node (wants_message w) spans.duties 0 agents (seen_on node a) rises (wants-covered w agents spans covers)
      (sym is) (not-told w (seen_on node a) left.0) x h wants in
      let above : node < x.node = low-end (beyond spans.duties node) x.node beyond-it in
      subst (λ (s : Span). is_in s x.node ≡ true) (sym left.1)
      (in-rest spans.tells node x.node (covers.tells.has x h wants) above);
}

-- Each that has news has a duty.

unsaid-covered : (w : World) (agents : List NodeAgent) (spans : AgentSpans) → AreSpanned w spans agents →
    Covers agent_node (is_unsaid w) spans.duties agents
unsaid-covered w agents spans covers = record { has = λ a h unsaid. covers.duties.has a h (unsaid-duty w a unsaid) }

-- after its news was looked for, each that has some is in the span still
news-on : (w : World) (agents : List NodeAgent) (spans : AgentSpans) (news : Span) (node : ℕ) (a : AgentState) →
    RisesFrom agent_node 0 agents → AreSpanned w spans agents → IsNext agents spans.duties node a →
    IsHeard w (at_node node a) spans.news news → Covers agent_node (is_unsaid w) news agents
news-on w agents spans news node a rises covers is (inl same) =
    subst (λ (s : Span). Covers agent_node (is_unsaid w) s agents) (sym same) covers.news
news-on w agents spans news node a rises covers is (inr left) = record {
  has = λ x h unsaid.
      let said : is_unsaid w (seen_on node a) ≡ false =
      unsaid-same w (at_node node a)
      ∙ and_fails (is_mode_on a.mode) (has_news_on w (at_node node a) (is_session_live w.tables node)) left.0 in
      let beyond-it : is_in (beyond spans.duties node) x.node ≡ true =
      passed agent_node (is_unsaid w) spans.duties 0 agents (seen_on node a) rises (unsaid-covered w agents spans covers)
      (sym is) said x h unsaid in
      let above : node < x.node = low-end (beyond spans.duties node) x.node beyond-it in
      subst (λ (s : Span). is_in s x.node ≡ true) (sym left.1)
      (in-rest spans.news node x.node (covers.news.has x h unsaid) above);
}

pub next_stays : (times : TimesLaw) (w : World) (agents : List NodeAgent) (spans next : AgentSpans) (node : ℕ) (a : AgentState) →
    RisesFrom agent_node 0 agents → AreSpanned w spans agents → IsNext agents spans.duties node a →
    next.duties ≡ spans.duties → next.wakes ≡ spans.wakes → next.waits ≡ spans.waits →
    IsAsked w node spans.tells next.tells → IsHeard w (at_node node a) spans.news next.news →
    IsPassed w.tables.clock (at_node node a) spans.steps next.steps → AreSpanned w next agents
next_stays times w agents spans next node a rises covers is same wakes waits asked heard passed = record {
  duties = subst (λ (s : Span). Covers agent_node (has_duty (agent_duties w)) s agents) (sym same) covers.duties;
  sleeps =
      subst (λ (s : Span). Covers agent_node (is_restless next.wakes w) s agents) (sym same)
      (subst (λ k. Covers agent_node (is_restless k w) spans.duties agents) (sym wakes) covers.sleeps);
  waits = subst (λ (s : Span). Covers agent_node may_wait s agents) (sym waits) covers.waits;
  tells = tells-on w agents spans next.tells node a rises covers is asked;
  news = news-on w agents spans next.news node a rises covers is heard;
  steps =
      passed-on times w.tables.clock agents spans.steps next.steps node a rises
      (next-there agents spans.duties node a is) passed covers.steps;
}

-- where it has no duty it leaves the span
pub next_passes : (times : TimesLaw) (w : World) (agents : List NodeAgent) (spans next : AgentSpans) (node : ℕ) (a : AgentState) →
    RisesFrom agent_node 0 agents → AreSpanned w spans agents → IsNext agents spans.duties node a →
    next.duties ≡ beyond spans.duties node → (till : ℕ) → Rests w (at_node node a) till spans.wakes next.wakes →
    next.waits ≡ spans.waits → IsAsked w node spans.tells next.tells →
    IsHeard w (at_node node a) spans.news next.news →
    IsPassed w.tables.clock (at_node node a) spans.steps next.steps →
    None ≡ first_of (agent_duties w (at_node node a)) → AreSpanned w next agents
next_passes times w agents spans next node a rises covers is left till rests waits asked heard known none = record {
  duties = subst (λ (s : Span). Covers agent_node (has_duty (agent_duties w)) s agents) (sym left) (record {
    has = passed agent_node (has_duty (agent_duties w)) spans.duties 0 agents (seen_on node a) rises covers.duties (sym is)
        (ap (λ (ds : List Duty). is_some (first_of ds)) (times.duties w (at_node node a)) ∙ ap is_some (sym none));
  });
  sleeps = subst (λ (s : Span). Covers agent_node (is_restless next.wakes w) s agents) (sym left) (record {
    has = passed agent_node (is_restless next.wakes w) spans.duties 0 agents (seen_on node a) rises
        (sooner-covers spans.wakes next.wakes w spans.duties agents rests.sooner covers.sleeps) (sym is)
        (restless-seen times next.wakes w (at_node node a)
        ∙ asleep next.wakes w (at_node node a) till (ap is_some (sym none)) (rests.sleeps (ap is_some (sym none))) rests.till);
  });
  waits = subst (λ (s : Span). Covers agent_node may_wait s agents) (sym waits) covers.waits;
  tells = tells-on w agents spans next.tells node a rises covers is asked;
  news = news-on w agents spans next.news node a rises covers is heard;
  steps =
      passed-on times w.tables.clock agents spans.steps next.steps node a rises
      (next-there agents spans.duties node a is) known covers.steps;
}

pub fewer_left : (agents : List NodeAgent) (span left : Span) (node : ℕ) (a : AgentState) → IsNext agents span node a →
    left ≡ beyond span node → left.high - left.after < span.high - span.after
fewer_left agents span left node a is left-is = less-left agent_node span left agents (seen_on node a) (sym is) left-is

-- Where none is left.

pub none_has : (w : World) (agents : List NodeAgent) (spans : AgentSpans) → AreSpanned w spans agents →
    None ≡ find (λ b. is_in spans.duties b.node) agents → None ≡ first_of (flat_map (agent_duties w) agents)
none_has w agents spans covers none =
    sym (flat-none (agent_duties w) agents
    (first-none agent_node (has_duty (agent_duties w)) spans.duties agents covers.duties (sym none)))

pub over_has : (w : World) (agents : List NodeAgent) (spans : AgentSpans) → AreSpanned w spans agents →
    true ≡ nat_le spans.duties.high spans.duties.after → None ≡ first_of (flat_map (agent_duties w) agents)
over_has w agents spans covers over = none_has w agents spans covers (sym (none-over agent_node spans.duties agents over))

pub none_spanned : (w : World) (agents : List NodeAgent) (spans next : AgentSpans) → AreSpanned w spans agents →
    None ≡ find (λ b. is_in spans.duties b.node) agents → next.duties ≡ empty → next.tells ≡ empty →
    next.news ≡ empty → next.waits ≡ spans.waits → next.steps ≡ no_steps → next.wakes ≡ spans.wakes →
    AreSpanned w next agents
none_spanned w agents spans next covers none duties tells news waits steps wakes = record {
  duties = subst (λ (s : Span). Covers agent_node (has_duty (agent_duties w)) s agents) (sym duties)
      (none-left agent_node (has_duty (agent_duties w)) spans.duties agents covers.duties (sym none));
  sleeps = subst (λ (s : Span). Covers agent_node (is_restless next.wakes w) s agents) (sym duties)
      (subst (λ k. Covers agent_node (is_restless k w) empty agents) (sym wakes)
      (none-left agent_node (is_restless spans.wakes w) spans.duties agents covers.sleeps (sym none)));
  waits = subst (λ (s : Span). Covers agent_node may_wait s agents) (sym waits) covers.waits;
  tells = subst (λ (s : Span). Covers agent_node (wants_message w) s agents) (sym tells)
      (none-left agent_node (wants_message w) spans.duties agents (wants-covered w agents spans covers) (sym none));
  news = subst (λ (s : Span). Covers agent_node (is_unsaid w) s agents) (sym news)
      (none-left agent_node (is_unsaid w) spans.duties agents (unsaid-covered w agents spans covers) (sym none));
  steps = λ x h. nothing-known w.tables.clock next.steps x steps;
}

pub ruleset asks_steps = (next_rises, next_may, next_may_say, next_steps, next_found, next_stays, next_passes, none_has, over_has, none_spanned)
