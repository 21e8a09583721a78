-- What a tick leaves of the spans.
use Rattle.std.proofs.Common.{◌≡◌, ◌∙◌, ◌+◌, ◌-◌, ◌<◌, ◌^◌, ◌≤◌, ◌⊎◌, ℕ, Bool, true, false, List, None, Option, Some, ap, arith, inl, inr, refl, subst, sym}
use Rattle.std.proofs.lemmas.Bool.Decides.{nat_tests}
use Rattle.std.specs.Prelude.{is_some, min, nat_le, not}
use Rattle.swarm_agent.specs.Times.{TimesLaw}
use Rattle.swarm_model.specs.Calls.{answered, ticked}
use Rattle.swarm_model.specs.History.{IsLegal, replay, step}
use Rattle.swarm_objects.specs.Agents.Messages.{due_set, next_message, sent_of}
use Rattle.swarm_objects.proofs.Tests.{both_are}
use Rattle.swarm_objects.specs.Bounds.{far_end}
use Rattle.swarm_objects.specs.Limits.{is_tick, longest_tick}
use Rattle.swarm_objects.specs.Nodes.Sessions.{is_before_deadline, is_session_live}
use Rattle.swarm_objects.specs.Refusals.{refuse, unless}
use Rattle.swarm_objects.specs.Rows.{Has, agent_node, first_of, has_row, node_id, row_at, sent_node, session_node, task_id}
use Rattle.swarm_objects.specs.Usable.{IsUsable}
use Rattle.swarm_objects.specs.World.{Tables, World}
use Rattle.swarm_objects.specs.declared.agents.NodeAgent.{NodeAgent}
use Rattle.swarm_objects.specs.declared.calls.Call.TheVariants as call
use Rattle.swarm_objects.specs.declared.calls.Entry.{Entry}
use Rattle.swarm_objects.specs.declared.calls.What.TheVariants as what
use Rattle.swarm_objects.specs.declared.messages.NodeSent.{NodeSent}
use Rattle.swarm_objects.specs.declared.replies.Refusal.TheVariants as refusal
use Rattle.swarm_objects.specs.declared.replies.Reply.TheVariants as reply
use Rattle.swarm_objects.specs.declared.sessions.NodeSession.{NodeSession}
use Rattle.swarm_spans.specs.Services.Touches.{ServiceTimeLaw}
use Rattle.swarm_spans.specs.Spans.{Covers, IsWider, is_in}
use Rattle.swarm_spans.specs.TasksCovered.{TimeLaw, at_time}
use Rattle.swarm_spans.specs.declared.span.Span.{Span}
use Rattle.swarm_world.proofs.AgentsKept.{shows}
use Rattle.swarm_world.proofs.AgentsSeen.{seen-covered, world-covered}
use Rattle.swarm_world.proofs.AgentsShown.{ShowsNoMore, had-duty, same-tables, wants-both, wants-parts}
use Rattle.swarm_world.proofs.KnownSteps.{nothing-known}
use Rattle.swarm_world.proofs.Recorded.{tables_are}
use Rattle.swarm_world.proofs.Restless.{shown-restless}
use Rattle.swarm_world.proofs.RowsTouched.{timed-alike}
use Rattle.swarm_world.proofs.Unsaid.{unsaid-more}
use Rattle.swarm_world.proofs.Wakening.{AreNear, Wakens, ended-before, ended_within, sleeping-covers, woken-covers}
use Rattle.swarm_model.proofs.Laws.GivesOutReplay.{whole-replay}
use Rattle.swarm_model.proofs.Laws.Small.{IsSmall-replay}
use Rattle.swarm_model.proofs.Moves.Rows.{between-has}
use Rattle.swarm_model.specs.Settle.{is_remote}
use Rattle.swarm_objects.specs.Loops.Dispatcher.{is_expired}
use Rattle.swarm_objects.specs.Loops.Words.{when}
use Rattle.swarm_objects.specs.declared.duties.Duty.TheVariants as duty
use Rattle.swarm_objects.specs.declared.nodes.Node.{Node}
use Rattle.swarm_settle.proofs.TogetherCalls.{together-replay}
use Rattle.swarm_spans.specs.Timed.{AreTimed}
use Rattle.swarm_spans.specs.declared.wakes.Wakes.{Wakes}
use Rattle.swarm_world.specs.Inside.Known.{PassesTime}
use Rattle.swarm_world.specs.Inside.Looks.{AreSpanned, at_clock, is_told, is_unsaid, no_steps, wants_message}
use Rattle.swarm_world.specs.Inside.Marks.{AreMarked, IsAfterCall, IsMarked}
use Rattle.swarm_world.specs.Inside.Parts.{HasHistory, HasParts, StandsFor}
use Rattle.swarm_world.specs.Inside.Records.{tables_of}
use Rattle.swarm_world.specs.Inside.Spanned.{CoversAgents}
use Rattle.swarm_world.specs.declared.agent_spans.AgentSpans.{AgentSpans}
use Rattle.swarm_world.specs.declared.marks.Marks.{Marks}
use Rattle.swarm_world.specs.declared.parts.Parts.{Parts}

-- the spans over the rows
pub timed : (until : ℕ) (before after : Marks) (t : Tables) → TimeLaw until t before.tasks after.tasks
    → ServiceTimeLaw t before.services after.services → AreTimed t after.timed → PassesTime before.known after.known
    → (clock : ℕ) → t.clock ≤ clock → clock ≤ until → AreMarked before t → AreMarked after (at_time clock t)
timed until before after t tasks services narrow passes clock le by marked = record {
  tasks = tasks clock by marked.tasks;
  services = services clock marked.services;
  timed = timed-alike t (at_time clock t) after.timed refl refl narrow;
  known = passes t clock le marked.known;
}

-- the world after a tick, of whatever length, until this time
record IsLater (until : ℕ) (w v : World) : Type 0 where
  clock : ℕ
  rises : w.tables.clock ≤ clock
  by : clock ≤ until
  tables : v.tables ≡ at_time clock w.tables
  sent : v.sent ≡ w.sent
  agents : v.agents ≡ w.agents

later-itself : (until : ℕ) (w : World) → w.tables.clock ≤ until → IsLater until w w
later-itself until w by = record {
  clock = w.tables.clock;
  rises = omega arith;
  by = by;
  tables = refl;
  sent = refl;
  agents = refl;
}

later-ticked : (until : ℕ) (w : World) (ms : ℕ) (c : Bool) → w.tables.clock ≤ until
    → (c ≡ true → w.tables.clock + ms ≤ until) → is_tick ms ≡ c
    → IsLater until w (step w (what.Call (call.Tick ms))).after
later-ticked until w ms c now by is =
    subst (λ b. IsLater until w (answered w (unless (refuse (not b) (refusal.BadTick ms)) (reply.Ticked, ticked w ms))).after)
    (sym is) (go c by)
  where
    go : (b : Bool) → (b ≡ true → w.tables.clock + ms ≤ until)
        → IsLater until w (answered w (unless (refuse (not b) (refusal.BadTick ms)) (reply.Ticked, ticked w ms))).after
    go true by = record {
      clock = w.tables.clock + ms;
      rises = omega arith;
      by = by refl;
      tables = refl;
      sent = refl;
      agents = refl;
    }
    go false by = record {
      clock = w.tables.clock;
      rises = omega arith;
      by = now;
      tables = refl;
      sent = refl;
      agents = refl;
    }

-- No message becomes due as time goes by.

still-live : (before after : ℕ) (o : Option NodeSession) → before ≤ after → is_before_deadline after o ≡ true
    → is_before_deadline before o ≡ true
still-live before after None le live = live
still-live before after (Some s) le live = grind (arith, nat_tests, le, live)

still-wanted : (w v : World) (clock : ℕ) (a : NodeAgent) → v.tables ≡ at_time clock w.tables → w.tables.clock ≤ clock
    → v.sent ≡ w.sent → wants_message v a ≡ true → wants_message w a ≡ true
still-wanted w v clock a tables le sent wants =
    let is = wants-parts v a wants in
    let live : is_before_deadline clock (row_at session_node a.node w.tables.sessions) ≡ true =
    subst (λ (t : Tables). is_session_live t a.node ≡ true) tables is.1 in
    wants-both w a is.0 (still-live w.tables.clock clock (row_at session_node a.node w.tables.sessions) le live) (told is.2)
  where
    told : is_told v a.node ≡ true → is_told w a.node ≡ true
    told some =
        subst (λ (t : Tables). is_some (next_message (sent_of w a.node) (due_set t a.node)) ≡ true) tables
        (subst (λ (rows : List NodeSent). is_some (next_message (row_at sent_node a.node rows) (due_set v.tables a.node)) ≡ true) sent some)

-- nor has an agent news by it
still-unsaid : (w v : World) (clock : ℕ) (a : NodeAgent) → v.tables ≡ at_time clock w.tables → w.tables.clock ≤ clock
    → is_unsaid v a ≡ true → is_unsaid w a ≡ true
still-unsaid w v clock a tables le =
    unsaid-more v w a
    (λ live. still-live w.tables.clock clock (row_at session_node a.node w.tables.sessions) le
    (subst (λ (t : Tables). is_session_live t a.node ≡ true) tables live))
    (λ e is there. subst (λ (t : Tables). has_row task_id e.task t.tasks ≡ true) tables there)

-- What time leaves of the agents' spans: those that wake may have a duty, and none other wants a message or has news.
-- Nothing is known of steps.

near-agents : (h : List Entry) → IsLegal h → AreNear (replay h).agents
near-agents h legal =
    let high = (replay h).tables.next_id in
    let rises = (whole-replay h legal).0.agents in
    let small = (IsSmall-replay h legal).next_id in
    record {
      above = λ a there. (between-has agent_node 1 high (replay h).agents a rises there).0;
      below = λ a there.
          let is = (between-has agent_node 1 high (replay h).agents a rises there).1 in omega (arith, is, small);
    }

agents-timed : (until : ℕ) (w v : World) (old new : AgentSpans) → AreNear w.agents → IsLater until w v
    → Wakens until old.wakes new.wakes old.duties new.duties → new.tells ≡ old.tells → new.news ≡ old.news
    → new.waits ≡ old.waits → new.steps ≡ no_steps → AreSpanned w old w.agents → AreSpanned v new v.agents
agents-timed until w v old new near later wakens tells news waits steps covers = record {
  duties = record {
    has = λ a there busy.
        (woken-covers w old.wakes new.wakes old.duties new.duties until later.clock w.agents wakens near later.rises
        later.by covers.sleeps).has a (was a there) (had-duty v (at_clock later.clock w) a (shows a) busy);
  };
  sleeps = record {
    has = λ a there restless.
        (sleeping-covers w old.wakes new.wakes old.duties new.duties until later.clock w.agents wakens near later.rises
        later.by covers.sleeps).has a (was a there)
        (shown-restless new.wakes v (at_clock later.clock w) a (shows a) restless);
  };
  tells = record {
    has = λ a there wants.
        subst (λ (s : Span). is_in s a.node ≡ true) (sym tells)
        (covers.tells.has a (was a there) (still-wanted w v later.clock a later.tables later.rises later.sent wants));
  };
  news = record {
    has = λ a there unsaid.
        subst (λ (s : Span). is_in s a.node ≡ true) (sym news)
        (covers.news.has a (was a there) (still-unsaid w v later.clock a later.tables later.rises unsaid));
  };
  waits = record {
    has = λ a there off.
        subst (λ (s : Span). is_in s a.node ≡ true) (sym waits) (covers.waits.has a (was a there) off);
  };
  steps = λ a there. nothing-known v.tables.clock new.steps a steps;
}
  where
    was : (a : NodeAgent) → Has v.agents a → Has w.agents a
    was a there = subst (λ (rows : List NodeAgent). Has rows a) later.agents there

    shows : (a : NodeAgent) → ShowsNoMore v (at_clock later.clock w) a
    shows a =
        same-tables v (at_clock later.clock w) a later.tables
        (ap (λ (rows : List NodeSent). row_at sent_node a.node rows) later.sent)

-- the world's agents are covered, as they are in its parts
of-world : (times : TimesLaw) (p : Parts) (w : World) (spans : AgentSpans) → HasParts p w → CoversAgents p spans
    → AreSpanned w spans w.agents
of-world times p w spans has = world-covered times (tables_of p.records) p.sent p.agents w spans (shows p w has)

-- each node whose session may have ended by then is in one of the spans
pub ends_have : (times : TimesLaw) (p : Parts) (is : HasHistory p) (m : Marks) (until : ℕ) (wakes : Wakes)
    (duties remotes ends : Span) → IsMarked m p → Wakens until m.agents.wakes wakes m.agents.duties duties
    → Covers node_id is_remote remotes (tables_of p.records).nodes → IsWider ends duties → IsWider ends m.agents.waits
    → IsWider ends remotes → (clock : ℕ) → clock ≤ until → (n : Node) → Has (tables_of p.records).nodes n
    → is_expired (at_time clock (tables_of p.records)) n ≡ true
    → (is_in m.tasks.expires n.id ≡ true) ⊎ (is_in ends n.id ≡ true)
ends_have times p is m until wakes duties remotes ends marked wakens far one two three clock by n there expired =
    go (nat_le clock t.clock) refl
  where
    t : Tables
    t = tables_of p.records

    w : World
    w = replay is.history

    same : t ≡ w.tables
    same = tables_are p.records w is.stands.has.records

    covers : AreSpanned w m.agents w.agents
    covers = of-world times p w m.agents is.stands.has marked.agents

    go : (b : Bool) → nat_le clock t.clock ≡ b → (is_in m.tasks.expires n.id ≡ true) ⊎ (is_in ends n.id ≡ true)
    go true early =
        inl (marked.rows.tasks.expires.has n there
        (ap (λ b. is_some (first_of (when b (duty.Expire n.id))))
        (ended-before t clock n (grind (arith, nat_tests, early)) expired)))
    go false late =
        let after : t.clock < clock = grind (arith, nat_tests, late) in
        let clocks : t.clock ≡ w.tables.clock = ap (λ (u : Tables). u.clock) same in
        inr (ended_within w duties m.agents.waits remotes ends m.tasks.expires clock
        (together-replay is.history is.legal).0
        (woken-covers w m.agents.wakes wakes m.agents.duties duties until clock w.agents wakens
        (near-agents is.history is.legal) (omega (arith, after, clocks)) by covers.sleeps)
        covers.waits (subst (λ (u : Tables). Covers node_id is_remote remotes u.nodes) same far) one two three n
        (subst (λ (u : Tables). Has u.nodes n) same there)
        (subst (λ (u : Tables). is_expired (at_time clock u) n ≡ true) same expired))

-- until when a tick goes
pub until_ticks : (t : Tables) (now ms until : ℕ) → IsUsable t → now ≡ t.clock → until ≡ min (now + ms) (2 ^ 64 - 1)
    → is_tick ms ≡ true → t.clock + ms ≤ until
until_ticks t now ms until usable is until-is ticks =
    let most = (both_are (nat_le 1 ms) (nat_le ms longest_tick) ticks).1 in
    let short : ms ≤ longest_tick = grind (arith, nat_tests, most) in
    let near : t.clock < far_end = usable.clock in
    omega (arith, short, near, is, until-is)

pub until_later : (t : Tables) (now ms until : ℕ) → IsUsable t → now ≡ t.clock → until ≡ min (now + ms) (2 ^ 64 - 1)
    → t.clock ≤ until
until_later t now ms until usable is until-is =
    let near : t.clock < far_end = usable.clock in
    omega (arith, near, is, until-is)

pub tick_marked : (times : TimesLaw) (until : ℕ) (m n : Marks) (p : Parts) → TimeLaw until (tables_of p.records) m.tasks n.tasks
    → ServiceTimeLaw (tables_of p.records) m.services n.services → AreTimed (tables_of p.records) n.timed
    → PassesTime m.known n.known → Wakens until m.agents.wakes n.agents.wakes m.agents.duties n.agents.duties
    → n.agents.tells ≡ m.agents.tells → n.agents.news ≡ m.agents.news → n.agents.waits ≡ m.agents.waits
    → n.agents.steps ≡ no_steps → (tables_of p.records).clock ≤ until → (ms : ℕ) (h : List Entry) (q : Parts)
    → (is_tick ms ≡ true → (tables_of p.records).clock + ms ≤ until) → IsLegal h → StandsFor p (replay h) → IsMarked m p → HasHistory q → IsAfterCall h (call.Tick ms) q → IsMarked n q
tick_marked times until m n p tasks services narrow passes wakens tells news waits steps now ms h q small legal stands marked is after =
    elim after [
      | inl done ↦
          later (step w (what.Call (call.Tick ms))).after
          (later-ticked until w ms (is_tick ms) reached (λ ticks. let most = small ticks in omega (arith, most, clocks)) refl) done
      | inr same ↦ later w (later-itself until w reached) same
    ]
  where
    w : World
    w = replay h

    t : Tables
    t = tables_of p.records

    same : t ≡ w.tables
    same = tables_are p.records w stands.has.records

    clocks : t.clock ≡ w.tables.clock
    clocks = ap (λ (u : Tables). u.clock) same

    reached : w.tables.clock ≤ until
    reached = omega (arith, now, clocks)

    later : (v : World) → IsLater until w v → StandsFor q v → IsMarked n q
    later v is-later done = record {
      rows =
          subst (AreMarked n)
          (sym (tables_are q.records v done.has.records ∙ is-later.tables ∙ ap (at_time is-later.clock) (sym same)))
          (timed until m n t tasks services narrow passes is-later.clock
          (let rises = is-later.rises in omega (arith, rises, clocks)) is-later.by marked.rows);
      agents =
          seen-covered times (tables_of q.records) q.sent q.agents v n.agents (shows q v done.has)
          (agents-timed until w v m.agents n.agents (near-agents h legal) is-later wakens tells news waits steps
          (of-world times p w m.agents stands.has marked.agents));
    }
