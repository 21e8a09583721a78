-- Agents that sleep: by time alone they have no duty before they are woken.
use Rattle.std.proofs.Common.{Bool, List, None, Option, Some, [], ap, arith, cond, false, refl, subst, sym, true, ℕ, ◌+◌, ◌++◌, ◌-◌, ◌<◌, ◌∙◌, ◌∷◌, ◌≡◌, ◌≤◌}
use Rattle.std.proofs.lemmas.Bool.Decides.{nat_tests}
use Rattle.std.specs.Option.{option_map}
use Rattle.std.specs.Prelude.{filter, find, is_some, map, max, nat_lt}
use Rattle.swarm_agent.specs.Agent.{first_task}
use Rattle.swarm_agent.specs.Times.{TimesLaw, seen_agent}
use Rattle.swarm_objects.specs.Loops.Agents.{duties_on, has_step, inbox_duties, is_beat_due, is_forgotten, is_mode_on, report_duties}
use Rattle.swarm_objects.specs.Loops.Words.{duty_where, when}
use Rattle.swarm_objects.specs.Nodes.Sessions.{is_before_deadline, is_session_live, session_of}
use Rattle.swarm_objects.specs.Rows.{Has, agent_node, executor_task, first_of, is_some_and, row_at, session_node}
use Rattle.swarm_objects.specs.World.{World}
use Rattle.swarm_objects.specs.declared.agents.Executor.{Executor}
use Rattle.swarm_objects.specs.declared.agents.NodeAgent.{NodeAgent}
use Rattle.swarm_objects.specs.declared.duties.Duty.TheVariants as duty
use Rattle.swarm_objects.specs.declared.duties.Duty.{Duty}
use Rattle.swarm_objects.specs.declared.sessions.NodeSession.{NodeSession}
use Rattle.swarm_objects.specs.declared.sessions.Session.{Session}
use Rattle.swarm_sessions.specs.OnRecord.{the_session}
use Rattle.swarm_spans.specs.Spans.{Covers}
use Rattle.swarm_spans.specs.Wakes.{wake_at}
use Rattle.swarm_spans.specs.declared.span.Span.{Span}
use Rattle.swarm_spans.specs.declared.wakes.Wakes.{Wakes}
use Rattle.swarm_world.proofs.AgentsShown.{IsShown, first-has, had-duty, is_busy, more-joined, more-when, more-where, some-duty}
use Rattle.swarm_world.proofs.StepsLater.{step-later}
use Rattle.swarm_world.specs.Inside.Looks.{SleepsTill, at_clock, is_restless}

-- As time goes by.

-- a session that is live at the later time was live
pub live-before : (c d : ℕ) (o : Option NodeSession) → c ≤ d → is_before_deadline d o ≡ true → is_before_deadline c o ≡ true
live-before c d None le live = live
live-before c d (Some s) le live = grind (arith, nat_tests, le, live)

beat-later : (w : World) (c d : ℕ) (o : Option NodeSession) → c ≤ d →
    is_some_and (is_beat_due (at_clock c w).tables) o ≡ true → is_some_and (is_beat_due (at_clock d w).tables) o ≡ true
beat-later w c d None le due = due
beat-later w c d (Some s) le due = grind (arith, nat_tests, le, due)

-- what an agent that is on has to do while its session is live, it has to do later
more-later : (w : World) (a : NodeAgent) (c d : ℕ) (e : Duty) → c ≤ d → Has (duties_on (at_clock c w) a true) e →
    Has (duties_on (at_clock d w) a true) e
more-later w a c d e le =
    let told = inbox_duties w a true a.inbox in
    let reports = report_duties w a true in
    let forgets = duty_where is_forgotten (λ (x : Executor). duty.Forget a.node x.task) a.executors in
    let steps : ℕ → List Duty = λ clock. duty_where (has_step clock) (λ (x : Executor). duty.Exec a.node x.task) a.executors in
    let beats : ℕ → List Duty = λ clock.
    when (is_some_and (is_beat_due (at_clock clock w).tables) (session_of w.tables a.node)) (duty.Beat a.node) in
    more-joined (((beats c ++ told) ++ steps c) ++ reports) forgets (((beats d ++ told) ++ steps d) ++ reports) forgets e
    (more-joined ((beats c ++ told) ++ steps c) reports ((beats d ++ told) ++ steps d) reports e
    (more-joined (beats c ++ told) (steps c) (beats d ++ told) (steps d) e
    (more-joined (beats c) told (beats d) told e
    (more-when (is_some_and (is_beat_due (at_clock c w).tables) (session_of w.tables a.node))
    (is_some_and (is_beat_due (at_clock d w).tables) (session_of w.tables a.node)) (duty.Beat a.node) e
    (beat-later w c d (session_of w.tables a.node) le)) (λ h. h))
    (more-where (has_step c) (has_step d) (λ (x : Executor). duty.Exec a.node x.task) a.executors e
    (λ x there. step-later c d x le)))
    (λ h. h))
    (λ h. h)

-- so an agent with a duty has one later
pub busy-later : (w : World) (a : NodeAgent) (c d : ℕ) → c ≤ d → is_busy (at_clock c w) a ≡ true →
    is_busy (at_clock d w) a ≡ true
busy-later w a c d le busy = go (is_mode_on a.mode) busy
  where
    o : Option NodeSession
    o = session_of w.tables a.node

    on : (now later : Bool) → is_before_deadline c o ≡ now → is_before_deadline d o ≡ later →
        is_some (first_of (duties_on (at_clock c w) a now)) ≡ true →
        is_some (first_of (duties_on (at_clock d w) a later)) ≡ true
    on now false live ends some = refl
    on true true live ends some =
        let e = first-has (duties_on (at_clock c w) a true) some in
        some-duty (duties_on (at_clock d w) a true) e.0 (more-later w a c d e.0 le e.1)
    on false true live ends some =
        absurd (let both : false ≡ true = sym live ∙ live-before c d o le ends in cc)

    go : (b : Bool) → is_some (first_of (cond b (duties_on (at_clock c w) a (is_before_deadline c o)) [])) ≡ true →
        is_some (first_of (cond b (duties_on (at_clock d w) a (is_before_deadline d o)) [])) ≡ true
    go true some = on (is_before_deadline c o) (is_before_deadline d o) refl refl some
    go false some = absurd cc

-- Whether an agent is restless.

-- the clock just before a time, which isn't before now
abbrev pub eve : World → ℕ → ℕ
eve w time = max w.tables.clock (time - 1)

eve-less : (w : World) (sooner time : ℕ) → sooner ≤ time → eve w sooner ≤ eve w time
eve-less w sooner time le = omega (arith, le)

-- a test that sees no more than an agent is shown
pub shown-restless : (wakes : Wakes) → IsShown (is_restless wakes)
shown-restless wakes v w a shows passes =
    had-duty (at_clock (eve v time) v) (at_clock (eve w time) w) a
    (record {
      clock = ap (λ clock. max clock (time - 1)) shows.clock;
      heartbeat = shows.heartbeat;
      session = shows.session;
      message = shows.message;
      tasks = shows.tasks;
    }) passes
  where
    time : ℕ
    time = wake_at wakes a.node

-- an agent with a duty is
pub busy-restless : (wakes : Wakes) (w : World) (a : NodeAgent) → is_busy w a ≡ true → is_restless wakes w a ≡ true
busy-restless wakes w a busy =
    busy-later w a w.tables.clock (eve w (wake_at wakes a.node)) (omega arith) busy

-- where agents are woken sooner, no more of them are
pub sooner-covers : (old new : Wakes) (w : World) (span : Span) (agents : List NodeAgent) →
    ((node : ℕ) → wake_at new node ≤ wake_at old node) → Covers agent_node (is_restless old w) span agents →
    Covers agent_node (is_restless new w) span agents
sooner-covers old new w span agents sooner covers = record {
  has = λ a there restless.
      covers.has a there
      (busy-later w a (eve w (wake_at new a.node)) (eve w (wake_at old a.node))
      (eve-less w (wake_at new a.node) (wake_at old a.node) (sooner a.node)) restless);
}

-- one that sleeps till then isn't
pub asleep : (wakes : Wakes) (w : World) (a : NodeAgent) (till : ℕ) → is_busy w a ≡ false → SleepsTill w a till →
    wake_at wakes a.node ≤ till → is_restless wakes w a ≡ false
asleep wakes w a till none sleeps le = go (nat_lt w.tables.clock (time - 1)) refl
  where
    time : ℕ
    time = wake_at wakes a.node

    go : (b : Bool) → nat_lt w.tables.clock (time - 1) ≡ b → is_restless wakes w a ≡ false
    go true later =
        let lt : w.tables.clock < time - 1 = grind (arith, nat_tests, later) in
        let at : eve w time ≡ time - 1 = omega (arith, lt) in
        ap (λ clock. is_busy (at_clock clock w) a) at
        ∙ sleeps (time - 1) (omega (arith, lt)) (omega (arith, lt, le))
    go false now =
        let at : eve w time ≡ w.tables.clock = grind (arith, nat_tests, now) in
        ap (λ clock. is_busy (at_clock clock w) a) at ∙ none

-- As it is seen, an agent is as restless.
pub restless-seen : (times : TimesLaw) (wakes : Wakes) (w : World) (a : NodeAgent) →
    is_restless wakes w (seen_agent a) ≡ is_restless wakes w a
restless-seen times wakes w a =
    ap (λ (ds : List Duty). is_some (first_of ds)) (times.duties (at_clock (eve w (wake_at wakes a.node)) w) a)

-- How long an agent without a duty sleeps.

none-where : (p : Executor → Bool) (f : Executor → Duty) (es : List Executor) → first_task p es ≡ None →
    duty_where p f es ≡ []
none-where p f [] none = refl
none-where p f (e ∷ es) none = go (p e) refl none (none-where p f es)
  where
    go : (b : Bool) → p e ≡ b → option_map executor_task (cond b (Some e) (find p es)) ≡ None →
        (first_task p es ≡ None → duty_where p f es ≡ []) → duty_where p f (e ∷ es) ≡ []
    go true is none rest = absurd cc
    go false is none rest = ap (λ b. map f (cond b (e ∷ filter p es) (filter p es))) is ∙ rest none

-- as long as its session lives, no beat is due and no executor has a step
module _ (w : World) (a : NodeAgent) (s : NodeSession) (till : ℕ) (is : session_of w.tables a.node ≡ Some s)
    (none : is_busy w a ≡ false) (on : is_mode_on a.mode ≡ true) (ends : till ≤ s.session.deadline)
    (beat : till ≤ s.session.beat + w.tables.settings.heartbeat)
    (steps : (clock : ℕ) → clock < till → first_task (has_step clock) a.executors ≡ None) where
  live-at : (clock : ℕ) → clock < till → is_session_live (at_clock clock w).tables a.node ≡ true
  live-at clock lt = ap (is_before_deadline clock) is ∙ grind (arith, nat_tests, lt, ends)

  no-beat : (clock : ℕ) → clock < till →
      is_some_and (is_beat_due (at_clock clock w).tables) (session_of w.tables a.node) ≡ false
  no-beat clock lt =
      ap (is_some_and (is_beat_due (at_clock clock w).tables)) is ∙ grind (arith, nat_tests, lt, beat)

  none-sooner : (clock : ℕ) (e : Duty) → clock < till → Has (duties_on (at_clock clock w) a true) e →
      Has (duties_on w a true) e
  none-sooner clock e lt =
      let told = inbox_duties w a true a.inbox in
      let reports = report_duties w a true in
      let forgets = duty_where is_forgotten (λ (x : Executor). duty.Forget a.node x.task) a.executors in
      let made : ℕ → List Duty = λ at. duty_where (has_step at) (λ (x : Executor). duty.Exec a.node x.task) a.executors in
      let due : ℕ → Bool = λ at. is_some_and (is_beat_due (at_clock at w).tables) (session_of w.tables a.node) in
      let beats : ℕ → List Duty = λ at. when (due at) (duty.Beat a.node) in
      let now = w.tables.clock in
      more-joined (((beats clock ++ told) ++ made clock) ++ reports) forgets (((beats now ++ told) ++ made now) ++ reports)
      forgets e
      (more-joined ((beats clock ++ told) ++ made clock) reports ((beats now ++ told) ++ made now) reports e
      (more-joined (beats clock ++ told) (made clock) (beats now ++ told) (made now) e
      (more-joined (beats clock) told (beats now) told e
      (more-when (due clock) (due now) (duty.Beat a.node) e
      (λ is-due. absurd (let both : false ≡ true = sym (no-beat clock lt) ∙ is-due in cc))) (λ h. h))
      (λ h. absurd (subst (λ (ds : List Duty). Has ds e)
      (none-where (has_step clock) (λ (x : Executor). duty.Exec a.node x.task) a.executors (steps clock lt)) h)))
      (λ h. h))
      (λ h. h)

  pub sleeps : SleepsTill w a till
  sleeps clock after lt = go (is_busy (at_clock clock w) a) refl
    where
      at : is_busy (at_clock clock w) a ≡ is_some (first_of (duties_on (at_clock clock w) a true))
      at =
          ap (λ b. is_some (first_of (cond b (duties_on (at_clock clock w) a (is_session_live (at_clock clock w).tables a.node)) [])))
          on
          ∙ ap (λ live. is_some (first_of (duties_on (at_clock clock w) a live))) (live-at clock lt)

      now : is_busy w a ≡ is_some (first_of (duties_on w a true))
      now =
          ap (λ b. is_some (first_of (cond b (duties_on w a (is_session_live w.tables a.node)) []))) on
          ∙ ap (λ live. is_some (first_of (duties_on w a live))) (live-at w.tables.clock (omega (arith, after, lt)))

      go : (b : Bool) → is_busy (at_clock clock w) a ≡ b → is_busy (at_clock clock w) a ≡ false
      go false is-so = is-so
      go true is-so =
          let e = first-has (duties_on (at_clock clock w) a true) (sym at ∙ is-so) in
          let busy : is_busy w a ≡ true =
          now ∙ some-duty (duties_on w a true) e.0 (none-sooner clock e.0 lt e.1) in
          absurd (let both : false ≡ true = sym none ∙ busy in cc)

-- an agent that isn't on has nothing to do
pub off_sleeps : (w : World) (a : NodeAgent) (till : ℕ) → is_mode_on a.mode ≡ false → SleepsTill w a till
off_sleeps w a till off clock after lt =
    ap (λ b. is_some (first_of (cond b (duties_on (at_clock clock w) a (is_session_live (at_clock clock w).tables a.node)) [])))
    off

pub never_sleeps : (w : World) (a : NodeAgent) → SleepsTill w a 0
never_sleeps w a clock after lt = absurd (omega (arith, lt))

-- so it is by its session on record
pub session_sleeps : (w : World) (a : NodeAgent) (s : Session) (till : ℕ) →
    Some s ≡ option_map the_session (row_at session_node a.node w.tables.sessions) → is_mode_on a.mode ≡ true →
    till ≤ s.deadline → till ≤ s.beat + w.tables.settings.heartbeat →
    ((clock : ℕ) → clock < till → first_task (has_step clock) a.executors ≡ None) → is_busy w a ≡ false →
    SleepsTill w a till
session_sleeps w a s till is on ends beat steps none = go (row_at session_node a.node w.tables.sessions) refl is
  where
    go : (o : Option NodeSession) → row_at session_node a.node w.tables.sessions ≡ o → Some s ≡ option_map the_session o →
        SleepsTill w a till
    go None at same = absurd cc
    go (Some row) at same =
        let of : s ≡ row.session = cc in
        sleeps w a row till at none on (subst (λ (x : Session). till ≤ x.deadline) of ends)
        (subst (λ (x : Session). till ≤ x.beat + w.tables.settings.heartbeat) of beat) steps
