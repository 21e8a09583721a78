-- What an agent's duties look at: where one world shows no more of it than another, no duty is new.
use Rattle.std.proofs.Common.{◌≡◌, ◌∙◌, ◌++◌, ◌∷◌, ℕ, Bool, true, false, cond, List, [], Option, Some, None, ap, inl, not, refl, subst, sym}
use Rattle.std.specs.Prelude.{◌&&◌, is_some}
use Rattle.swarm_model.proofs.Base.DutyLists.{from_either, from_when, from_where, to_when, to_where}
use Rattle.swarm_objects.proofs.RowLemmas.{Has-append_left, Has-append_right}
use Rattle.swarm_objects.proofs.Tests.{both, both_are}
use Rattle.swarm_objects.specs.Agents.Messages.{due_set, message_for, next_message, sent_of}
use Rattle.swarm_objects.specs.Loops.Agents.{agent_duties, duties_on, has_step, inbox_duties, is_beat_due, is_forgotten, is_mode_on, is_news, report_duties, session_duties, wants_report}
use Rattle.swarm_objects.specs.Loops.Words.{duty_where, when}
use Rattle.swarm_objects.specs.Nodes.Sessions.{is_before_deadline, is_session_live, session_of}
use Rattle.swarm_objects.specs.Rows.{Has, first_of, has_row, is_some_and, row_at, session_node, task_id}
use Rattle.swarm_objects.specs.World.{Tables, World}
use Rattle.swarm_objects.specs.declared.agents.Executor.{Executor}
use Rattle.swarm_objects.specs.declared.agents.NodeAgent.{NodeAgent}
use Rattle.swarm_objects.specs.declared.duties.Duty.TheVariants as duty
use Rattle.swarm_objects.specs.declared.duties.Duty.{Duty}
use Rattle.swarm_objects.specs.declared.messages.Message.{Message}
use Rattle.swarm_objects.specs.declared.messages.NodeSent.{NodeSent}
use Rattle.swarm_objects.specs.declared.sessions.NodeSession.{NodeSession}
use Rattle.swarm_spans.specs.Spans.{has_duty}
use Rattle.swarm_world.specs.Inside.Looks.{is_told, wants_message}

-- the first world shows this agent the same times and session as the second, and no more of messages and tasks
pub record ShowsNoMore (v w : World) (a : NodeAgent) : Type 0 where
  pub clock : v.tables.clock ≡ w.tables.clock
  pub heartbeat : v.tables.settings.heartbeat ≡ w.tables.settings.heartbeat
  pub session : session_of v.tables a.node ≡ session_of w.tables a.node
  pub message : is_some (message_for v a.node) ≡ true → is_some (message_for w a.node) ≡ true
  pub tasks : (e : Executor) → Has a.executors e → has_row task_id e.task v.tables.tasks ≡ true →
      has_row task_id e.task w.tables.tasks ≡ true

-- the same tables, and the same was sent to its node
pub same-tables : (v w : World) (a : NodeAgent) → v.tables ≡ w.tables → sent_of v a.node ≡ sent_of w a.node → ShowsNoMore v w a
same-tables v w a tables sent = record {
  clock = ap (λ t. t.clock) tables;
  heartbeat = ap (λ t. t.settings.heartbeat) tables;
  session = ap (λ (t : Tables). row_at session_node a.node t.sessions) tables;
  message = λ some.
      subst (λ (t : Tables). is_some (next_message (sent_of w a.node) (due_set t a.node)) ≡ true) tables
      (subst (λ (o : Option NodeSent). is_some (next_message o (due_set v.tables a.node)) ≡ true) sent some);
  tasks = λ e there has. subst (λ (t : Tables). has_row task_id e.task t.tasks ≡ true) tables has;
}

-- Lists of duties, of which the second has what the first has.

pub more-joined : (xs ys us vs : List Duty) (d : Duty) → (Has xs d → Has us d) → (Has ys d → Has vs d) →
    Has (xs ++ ys) d → Has (us ++ vs) d
more-joined xs ys us vs d first second =
    from_either xs ys d (λ h. Has-append_left us vs d (first h)) (λ h. Has-append_right us vs d (second h))

pub more-when : (b c : Bool) (e d : Duty) → (b ≡ true → c ≡ true) → Has (when b e) d → Has (when c e) d
more-when b c e d more = from_when (λ x. Has (when c e) x) b e d (λ t. to_when c e (more t))

pub more-where : {X : Type 0} (p q : X → Bool) (f : X → Duty) (rows : List X) (d : Duty) →
    ((x : X) → Has rows x → p x ≡ true → q x ≡ true) → Has (duty_where p f rows) d → Has (duty_where q f rows) d
more-where p q f rows d more =
    from_where (λ x. Has (duty_where q f rows) x) p f rows d (λ x there passes. to_where q f rows x there (more x there passes))

-- The duties of an agent.

pub live-same : (v w : World) (a : NodeAgent) → ShowsNoMore v w a →
    is_session_live v.tables a.node ≡ is_session_live w.tables a.node
live-same v w a shows =
    ap (λ clock. is_before_deadline clock (session_of v.tables a.node)) shows.clock
    ∙ ap (is_before_deadline w.tables.clock) shows.session

beat-same : (v w : World) (a : NodeAgent) → ShowsNoMore v w a →
    is_some_and (is_beat_due v.tables) (session_of v.tables a.node)
    ≡ is_some_and (is_beat_due w.tables) (session_of w.tables a.node)
beat-same v w a shows =
    ap (λ o. is_some_and (is_beat_due v.tables) o) shows.session ∙ go (session_of w.tables a.node)
  where
    go : (o : Option NodeSession) → is_some_and (is_beat_due v.tables) o ≡ is_some_and (is_beat_due w.tables) o
    go None = refl
    go (Some s) = rw shows.clock (rw shows.heartbeat refl)

pub wants-more : (t u : Tables) (e : Executor) →
    (has_row task_id e.task t.tasks ≡ true → has_row task_id e.task u.tasks ≡ true) → wants_report t e ≡ true →
    wants_report u e ≡ true
wants-more t u e more passes =
    let there = not e.gone && has_row task_id e.task t.tasks in
    let outer = both_are there (is_news e.state e.reported) passes in
    let inner = both_are (not e.gone) (has_row task_id e.task t.tasks) outer.0 in
    both (not e.gone && has_row task_id e.task u.tasks) (is_news e.state e.reported)
    (both (not e.gone) (has_row task_id e.task u.tasks) inner.0 (more inner.1)) outer.1

more-session : (v w : World) (a : NodeAgent) (live : Bool) (d : Duty) → ShowsNoMore v w a →
    Has (session_duties v a live) d → Has (session_duties w a live) d
more-session v w a true d shows = subst (λ b. Has (when b (duty.Beat a.node)) d) (beat-same v w a shows)
more-session v w a false d shows = λ h. h

more-inbox : (v w : World) (a : NodeAgent) (live : Bool) (inbox : Option Message) (d : Duty) → ShowsNoMore v w a →
    Has (inbox_duties v a live inbox) d → Has (inbox_duties w a live inbox) d
more-inbox v w a live (Some m) d shows = λ h. h
more-inbox v w a live None d shows =
    more-when (live && is_some (message_for v a.node)) (live && is_some (message_for w a.node)) (duty.Pull a.node) d
    (λ t. let is = both_are live (is_some (message_for v a.node)) t in
    both live (is_some (message_for w a.node)) is.0 (shows.message is.1))

more-reports : (v w : World) (a : NodeAgent) (live : Bool) (d : Duty) → ShowsNoMore v w a →
    Has (report_duties v a live) d → Has (report_duties w a live) d
more-reports v w a true d shows =
    more-where (wants_report v.tables) (wants_report w.tables) (λ e. duty.Report a.node e.task) a.executors d
    (λ e there. wants-more v.tables w.tables e (shows.tasks e there))
more-reports v w a false d shows = λ h. h

more-on : (v w : World) (a : NodeAgent) (live : Bool) (d : Duty) → ShowsNoMore v w a → Has (duties_on v a live) d →
    Has (duties_on w a live) d
more-on v w a live d shows =
    let forgets = duty_where is_forgotten (λ (e : Executor). duty.Forget a.node e.task) a.executors in
    let steps : ℕ → List Duty = λ clock. duty_where (has_step clock) (λ (e : Executor). duty.Exec a.node e.task) a.executors in
    more-joined _ forgets _ forgets d
    (more-joined _ (report_duties v a live) _ (report_duties w a live) d
    (more-joined _ (steps v.tables.clock) _ (steps w.tables.clock) d
    (more-joined (session_duties v a live) (inbox_duties v a live a.inbox) (session_duties w a live)
    (inbox_duties w a live a.inbox) d (more-session v w a live d shows) (more-inbox v w a live a.inbox d shows))
    (subst (λ clock. Has (steps clock) d) shows.clock))
    (more-reports v w a live d shows))
    (λ h. h)

-- no duty is new
pub no-new-duty : (v w : World) (a : NodeAgent) (d : Duty) → ShowsNoMore v w a → Has (agent_duties v a) d →
    Has (agent_duties w a) d
no-new-duty v w a d shows = go (is_mode_on a.mode)
  where
    go : (b : Bool) → Has (cond b (duties_on v a (is_session_live v.tables a.node)) []) d →
        Has (cond b (duties_on w a (is_session_live w.tables a.node)) []) d
    go true h =
        subst (λ live. Has (duties_on w a live) d) (live-same v w a shows)
        (more-on v w a (is_session_live v.tables a.node) d shows h)
    go false h = absurd h

-- Whether there is a duty.

pub some-duty : (ds : List Duty) (d : Duty) → Has ds d → is_some (first_of ds) ≡ true
some-duty [] d h = absurd h
some-duty (x ∷ ds) d h = refl

pub first-has : (ds : List Duty) → is_some (first_of ds) ≡ true → (d : Duty) × Has ds d
first-has [] some = absurd cc
first-has (d ∷ ds) some = (d, inl refl)

-- an agent with a duty had one
pub had-duty : (v w : World) (a : NodeAgent) → ShowsNoMore v w a → has_duty (agent_duties v) a ≡ true →
    has_duty (agent_duties w) a ≡ true
had-duty v w a shows has =
    let d = first-has (agent_duties v a) has in some-duty (agent_duties w a) d.0 (no-new-duty v w a d.0 shows d.1)

-- Whether an agent wants a message.

pub wants-parts : (w : World) (a : NodeAgent) → wants_message w a ≡ true →
    (is_mode_on a.mode ≡ true) × (is_session_live w.tables a.node ≡ true) × (is_told w a.node ≡ true)
wants-parts w a wants =
    let outer = both_are (is_mode_on a.mode && is_session_live w.tables a.node) (is_told w a.node) wants in
    let inner = both_are (is_mode_on a.mode) (is_session_live w.tables a.node) outer.0 in (inner.0, inner.1, outer.1)

pub wants-both : (w : World) (a : NodeAgent) → is_mode_on a.mode ≡ true → is_session_live w.tables a.node ≡ true →
    is_told w a.node ≡ true → wants_message w a ≡ true
wants-both w a on live told =
    both (is_mode_on a.mode && is_session_live w.tables a.node) (is_told w a.node)
    (both (is_mode_on a.mode) (is_session_live w.tables a.node) on live) told

-- one that wants a message wanted one
pub had-message : (v w : World) (a : NodeAgent) → ShowsNoMore v w a → wants_message v a ≡ true → wants_message w a ≡ true
had-message v w a shows wants =
    let is = wants-parts v a wants in
    wants-both w a is.0 (sym (live-same v w a shows) ∙ is.1) (shows.message is.2)

-- and has a duty: to pull it, or to apply another one
pub wants-duty : (w : World) (a : NodeAgent) → wants_message w a ≡ true → has_duty (agent_duties w) a ≡ true
wants-duty w a wants =
    let is = wants-parts w a wants in
    let live = is_session_live w.tables a.node in
    let d = some-inbox live a.inbox is.1 is.2 in
    let told = inbox_duties w a live a.inbox in
    let steps = duty_where (has_step w.tables.clock) (λ (e : Executor). duty.Exec a.node e.task) a.executors in
    let forgets = duty_where is_forgotten (λ (e : Executor). duty.Forget a.node e.task) a.executors in
    let first = session_duties w a live ++ told in
    ap (λ b. is_some (first_of (cond b (duties_on w a live) []))) is.0
    ∙ some-duty (duties_on w a live) d.0
    (Has-append_left (first ++ steps ++ report_duties w a live) forgets d.0
    (Has-append_left (first ++ steps) (report_duties w a live) d.0
    (Has-append_left first steps d.0 (Has-append_right (session_duties w a live) told d.0 d.1))))
  where
    some-inbox : (live : Bool) (o : Option Message) → live ≡ true → is_told w a.node ≡ true →
        (d : Duty) × Has (inbox_duties w a live o) d
    some-inbox live (Some m) on told = (duty.Apply a.node, inl refl)
    some-inbox live None on told =
        (duty.Pull a.node, to_when (live && is_told w a.node) (duty.Pull a.node) (both live (is_told w a.node) on told))

-- What is seen of an agent alone.

-- a test that sees no more than an agent is shown
abbrev pub IsShown : (World → NodeAgent → Bool) → Type 0
IsShown test = (v w : World) (a : NodeAgent) → ShowsNoMore v w a → test v a ≡ true → test w a ≡ true

abbrev pub is_busy : World → NodeAgent → Bool
is_busy w a = has_duty (agent_duties w) a
