-- In a quiet world the agents of READY nodes are on and have nothing to do, and their executors run or wait.
use Rattle.std.proofs.Common.{Bool, None, Option, Some, [], ap, cond, false, inl, inr, not, refl, subst, sym, true, ℕ, ◌+◌, ◌∙◌, ◌≡◌}
use Rattle.std.specs.Option.{option_map}
use Rattle.std.specs.Prelude.{flat_map, is_some, ◌&&◌}
use Rattle.swarm_settle.proofs.Rest.{no-duty, no-waits}
use Rattle.swarm_settle.specs.Agents.{IsQuietAgent, QuietAgentsLaw, RunsOrWaits}
use Rattle.swarm_settle.specs.Rest.{IsAtRest, IsQuiet}
use Rattle.swarm_model.proofs.SettleLaws.{no_step}
use Rattle.swarm_model.specs.History.{replay}
use Rattle.swarm_model.specs.Laws.Matches.{is_in_hand}
use Rattle.swarm_model.specs.Settle.{deadline_of, is_silent, phase_wait, wait_till}
use Rattle.swarm_objects.proofs.Empty.{flat_map_empty}
use Rattle.swarm_objects.proofs.RowLemmas.{Has-from_row_at}
use Rattle.swarm_objects.proofs.Tests.{both, false_from_ne_true, not_from_false, some-and, true_from_ne_false}
use Rattle.swarm_objects.specs.Agents.Executors.{executor_step, is_to_go, phase_time, wants_to_stop}
use Rattle.swarm_objects.specs.Agents.Messages.{message_for}
use Rattle.swarm_objects.specs.Loops.Agents.{has_step, is_mode_on, wants_report}
use Rattle.swarm_objects.specs.Nodes.Sessions.{is_before_deadline, is_session_live, session_of}
use Rattle.swarm_objects.specs.Nodes.Words.{is_ready}
use Rattle.swarm_objects.specs.Rows.{Has, agent_node, row_at}
use Rattle.swarm_objects.specs.World.{World}
use Rattle.swarm_objects.specs.declared.agents.Executor.{Executor}
use Rattle.swarm_objects.specs.declared.agents.NodeAgent.{NodeAgent}
use Rattle.swarm_objects.specs.declared.duties.Cause.TheVariants as cause
use Rattle.swarm_objects.specs.declared.duties.Duty.TheVariants as duty
use Rattle.swarm_objects.specs.declared.messages.Message.{Message}
use Rattle.swarm_objects.specs.declared.nodes.Node.{Node}
use Rattle.swarm_objects.specs.declared.sessions.NodeSession.{NodeSession}
use Rattle.swarm_objects.specs.declared.tasks.Desired.TheVariants as desired
use Rattle.swarm_objects.specs.declared.tasks.Desired.{Desired}
use Rattle.swarm_objects.specs.declared.tasks.TaskState.TheVariants as state
use Rattle.swarm_objects.specs.declared.tasks.TaskState.{TaskState}

-- a READY node's session is live
pub ready-live : (w : World) → IsAtRest w → (n : Node) → Has w.tables.nodes n → is_ready n.state ≡ true →
    is_session_live w.tables n.id ≡ true
ready-live w rest n h ready =
    true_from_ne_false (is_session_live w.tables n.id)
    (λ dead.
    no-duty w rest (duty.Expire n.id)
    (record {
      row = n;
      there = h;
      id_is = refl;
      fact = both (is_ready n.state) (not (is_session_live w.tables n.id)) ready
          (not_from_false (is_session_live w.tables n.id) dead);
    }))

-- so it has a deadline
pub deadline-there : (w : World) (id : ℕ) → is_session_live w.tables id ≡ true → ¬ (deadline_of w.tables id ≡ None)
deadline-there w id live none = go (session_of w.tables id) live none
  where
    go : (o : Option NodeSession) → is_before_deadline w.tables.clock o ≡ true →
        ¬ (option_map (λ (s : NodeSession). s.session.deadline) o ≡ None)
    go None live none = absurd cc
    go (Some s) live none = absurd cc

-- its agent is on
agent-on : (w : World) → IsQuiet w → (n : Node) (a : NodeAgent) → Has w.tables.nodes n → is_ready n.state ≡ true →
    n.remote ≡ false → row_at agent_node n.id w.agents ≡ Some a → is_mode_on a.mode ≡ true
agent-on w quiet n a h ready inside at =
    true_from_ne_false (is_mode_on a.mode)
    (λ off.
    let silent : is_silent w n ≡ true =
    both (is_ready n.state && not n.remote) _
    (both (is_ready n.state) (not n.remote) ready (not_from_false n.remote inside))
    (some-and (λ (b : NodeAgent). not (is_mode_on b.mode)) (row_at agent_node n.id w.agents) a at
    (not_from_false (is_mode_on a.mode) off)) in
    let none : wait_till cause.Session n.id (deadline_of w.tables n.id) ≡ [] =
    ap (λ (b : Bool). cond b (wait_till cause.Session n.id (deadline_of w.tables n.id)) []) (sym silent)
    ∙ (no-waits w quiet.1).session n h in
    deadline-there w n.id (ready-live w quiet.0 n h ready) (no-time (deadline_of w.tables n.id) none))
  where
    no-time : (o : Option ℕ) → wait_till cause.Session n.id o ≡ [] → o ≡ None
    no-time None e = refl
    no-time (Some t) e = absurd cc

-- Executors.

abbrev in-state : Executor → TaskState → Option ℕ → Executor
in-state e s o = record e { state = s; stopping = o }

some-not : {X : Type 0} (b : Bool) (x y : X) → ¬ (cond b (Some x) (Some y) ≡ None)
some-not true x y e = absurd cc
some-not false x y e = absurd cc

-- without a step it isn't to stop
keeps-going : {X : Type 0} (b : Bool) (x : X) (o : Option X) → cond b (Some x) o ≡ None → (b ≡ false) × (o ≡ None)
keeps-going true x o e = absurd cc
keeps-going false x o e = (refl, e)

waits-ready : (d : Desired) → is_to_go d ≡ false → d ≡ desired.Ready
waits-ready desired.Ready e = refl
waits-ready desired.Running e = absurd cc
waits-ready desired.Complete e = absurd cc
waits-ready desired.Shutdown e = absurd cc
waits-ready desired.Remove e = absurd cc

no-go : {X : Type 0} (b : Bool) (x : X) → cond b (Some x) None ≡ None → b ≡ false
no-go true x e = absurd cc
no-go false x e = refl

-- a phase that neither stops nor is left
no-phase : (b : Bool) (t : ℕ) → b ≡ false → ¬ (cond b None (Some t) ≡ None)
no-phase true t e k = absurd cc
no-phase false t e k = absurd cc

still-there : (clock : ℕ) (e : Executor) (s : TaskState) (o : Option ℕ) → is_in_hand (in-state e s o) ≡ true →
    executor_step clock (in-state e s o) ≡ None → phase_time (in-state e s o) ≡ None → RunsOrWaits (in-state e s o)
still-there clock e state.Accepted o hand step phase =
    absurd (some-not (wants_to_stop (in-state e state.Accepted o)) _ _ step)
still-there clock e state.Preparing o hand step phase =
    let going = keeps-going (wants_to_stop (in-state e state.Preparing o)) _ _ step in
    absurd (no-phase (wants_to_stop (in-state e state.Preparing o)) (e.since + e.workload.prepare) going.0 phase)
still-there clock e state.Ready o hand step phase =
    let going = keeps-going (wants_to_stop (in-state e state.Ready o)) _ _ step in
    (going.0, inr (refl, waits-ready e.desired (no-go (is_to_go e.desired) _ going.1)))
still-there clock e state.Starting (Some t) hand step phase = absurd cc
still-there clock e state.Starting None hand step phase =
    let going = keeps-going (wants_to_stop (in-state e state.Starting None)) _ _ step in
    absurd (no-phase (wants_to_stop (in-state e state.Starting None)) (e.since + e.workload.start) going.0 phase)
still-there clock e state.Running (Some t) hand step phase = absurd cc
still-there clock e state.Running None hand step phase =
    let going = keeps-going (wants_to_stop (in-state e state.Running None)) _ _ step in (going.0, inl refl)
still-there clock e state.New o hand step phase = absurd cc
still-there clock e state.Pending o hand step phase = absurd cc
still-there clock e state.Assigned o hand step phase = absurd cc
still-there clock e state.Complete o hand step phase = absurd cc
still-there clock e state.Shutdown o hand step phase = absurd cc
still-there clock e state.Failed o hand step phase = absurd cc
still-there clock e state.Rejected o hand step phase = absurd cc
still-there clock e state.Remove o hand step phase = absurd cc
still-there clock e state.Orphaned o hand step phase = absurd cc

quiet-agent : (w : World) → IsQuiet w → (a : NodeAgent) → Has w.agents a → is_mode_on a.mode ≡ true →
    is_session_live w.tables a.node ≡ true → IsQuietAgent w a
quiet-agent w quiet a h on live = record {
  on = on;
  inbox = empty;
  message = unsent (message_for w a.node) refl;
  executors = λ e k hand. still-there w.tables.clock e e.state e.stopping hand (unstepped e k) (untimed e k);
  reports = λ e k.
      false_from_ne_true (wants_report w.tables e)
      (λ wants.
      no-duty w quiet.0 (duty.Report a.node e.task)
      (record {
        row = a;
        there = h;
        id_is = refl;
        fact = (on, (live, record { row = e; there = k; id_is = refl; fact = wants }));
      }));
}
  where
    heard : (o : Option Message) → a.inbox ≡ o → o ≡ None
    heard None e = refl
    heard (Some m) e =
        absurd (no-duty w quiet.0 (duty.Apply a.node)
        (record { row = a; there = h; id_is = refl; fact = (on, (m, e)) }))

    empty : a.inbox ≡ None
    empty = heard a.inbox refl

    unsent : (o : Option Message) → message_for w a.node ≡ o → o ≡ None
    unsent None e = refl
    unsent (Some m) e =
        absurd (no-duty w quiet.0 (duty.Pull a.node)
        (record {
          row = a;
          there = h;
          id_is = refl;
          fact = (on, (live, (empty, ap (λ (o : Option Message). is_some o) e)));
        }))

    unstepped : (e : Executor) → Has a.executors e → executor_step w.tables.clock e ≡ None
    unstepped e k =
        no_step (executor_step w.tables.clock e)
        (false_from_ne_true (has_step w.tables.clock e)
        (λ steps.
        no-duty w quiet.0 (duty.Exec a.node e.task)
        (record {
          row = a;
          there = h;
          id_is = refl;
          fact = (on, record { row = e; there = k; id_is = refl; fact = steps });
        })))

    untimed : (e : Executor) → Has a.executors e → phase_time e ≡ None
    untimed e k =
        let none : flat_map phase_wait a.executors ≡ [] =
        ap (λ (b : Bool). cond b (flat_map phase_wait a.executors) []) (sym on)
        ∙ (no-waits w quiet.1).executor a h in
        timeless (phase_time e) (flat_map_empty phase_wait a.executors e none k)
      where
        timeless : (o : Option ℕ) → wait_till cause.Executor e.task o ≡ [] → o ≡ None
        timeless None q = refl
        timeless (Some t) q = absurd cc

pub quiet-agents : QuietAgentsLaw
quiet-agents h legal quiet n a there ready inside at =
    let row = Has-from_row_at agent_node n.id (replay h).agents a at in
    quiet-agent (replay h) quiet a row.0 (agent-on (replay h) quiet n a there ready inside at)
    (subst (λ (k : ℕ). is_session_live (replay h).tables k ≡ true) (sym row.1)
    (ready-live (replay h) quiet.0 n there ready))
