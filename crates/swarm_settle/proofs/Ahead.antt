-- An executor is at least ACCEPTED, and what it reported is at most its state and at most its task's.
use Rattle.std.proofs.Common.{Bool, Err, List, None, Ok, Option, Result, Some, [], arith, cond, false, inl, length, nat_lt, refl, subst, sym, true, ℕ, ◌+◌, ◌≡◌, ◌≤◌}
use Rattle.std.proofs.lemmas.Bool.Decides.{nat_tests}
use Rattle.std.specs.Prelude.{nat_le, not}
use Rattle.swarm_model.proofs.Base.Answers.{OnGiven, given-found, given-if, given-if_not, given-unless, given-unless_some, ops-keep}
use Rattle.swarm_model.proofs.Base.FromLists.{IsDuty-due}
use Rattle.swarm_model.proofs.Base.Histories.{room_duty}
use Rattle.swarm_model.proofs.Laws.GivesOut.{GivesOut}
use Rattle.swarm_model.proofs.Moves.Worlds.{IsOrderly, Moves}
use Rattle.swarm_model.specs.Calls.Faults.{on_agent}
use Rattle.swarm_model.specs.Calls.Networks.{remove_network}
use Rattle.swarm_model.specs.Calls.Nodes.{remove_node, update_node}
use Rattle.swarm_objects.specs.NewRows.{respecified_node}
use Rattle.swarm_model.specs.Calls.Operations.{apply_op, apply_ops}
use Rattle.swarm_model.specs.Calls.Refusals.{conflict, found as found_row, network_by, node_by, service_by}
use Rattle.swarm_model.specs.Calls.Remote.{begin_with, given_or, on_remote, on_session, pulled, report}
use Rattle.swarm_objects.specs.Nodes.Admission.{not_admitted}
use Rattle.swarm_model.specs.Calls.Services.{go_back, remove_service, rollback_service, update_service}
use Rattle.swarm_model.specs.Calls.Views.{View, shows}
use Rattle.swarm_model.specs.Calls.Watches.{polled, told_at, waiting_events, watch_finish, watch_poll, without_watcher}
use Rattle.swarm_model.specs.Calls.{answer, answered, txn_answer, viewed}
use Rattle.swarm_model.specs.History.{IsLegal, may_follow, replay, step}
use Rattle.swarm_model.specs.Outcome.{Answered}
use Rattle.swarm_objects.proofs.RowLemmas.{Has-filter_cases}
use Rattle.swarm_objects.specs.Agents.Messages.{message_for}
use Rattle.swarm_objects.specs.Limits.{most_events, most_ops}
use Rattle.swarm_objects.specs.Loops.Agents.{change_agent}
use Rattle.swarm_objects.specs.Nodes.Sessions.{session_of}
use Rattle.swarm_objects.specs.Rows.{Has, drop_row, row_at, task_id, watcher_id}
use Rattle.swarm_objects.specs.Values.Ranks.{rank}
use Rattle.swarm_objects.specs.World.{Tables, World, empty_world}
use Rattle.swarm_objects.specs.declared.agents.NodeAgent.{NodeAgent}
use Rattle.swarm_objects.specs.declared.calls.Call.TheVariants as call
use Rattle.swarm_objects.specs.declared.calls.Call.{Call}
use Rattle.swarm_objects.specs.declared.calls.Entry.{Entry}
use Rattle.swarm_objects.specs.declared.calls.Op.TheVariants as op
use Rattle.swarm_objects.specs.declared.calls.Op.{Op}
use Rattle.swarm_objects.specs.declared.calls.What.TheVariants as what
use Rattle.swarm_objects.specs.declared.calls.What.{What}
use Rattle.swarm_objects.specs.declared.ids.Kind.TheVariants as kind
use Rattle.swarm_objects.specs.declared.messages.Message.{Message}
use Rattle.swarm_objects.specs.declared.networks.Network.{Network}
use Rattle.swarm_objects.specs.declared.nodes.Node.{Node}
use Rattle.swarm_objects.specs.declared.replies.Refusal.TheVariants as refusal
use Rattle.swarm_objects.specs.declared.replies.Refusal.{Refusal}
use Rattle.swarm_objects.specs.declared.replies.Reply.TheVariants as reply
use Rattle.swarm_objects.specs.declared.replies.Reply.{Reply}
use Rattle.swarm_objects.specs.declared.replies.Wanted.TheVariants as wanted_by
use Rattle.swarm_objects.specs.declared.services.Service.{Service}
use Rattle.swarm_objects.specs.declared.services.ServiceSpec.{ServiceSpec}
use Rattle.swarm_objects.specs.declared.tasks.Task.{Task}
use Rattle.swarm_objects.specs.declared.tasks.TaskState.TheVariants as state
use Rattle.swarm_objects.specs.declared.tasks.TaskState.{TaskState}
use Rattle.swarm_objects.specs.declared.watches.Event.{Event}
use Rattle.swarm_objects.specs.declared.watches.Watcher.{Watcher}
use Rattle.std.proofs.Common.{ap, eqb, inr, ltb, ◌<◌, ◌∙◌, ◌∷◌, ◌⊎◌}
use Rattle.std.specs.List.{list_any}
use Rattle.std.specs.Prelude.{fold, ⊤, ◌&&◌}
use Rattle.swarm_settle.proofs.Closings.{by-last}
use Rattle.swarm_settle.proofs.Known.{Known, known-replay}
use Rattle.swarm_settle.proofs.ShapeDuties.{found}
use Rattle.swarm_settle.specs.Agents.{AreAhead, IsAhead, ReportLaw}
use Rattle.swarm_model.proofs.Base.Histories.{replay-snoc}
use Rattle.swarm_model.proofs.Laws.Orderly.{step-moves}
use Rattle.swarm_model.proofs.Moves.EachDuty.{duty-moves}
use Rattle.swarm_model.proofs.Laws.Prefixes.{each-prefix}
use Rattle.swarm_model.proofs.Laws.Timely.{each-changed, each-pushed, each-with_row}
use Rattle.swarm_model.proofs.Moves.Rows.{becomes-cases, between-has}
use Rattle.swarm_model.proofs.Moves.Worlds.{TaskMoves}
use Rattle.swarm_objects.specs.Agents.NodeAgents.{failed_agent, lost}
use Rattle.swarm_objects.specs.Agents.NodeAgents.{new_agent}
use Rattle.swarm_model.specs.Calls.Nodes.{with_agent_if}
use Rattle.swarm_objects.proofs.RowLemmas.{Has-map_cases}
use Rattle.swarm_objects.proofs.Tests.{never-both}
use Rattle.swarm_objects.specs.Agents.Executors.{at_time, ending, executor_step, exited, is_late, is_to_go, moved, prepared, wants_to_stop}
use Rattle.swarm_objects.specs.Agents.Messages.{applied, apply_change, change_executor, gone_executor, left_out, names, new_executor}
use Rattle.swarm_objects.specs.Duties.{effect_by}
use Rattle.swarm_objects.specs.Loops.Agents.{after_pull, begun, executor_at, received, stepped, take_in, told}
use Rattle.swarm_objects.specs.Changes.{change_task, in_state, raised_to}
use Rattle.swarm_objects.specs.Loops.Agents.{reported_by}
use Rattle.swarm_objects.specs.Rows.{agent_node, change_row, executor_task, has_row, on_row, with_row}
use Rattle.swarm_objects.specs.declared.agents.Executor.{Executor}
use Rattle.swarm_objects.specs.declared.duties.Duty.TheVariants as duty
use Rattle.swarm_objects.specs.declared.duties.Duty.{Duty}
use Rattle.swarm_objects.specs.declared.messages.AssignChange.TheVariants as assign
use Rattle.swarm_objects.specs.declared.messages.AssignChange.{AssignChange}
use Rattle.swarm_objects.specs.declared.messages.Assigned.{Assigned}
use Rattle.swarm_objects.specs.declared.templates.End.TheVariants as end
use Rattle.swarm_objects.specs.declared.templates.End.{End}

-- Steps of executors only raise states.

abbrev Raises : Executor → Executor → Type 0
Raises e f = (f.task ≡ e.task) × (f.reported ≡ e.reported) × (rank e.state ≤ rank f.state)

raises-same : (e : Executor) → Raises e e
raises-same e = (refl, refl, omega arith)

raises-moved : (clock : ℕ) (s : TaskState) (e : Executor) → rank e.state ≤ rank s → Raises e (moved clock s e)
raises-moved clock s e up = (refl, refl, up)

abbrev Steps : Executor → Option Executor → Type 0
Steps e None = ⊤
Steps e (Some f) = Raises e f

timed : (e : Executor) (clock time : ℕ) (f : Executor) → Raises e f → Steps e (at_time clock time f)
timed e clock time f r = go (nat_le time clock)
  where
    go : (b : Bool) → Steps e (cond b (Some f) None)
    go true = r
    go false = tt

either-step : (e f : Executor) (b : Bool) (o : Option Executor) → Raises e f → Steps e o → Steps e (cond b (Some f) o)
either-step e f true o r s = r
either-step e f false o r s = s

maybe-step : (e f : Executor) (b : Bool) → Raises e f → Steps e (cond b (Some f) None)
maybe-step e f true r = r
maybe-step e f false r = tt

abbrev in-state : Executor → TaskState → Option ℕ → Executor
in-state e s o = record e { state = s; stopping = o }

prepared-up : (x : End) → rank state.Ready ≤ rank (prepared x)
prepared-up end.Never = omega arith
prepared-up (end.Exit t c) = omega arith
prepared-up end.Reject = omega arith

exited-up : (code : ℕ) → rank state.Running ≤ rank (exited code)
exited-up code = go (eqb code 0)
  where
    go : (b : Bool) → rank state.Running ≤ rank (cond b state.Complete state.Failed)
    go true = omega arith
    go false = omega arith

ends : (clock : ℕ) (e : Executor) (x : End) → rank e.state ≤ rank state.Running → Steps e (ending clock e x)
ends clock e end.Never up = tt
ends clock e (end.Exit time code) up =
    timed e clock (e.since + time) (moved clock (exited code) e)
    (raises-moved clock (exited code) e (omega (arith, up, exited-up code)))
ends clock e end.Reject up = tt

step-raises : (clock : ℕ) (e : Executor) (s : TaskState) (o : Option ℕ) →
    Steps (in-state e s o) (executor_step clock (in-state e s o))
step-raises clock e state.Accepted o =
    either-step (in-state e state.Accepted o) _ (wants_to_stop (in-state e state.Accepted o)) _
    (raises-moved clock state.Shutdown (in-state e state.Accepted o) (omega arith))
    (raises-moved clock state.Preparing (in-state e state.Accepted o) (omega arith))
step-raises clock e state.Preparing o =
    either-step (in-state e state.Preparing o) _ (wants_to_stop (in-state e state.Preparing o)) _
    (raises-moved clock state.Shutdown (in-state e state.Preparing o) (omega arith))
    (timed (in-state e state.Preparing o) clock (e.since + e.workload.prepare) _
    (raises-moved clock (prepared e.workload.end) (in-state e state.Preparing o)
    (omega (arith, prepared-up e.workload.end))))
step-raises clock e state.Ready o =
    either-step (in-state e state.Ready o) _ (wants_to_stop (in-state e state.Ready o)) _
    (raises-moved clock state.Shutdown (in-state e state.Ready o) (omega arith))
    (maybe-step (in-state e state.Ready o) _ (is_to_go e.desired)
    (raises-moved clock state.Starting (in-state e state.Ready o) (omega arith)))
step-raises clock e state.Starting (Some time) =
    timed (in-state e state.Starting (Some time)) clock time _
    (raises-moved clock state.Shutdown (in-state e state.Starting (Some time)) (omega arith))
step-raises clock e state.Starting None =
    either-step (in-state e state.Starting None) _ (wants_to_stop (in-state e state.Starting None)) _
    (refl, refl, omega arith)
    (timed (in-state e state.Starting None) clock (e.since + e.workload.start) _
    (raises-moved clock state.Running (in-state e state.Starting None) (omega arith)))
step-raises clock e state.Running (Some time) =
    timed (in-state e state.Running (Some time)) clock time _
    (raises-moved clock state.Shutdown (in-state e state.Running (Some time)) (omega arith))
step-raises clock e state.Running None =
    either-step (in-state e state.Running None) _ (wants_to_stop (in-state e state.Running None)) _
    (refl, refl, omega arith) (ends clock (in-state e state.Running None) e.workload.end (omega arith))
step-raises clock e state.New o = tt
step-raises clock e state.Pending o = tt
step-raises clock e state.Assigned o = tt
step-raises clock e state.Complete o = tt
step-raises clock e state.Shutdown o = tt
step-raises clock e state.Failed o = tt
step-raises clock e state.Rejected o = tt
step-raises clock e state.Remove o = tt
step-raises clock e state.Orphaned o = tt

stepped-raises : (clock : ℕ) (e : Executor) → Raises e (stepped clock e)
stepped-raises clock e = go (executor_step clock e) (step-raises clock e e.state e.stopping)
  where
    go : (o : Option Executor) → Steps e o → Raises e (on_row e (λ after. after) o)
    go None s = raises-same e
    go (Some f) s = s

late-up : (s : TaskState) → is_late s ≡ true → rank s ≤ rank state.Failed
late-up s e = let most : rank s ≤ rank state.Running = grind (arith, nat_tests, e) in omega (arith, most)

lost-raises : (clock : ℕ) (e : Executor) → Raises e (lost clock e)
lost-raises clock e = go (is_late e.state) refl
  where
    go : (b : Bool) → is_late e.state ≡ b → Raises e (cond b (moved clock state.Failed e) e)
    go true q = raises-moved clock state.Failed e (late-up e.state q)
    go false q = raises-same e

-- What is ahead stays so.

raised-ahead : (t : Tables) (e f : Executor) → Raises e f → IsAhead t e → IsAhead t f
raised-ahead t e f r is = record {
  accepted = omega (arith, is.accepted, r.2);
  reported = λ s at.
      let old = is.reported s (sym r.1 ∙ at) in
      (omega (arith, old.0, r.2), λ x h same. old.1 x h (same ∙ r.0));
}

new-ahead : (t : Tables) (clock : ℕ) (a : Assigned) → IsAhead t (new_executor clock a)
new-ahead t clock a = record {
  accepted = omega arith;
  reported = λ s at. absurd (let wrong : None ≡ Some s = at in cc);
}

abbrev Each : Tables → List Executor → Type 0
Each t es = (e : Executor) → Has es e → IsAhead t e

changed-each : (t : Tables) (task : ℕ) (f : Executor → Executor) (es : List Executor) →
    ((e : Executor) → Raises e (f e)) → Each t es → Each t (change_executor task f es)
changed-each t task f es raises is =
    each-changed (IsAhead t) executor_task task f es is (λ e h k. raised-ahead t e (f e) (raises e) (is e h))

heard-each : (t : Tables) (clock : ℕ) (c : AssignChange) (es : List Executor) → Each t es →
    Each t (apply_change clock es c)
heard-each t clock (assign.Remove task) es is =
    changed-each t task gone_executor es (λ e. (refl, refl, omega arith)) is
heard-each t clock (assign.Update a) es is = go (has_row executor_task a.task es)
  where
    go : (b : Bool) →
        Each t (cond b (change_executor a.task (λ e. record e { desired = a.desired }) es)
        (with_row executor_task (new_executor clock a) es))
    go true =
        changed-each t a.task (λ e. record e { desired = a.desired }) es (λ e. (refl, refl, omega arith)) is
    go false = each-with_row (IsAhead t) executor_task (new_executor clock a) es is (new-ahead t clock a)

all-heard : (t : Tables) (clock : ℕ) (cs : List AssignChange) (es : List Executor) → Each t es →
    Each t (fold (apply_change clock) es cs)
all-heard t clock [] es is = is
all-heard t clock (c ∷ cs) es is = all-heard t clock cs (apply_change clock es c) (heard-each t clock c es is)

applied-each : (t : Tables) (clock : ℕ) (m : Message) (es : List Executor) → Each t es → Each t (applied clock m es)
applied-each t clock m es is e h =
    let from = Has-map_cases (left_out m) (fold (apply_change clock) es m.changes) e h in
    subst (IsAhead t) from.2
    (go from.0 (all-heard t clock m.changes es is from.0 from.1)
    (m.complete && not (list_any (names from.0.task) m.changes)))
  where
    go : (x : Executor) → IsAhead t x → (b : Bool) → IsAhead t (cond b (gone_executor x) x)
    go x k true = raised-ahead t x (gone_executor x) (refl, refl, omega arith) k
    go x k false = k

abbrev AllAhead : Tables → List NodeAgent → Type 0
AllAhead t agents = (a : NodeAgent) → Has agents a → Each t a.executors

-- one agent is changed
agent-ahead : (t : Tables) (node : ℕ) (f : NodeAgent → NodeAgent) (agents : List NodeAgent) →
    ((a : NodeAgent) → Has agents a → Each t a.executors → Each t (f a).executors) → AllAhead t agents →
    AllAhead t (change_row agent_node node f agents)
agent-ahead t node f agents each is =
    each-changed (λ (a : NodeAgent). Each t a.executors) agent_node node f agents is (λ a h e. each a h (is a h))

-- the tasks of a later world are further
moved-ahead : (w v : World) (e : Executor) → IsOrderly w → Moves w v → e.task < w.tables.next_id →
    IsAhead w.tables e → IsAhead v.tables e
moved-ahead w v e orderly moves below is = record {
  accepted = is.accepted;
  reported = λ s at.
      let old = is.reported s at in (
        old.0,
        λ y h same. go s old.1 y same
            (becomes-cases TaskMoves moves.tables.tasks.more w.tables.tasks v.tables.tasks moves.tables.tasks.rows y h),
      );
}
  where
    go : (s : TaskState) → ((x : Task) → Has w.tables.tasks x → x.id ≡ e.task → rank s ≤ rank x.state) → (y : Task) →
        y.id ≡ e.task → ((x : Task) × Has w.tables.tasks x × TaskMoves x y) ⊎ Has moves.tables.tasks.more y →
        rank s ≤ rank y.state
    go s old y same (inl r) =
        let before = old r.0 r.1 (sym r.2.id ∙ same) in omega (arith, before, r.2.rises.state)
    go s old y same (inr new) =
        let above = between-has task_id w.tables.next_id v.tables.next_id moves.tables.tasks.more y
        moves.tables.tasks.fresh new in
        absurd (omega (arith, above.0, same, below))

all-moved : (w v : World) → IsOrderly w → GivesOut w → Moves w v → AllAhead w.tables w.agents →
    AllAhead v.tables w.agents
all-moved w v orderly gives moves is a h e k =
    moved-ahead w v e orderly moves ((gives.agents a h).executors.given e k).below (is a h e k)

-- Duties.

task-raised : (n clock : ℕ) (s : TaskState) (x : Task) → rank s ≤ rank (raised_to n clock s x).state
task-raised n clock s x = go (ltb (rank x.state) (rank s)) refl
  where
    go : (b : Bool) → ltb (rank x.state) (rank s) ≡ b → rank s ≤ rank (cond b (in_state n clock s x) x).state
    go true e = omega arith
    go false e = grind (arith, nat_tests, e)

told-ahead : (n : ℕ) (w : World) (node task : ℕ) (a : NodeAgent) (e : Executor) → IsOrderly w → GivesOut w →
    Has w.agents a → a.node ≡ node → Has a.executors e → e.task ≡ task →
    IsAhead (effect_by n w (duty.Report node task)).tables e →
    IsAhead (effect_by n w (duty.Report node task)).tables (told e)
told-ahead n w node task a e orderly gives ha at he et is = record {
  accepted = is.accepted;
  reported = λ s q.
      let same : e.state ≡ s = cc in (
        subst (λ (z : TaskState). rank z ≤ rank e.state) same (omega arith),
        λ y h number. subst (λ (z : TaskState). rank z ≤ rank y.state) same (up y h number),
      );
}
  where
    found_agent : row_at agent_node node w.agents ≡ Some a
    found_agent =
        found agent_node w.tables.next_id node w.agents (λ b. ⊤) orderly.agents
        (record { row = a; there = ha; id_is = at; fact = tt })

    found_executor : row_at executor_task task a.executors ≡ Some e
    found_executor =
        found executor_task w.tables.next_id task a.executors (λ f. ⊤) (gives.agents a ha).executors.rises
        (record { row = e; there = he; id_is = et; fact = tt })

    by : executor_at w node task ≡ Some e
    by =
        ap (λ (o : Option NodeAgent). on_row None (λ b. row_at executor_task task b.executors) o) found_agent
        ∙ found_executor

    tables_are : (effect_by n w (duty.Report node task)).tables
        ≡ change_task e.task (raised_to n w.tables.clock e.state) w.tables
    tables_are = ap (λ (o : Option Executor). reported_by n w o) by

    up : (y : Task) → Has (effect_by n w (duty.Report node task)).tables.tasks y → y.id ≡ e.task →
        rank e.state ≤ rank y.state
    up y h number =
        let here : Has (change_row task_id e.task (raised_to n w.tables.clock e.state) w.tables.tasks) y =
        subst (λ (t : Tables). Has t.tasks y) tables_are h in
        let from = Has-map_cases (λ x. cond (eqb (task_id x) e.task) (raised_to n w.tables.clock e.state x) x)
        w.tables.tasks y here in
        subst (λ (z : Task). rank e.state ≤ rank z.state) from.2
        (go from.0 (eqb (task_id from.0) e.task) refl (ap task_id from.2 ∙ number))
      where
        go : (x : Task) (b : Bool) → eqb (task_id x) e.task ≡ b →
            task_id (cond b (raised_to n w.tables.clock e.state x) x) ≡ e.task →
            rank e.state ≤ rank (cond b (raised_to n w.tables.clock e.state x) x).state
        go x true q r = task-raised n w.tables.clock e.state x
        go x false q r = never-both (eqb (task_id x) e.task) q (grind (arith, nat_tests, r))

take-each : (t : Tables) (clock : ℕ) (o : Option Message) (a : NodeAgent) → Each t a.executors →
    Each t (take_in clock o a).executors
take-each t clock None a is = is
take-each t clock (Some m) a is = applied-each t clock m a.executors is

duty-ahead : (n : ℕ) (w : World) (d : Duty) → IsOrderly w → GivesOut w → Moves w (effect_by n w d) →
    AllAhead w.tables w.agents → AllAhead (effect_by n w d).tables (effect_by n w d).agents
duty-ahead n w (duty.Register m) is gives moves ahead =
    agent-ahead (effect_by n w (duty.Register m)).tables m begun w.agents (λ a h k. k)
    (all-moved w (effect_by n w (duty.Register m)) is gives moves ahead)
duty-ahead n w (duty.Apply m) is gives moves ahead =
    agent-ahead w.tables m (λ a. take_in w.tables.clock a.inbox a) w.agents
    (λ a h k. take-each w.tables w.tables.clock a.inbox a k) ahead
duty-ahead n w (duty.Pull m) is gives moves ahead = pulled_by (message_for w m)
  where
    pulled_by : (o : Option Message) → AllAhead (after_pull w m o).tables (after_pull w m o).agents
    pulled_by None = ahead
    pulled_by (Some message) = agent-ahead w.tables m (received message) w.agents (λ a h k. k) ahead
duty-ahead n w (duty.Exec m x) is gives moves ahead =
    agent-ahead w.tables m (λ a. record a { executors = change_executor x (stepped w.tables.clock) a.executors })
    w.agents
    (λ a h k. changed-each w.tables x (stepped w.tables.clock) a.executors (stepped-raises w.tables.clock) k) ahead
duty-ahead n w (duty.Report m x) is gives moves ahead =
    each-changed (λ (a : NodeAgent). Each (effect_by n w (duty.Report m x)).tables a.executors) agent_node m
    (λ a. record a { executors = change_executor x told a.executors }) w.agents further
    (λ a h at.
    each-changed (IsAhead (effect_by n w (duty.Report m x)).tables) executor_task x told a.executors (further a h)
    (λ e k et. told-ahead n w m x a e is gives h at k et (further a h e k)))
  where
    further : AllAhead (effect_by n w (duty.Report m x)).tables w.agents
    further = all-moved w (effect_by n w (duty.Report m x)) is gives moves ahead
duty-ahead n w (duty.Forget m x) is gives moves ahead =
    agent-ahead w.tables m (λ a. record a { executors = drop_row executor_task x a.executors }) w.agents
    (λ a h k e j. k e (Has-filter_cases _ a.executors e j).0) ahead
duty-ahead n w (duty.Expire m) is gives moves ahead = all-moved w _ is gives moves ahead
duty-ahead n w (duty.Orphan x) is gives moves ahead = all-moved w _ is gives moves ahead
duty-ahead n w (duty.Reject x) is gives moves ahead = all-moved w _ is gives moves ahead
duty-ahead n w (duty.Restart x) is gives moves ahead = all-moved w _ is gives moves ahead
duty-ahead n w (duty.Raise x) is gives moves ahead = all-moved w _ is gives moves ahead
duty-ahead n w (duty.Start s) is gives moves ahead = all-moved w _ is gives moves ahead
duty-ahead n w (duty.Fail s) is gives moves ahead = all-moved w _ is gives moves ahead
duty-ahead n w (duty.Swap s k) is gives moves ahead = all-moved w _ is gives moves ahead
duty-ahead n w (duty.Replace s k) is gives moves ahead = all-moved w _ is gives moves ahead
duty-ahead n w (duty.Finish s) is gives moves ahead = all-moved w _ is gives moves ahead
duty-ahead n w (duty.Gone x) is gives moves ahead = all-moved w _ is gives moves ahead
duty-ahead n w (duty.Down s k) is gives moves ahead = all-moved w _ is gives moves ahead
duty-ahead n w (duty.ReplicatedCreate s k) is gives moves ahead = all-moved w _ is gives moves ahead
duty-ahead n w (duty.Leave s k) is gives moves ahead = all-moved w _ is gives moves ahead
duty-ahead n w (duty.GlobalCreate s k) is gives moves ahead = all-moved w _ is gives moves ahead
duty-ahead n w (duty.Old x) is gives moves ahead = all-moved w _ is gives moves ahead
duty-ahead n w (duty.JobCreate s k) is gives moves ahead = all-moved w _ is gives moves ahead
duty-ahead n w (duty.Port s target udp) is gives moves ahead = all-moved w _ is gives moves ahead
duty-ahead n w (duty.Address x) is gives moves ahead = all-moved w _ is gives moves ahead
duty-ahead n w (duty.Note x) is gives moves ahead = all-moved w _ is gives moves ahead
duty-ahead n w (duty.Drop x) is gives moves ahead = all-moved w _ is gives moves ahead
duty-ahead n w (duty.Place x m) is gives moves ahead = all-moved w _ is gives moves ahead
duty-ahead n w (duty.Explain x) is gives moves ahead = all-moved w _ is gives moves ahead
duty-ahead n w (duty.Delete x) is gives moves ahead = all-moved w _ is gives moves ahead
duty-ahead n w (duty.Trim x) is gives moves ahead = all-moved w _ is gives moves ahead
duty-ahead n w (duty.Beat m) is gives moves ahead = all-moved w _ is gives moves ahead

-- Calls: each executor is one that was there, raised or not.

pub record ComesRaised (agents : List NodeAgent) (f : Executor) : Type 0 where
  pub agent : NodeAgent
  pub there : Has agents agent
  pub executor : Executor
  pub held : Has agent.executors executor
  pub raises : Raises executor f

abbrev AgentsFrom : World → World → Type 0
AgentsFrom w v = (a : NodeAgent) → Has v.agents a → (f : Executor) → Has a.executors f → ComesRaised w.agents f

from-same : (w v : World) → v.agents ≡ w.agents → AgentsFrom w v
from-same w v e a h f k = record {
  agent = a;
  there = subst (λ (as_are : List NodeAgent). Has as_are a) e h;
  executor = f;
  held = k;
  raises = raises-same f;
}

op-from : (n : ℕ) (w v : World) (o : Op) → AgentsFrom w v → OnGiven (λ (d : World × ℕ). AgentsFrom w d.0)
    (apply_op n v o)
op-from n w v (op.CreateNode name draft) is =
    given-unless (λ (d : World × ℕ). AgentsFrom w d.0) _ _
    (λ e. go (not draft.remote))
  where
    go : (b : Bool) → (a : NodeAgent) → Has (with_agent_if b v.tables.next_id v.agents) a → (f : Executor) →
        Has a.executors f → ComesRaised w.agents f
    go true =
        each-pushed (λ (a : NodeAgent). (f : Executor) → Has a.executors f → ComesRaised w.agents f) v.agents
        (new_agent v.tables.next_id) is (λ f k. absurd k)
    go false = is
op-from n w v (op.UpdateNode name asked labels r a) is =
    given-found (λ (d : World × ℕ). AgentsFrom w d.0) kind.Node (wanted_by.Name name) (node_by v.tables name)
    (λ m. update_node v asked m (respecified_node n labels r a m))
    (λ (m : Node) e. given-unless (λ (d : World × ℕ). AgentsFrom w d.0) _ _ (λ ok. is))
op-from n w v (op.RemoveNode name force) is =
    given-found (λ (d : World × ℕ). AgentsFrom w d.0) kind.Node (wanted_by.Name name) (node_by v.tables name)
    (remove_node n v force)
    (λ (m : Node) e. given-unless (λ (d : World × ℕ). AgentsFrom w d.0) _ _
    (λ ok a h. is a (Has-filter_cases _ v.agents a h).0))
op-from n w v (op.CreateService name d) is = given-unless (λ (d : World × ℕ). AgentsFrom w d.0) _ _ (λ e. is)
op-from n w v (op.UpdateService name asked d) is =
    given-found (λ (d : World × ℕ). AgentsFrom w d.0) kind.Service (wanted_by.Name name) (service_by v.tables name)
    (update_service n v asked d)
    (λ (s : Service) e. given-unless (λ (d : World × ℕ). AgentsFrom w d.0) _ _ (λ ok. is))
op-from n w v (op.RemoveService name) is =
    given-found (λ (d : World × ℕ). AgentsFrom w d.0) kind.Service (wanted_by.Name name) (service_by v.tables name)
    (remove_service v) (λ (s : Service) e. is)
op-from n w v (op.RollbackService name asked) is =
    given-found (λ (d : World × ℕ). AgentsFrom w d.0) kind.Service (wanted_by.Name name) (service_by v.tables name)
    (rollback_service n v asked)
    (λ (s : Service) e. given-unless_some (λ (d : World × ℕ). AgentsFrom w d.0) (conflict asked s.version) _
    (λ ok. back s s.previous))
  where
    back : (s : Service) (o : Option ServiceSpec) → OnGiven (λ (d : World × ℕ). AgentsFrom w d.0) (go_back n v s o)
    back s None = tt
    back s (Some spec) = is
op-from n w v (op.CreateNetwork name base bits) is = given-unless (λ (d : World × ℕ). AgentsFrom w d.0) _ _ (λ e. is)
op-from n w v (op.RemoveNetwork name) is =
    given-found (λ (d : World × ℕ). AgentsFrom w d.0) kind.Network (wanted_by.Name name) (network_by v.tables name)
    (remove_network v)
    (λ (m : Network) e. given-unless (λ (d : World × ℕ). AgentsFrom w d.0) _ _ (λ ok. is))
op-from n w v (op.SetCluster settings) is = given-unless (λ (d : World × ℕ). AgentsFrom w d.0) _ _ (λ e. is)

abbrev CallFrom : World → Answered → Type 0
CallFrom w given = OnGiven (λ (d : Reply × World). AgentsFrom w d.1) given

still : (w : World) → AgentsFrom w w
still w = from-same w w refl

txn-from : (n : ℕ) (w : World) (ops : List Op) → CallFrom w (answer n w (call.Txn ops))
txn-from n w ops =
    given-if_not (λ (d : Reply × World). AgentsFrom w d.1) (nat_lt most_ops (length ops)) _ _
    (λ e. go (apply_ops n ops w []) (ops-keep (AgentsFrom w) n (λ v o is. op-from n w v o is) ops w [] (still w)))
  where
    go : (given : Result (World × List ℕ) Refusal) → OnGiven (λ (d : World × List ℕ). AgentsFrom w d.0) given →
        CallFrom w (txn_answer given)
    go (Ok d) holds = holds
    go (Err r) holds = tt

polled-from : (entry : ℕ) (w : World) (id : ℕ) (events : List Event) → AgentsFrom w (polled entry w id events).1
polled-from entry w id events = go (nat_lt most_events (length events))
  where
    go : (lagged : Bool) → AgentsFrom w (cond {A = Reply × World} lagged
        (reply.Refused (refusal.Lagged (length events)), without_watcher id w)
        (reply.Events events, told_at entry id w)).1
    go true = from-same w (without_watcher id w) refl
    go false = from-same w (told_at entry id w) refl

poll-from : (entry : ℕ) (w : World) (id : ℕ) (x : Option Watcher) → CallFrom w (watch_poll entry w id x)
poll-from entry w id None = tt
poll-from entry w id (Some x) = polled-from entry w id (waiting_events w x)

finish-from : (w : World) (id : ℕ) (x : Option Watcher) → CallFrom w (watch_finish w id x)
finish-from w id None = tt
finish-from w id (Some x) = from-same w (without_watcher id w) refl

changed-from : (w : World) (node : ℕ) (g : NodeAgent → NodeAgent) →
    ((a : NodeAgent) → Has w.agents a → (f : Executor) → Has (g a).executors f → ComesRaised w.agents f) →
    AgentsFrom w (change_agent node g w)
changed-from w node g each =
    each-changed (λ (a : NodeAgent). (f : Executor) → Has a.executors f → ComesRaised w.agents f) agent_node node g
    w.agents (still w) (λ a h e. each a h)

agent-from : (w : World) (name : List ℕ) (g : NodeAgent → NodeAgent) →
    ((a : NodeAgent) → Has w.agents a → (f : Executor) → Has (g a).executors f → ComesRaised w.agents f) →
    CallFrom w (on_agent w name g)
agent-from w name g each =
    given-found (λ (d : Reply × World). AgentsFrom w d.1) kind.Node (wanted_by.Name name) (node_by w.tables name)
    (λ n. cond n.remote (Err (refusal.WrongKind n.id)) (Ok (reply.AgentDone n.id, change_agent n.id g w)))
    (λ (n : Node) e. given-if_not (λ (d : Reply × World). AgentsFrom w d.1) n.remote
    (Ok (reply.AgentDone n.id, change_agent n.id g w)) (refusal.WrongKind n.id) (λ k. changed-from w n.id g each))

failed-from : (w : World) (a : NodeAgent) → Has w.agents a → (f : Executor) →
    Has (failed_agent w.tables.clock a).executors f → ComesRaised w.agents f
failed-from w a h f k =
    let from = Has-map_cases (lost w.tables.clock) a.executors f k in
    record {
      agent = a;
      there = h;
      executor = from.0;
      held = from.1;
      raises = subst (λ (z : Executor). Raises from.0 z) from.2 (lost-raises w.tables.clock from.0);
    }

remote-from : (w : World) (name : List ℕ) (next : Node → Answered) → ((n : Node) → CallFrom w (next n)) →
    CallFrom w (on_remote w.tables name next)
remote-from w name next each =
    given-found (λ (d : Reply × World). AgentsFrom w d.1) kind.Node (wanted_by.Name name) (node_by w.tables name)
    (λ n. cond n.remote (next n) (Err (refusal.WrongKind n.id)))
    (λ (n : Node) e. given-if (λ (d : Reply × World). AgentsFrom w d.1) n.remote (next n) (refusal.WrongKind n.id)
    (λ k. each n))

session-from : (w : World) (name : List ℕ) (session : ℕ) (next : Node → Answered) → ((n : Node) → CallFrom w (next n)) →
    CallFrom w (on_session w.tables name session next)
session-from w name session next each =
    remote-from w name
    (λ n. elim (not_admitted w.tables.clock session (session_of w.tables n.id)) [ Some r ↦ Err r | None ↦ next n ])
    (λ n. given-unless_some (λ (d : Reply × World). AgentsFrom w d.1)
    (not_admitted w.tables.clock session (session_of w.tables n.id)) (next n) (λ e. each n))

pulled-from : (w : World) (node : ℕ) (m : Option Message) → AgentsFrom w (pulled w node m)
pulled-from w node None = still w
pulled-from w node (Some m) = still w

view-from : (w : World) (v : View) → CallFrom w (viewed w v)
view-from w (Ok v) = still w
view-from w (Err r) = tt

call-from : (n : ℕ) (w : World) (c : Call) → CallFrom w (answer n w c)
call-from n w (call.Txn ops) = txn-from n w ops
call-from n w (call.View asked) = view-from w (shows w.tables asked)
call-from n w (call.WatchBegin f) = given-unless (λ (d : Reply × World). AgentsFrom w d.1) _ _ (λ e. still w)
call-from n w (call.WatchPoll id) = poll-from n w id (row_at watcher_id id w.watchers)
call-from n w (call.WatchFinish id) = finish-from w id (row_at watcher_id id w.watchers)
call-from n w (call.Tick ms) = given-unless (λ (d : Reply × World). AgentsFrom w d.1) _ _ (λ e. still w)
call-from n w (call.Settle budget) = still w
call-from n w (call.NodeFail name) = agent-from w name (failed_agent w.tables.clock) (failed-from w)
call-from n w (call.NodeStart name) = agent-from w name _ (λ a h f k. still w a h f k)
call-from n w (call.AgentStop name) = agent-from w name _ (λ a h f k. still w a h f k)
call-from n w (call.AgentStart name) = agent-from w name _ (λ a h f k. still w a h f k)
call-from n w (call.RemoteBegin name cpu mem) =
    remote-from w name (λ m. begin_with n w m.id (given_or cpu m.cpu) (given_or mem m.mem))
    (λ m. given-unless (λ (d : Reply × World). AgentsFrom w d.1) _ _ (λ e. still w))
call-from n w (call.RemoteBeat name session) = session-from w name session _ (λ m. still w)
call-from n w (call.RemotePull name session) =
    session-from w name session _ (λ m. pulled-from w m.id (message_for w m.id))
call-from n w (call.RemoteStatus name session task s) =
    session-from w name session
    (λ m. found_row kind.Task (wanted_by.Id task) (row_at task_id task w.tables.tasks) (report n w m.id s))
    (λ m. given-found (λ (d : Reply × World). AgentsFrom w d.1) kind.Task (wanted_by.Id task)
    (row_at task_id task w.tables.tasks) (report n w m.id s)
    (λ (x : Task) e. given-unless (λ (d : Reply × World). AgentsFrom w d.1) _ _ (λ ok. still w)))
call-from n w call.Halt = still w

answered-ahead : (w : World) (given : Answered) → IsOrderly w → GivesOut w → Moves w (answered w given).after →
    CallFrom w given → AllAhead w.tables w.agents →
    AllAhead (answered w given).after.tables (answered w given).after.agents
answered-ahead w (Ok d) orderly gives moves from is = λ a h f k.
    let r = from a h f k in
    raised-ahead d.1.tables r.executor f r.raises
    (all-moved w (answered w (Ok d)).after orderly gives moves is r.agent r.there r.executor r.held)
answered-ahead w (Err r) orderly gives moves from is = is

step-ahead : (w : World) (e : What) → Known w → may_follow w e ≡ true → AllAhead w.tables w.agents →
    AllAhead (step w e).after.tables (step w e).after.agents
step-ahead w (what.Call c) known may is =
    answered-ahead w (answer (w.entries + 1) w c) known.orderly known.gives
    (step-moves w (what.Call c) known.orderly may) (call-from (w.entries + 1) w c) is
step-ahead w (what.Duty d) known may is =
    duty-ahead (w.entries + 1) w d known.orderly known.gives
    (duty-moves (w.entries + 1) w d known.orderly (IsDuty-due w d (room_duty w d may).2)) is

pub ahead-replay : (h : List Entry) → IsLegal h → AreAhead (replay h)
ahead-replay h legal =
    by-last (λ g. AllAhead (replay g).tables (replay g).agents) (λ a k. absurd k)
    (λ g e ok may is.
    subst (λ (w : World). AllAhead w.tables w.agents) (sym (replay-snoc empty_world g e))
    (step-ahead (replay g) e.what (known-replay g ok) may is)) h legal

pub always-ahead : ReportLaw
always-ahead h legal = each-prefix AreAhead ahead-replay h legal
