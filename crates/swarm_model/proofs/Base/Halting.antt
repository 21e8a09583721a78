-- Only Halt halts, and a history keeps within its limit.
use Rattle.std.proofs.Common.{Bool, Err, List, None, Ok, Option, Result, Some, [], arith, cond, false, length, nat_lt, refl, true, ℕ, ◌+◌, ◌∙◌, ◌∷◌, ◌≡◌, ◌≤◌}
use Rattle.swarm_model.proofs.Base.Answers.{OnDone, OnGiven, given-found, given-if, given-if_not, given-is, given-unless, given-unless_some, ops-keep}
use Rattle.swarm_model.proofs.Base.Histories.{entries-call, entries-replay, room_admitted, room_duty}
use Rattle.swarm_model.specs.Calls.Faults.{on_agent}
use Rattle.swarm_model.specs.Calls.Networks.{remove_network}
use Rattle.swarm_model.specs.Calls.Nodes.{remove_node, update_node}
use Rattle.swarm_objects.specs.NewRows.{respecified_node}
use Rattle.swarm_model.specs.Calls.Operations.{apply_op, apply_ops}
use Rattle.swarm_model.specs.Calls.Refusals.{Done, conflict, found, network_by, node_by, service_by}
use Rattle.swarm_model.specs.Calls.Remote.{begin_with, given_or, on_remote, on_session, pulled, remote_status, report}
use Rattle.swarm_objects.specs.Nodes.Admission.{not_admitted}
use Rattle.swarm_model.specs.Calls.Services.{go_back, remove_service, rollback_service, update_service}
use Rattle.swarm_model.specs.Calls.Views.{View, shows}
use Rattle.swarm_model.specs.Calls.Watches.{polled, told_at, waiting_events, watch_finish, watch_poll, without_watcher}
use Rattle.swarm_model.specs.Calls.{answer, answered, call_outcome, txn_answer, viewed}
use Rattle.swarm_model.specs.History.{IsLegal, IsLegalFrom, effect, may_follow, replay, replay_from, step, step_world}
use Rattle.swarm_model.specs.Outcome.{Answered}
use Rattle.swarm_objects.specs.Agents.Messages.{message_for}
use Rattle.swarm_objects.specs.CallWords.{is_halt}
use Rattle.swarm_objects.specs.Limits.{most_events, most_ops}
use Rattle.swarm_objects.specs.Loops.Agents.{after_pull, change_agent}
use Rattle.swarm_objects.specs.Nodes.Sessions.{session_of}
use Rattle.swarm_objects.specs.Rows.{row_at, task_id, watcher_id}
use Rattle.swarm_objects.specs.World.{World, empty_world}
use Rattle.swarm_objects.specs.declared.agents.NodeAgent.{NodeAgent}
use Rattle.swarm_objects.specs.declared.calls.Call.TheVariants as call
use Rattle.swarm_objects.specs.declared.calls.Call.{Call}
use Rattle.swarm_objects.specs.declared.calls.Entry.{Entry}
use Rattle.swarm_objects.specs.declared.calls.Op.TheVariants as op
use Rattle.swarm_objects.specs.declared.calls.Op.{Op}
use Rattle.swarm_objects.specs.declared.calls.What.TheVariants as what
use Rattle.swarm_objects.specs.declared.calls.What.{What}
use Rattle.swarm_objects.specs.declared.duties.Duty.TheVariants as duty
use Rattle.swarm_objects.specs.declared.duties.Duty.{Duty}
use Rattle.swarm_objects.specs.declared.ids.Kind.TheVariants as kind
use Rattle.swarm_objects.specs.declared.messages.Message.{Message}
use Rattle.swarm_objects.specs.declared.networks.Network.{Network}
use Rattle.swarm_objects.specs.declared.nodes.Node.{Node}
use Rattle.swarm_objects.specs.declared.replies.Refusal.TheVariants as refusal
use Rattle.swarm_objects.specs.declared.replies.Refusal.{Refusal}
use Rattle.swarm_objects.specs.declared.replies.Reply.TheVariants as reply
use Rattle.swarm_objects.specs.declared.replies.Reply.{Reply}
use Rattle.swarm_objects.specs.declared.replies.Wanted.TheVariants as wanted_by
use Rattle.swarm_objects.specs.declared.services.Service.{Service}
use Rattle.swarm_objects.specs.declared.services.ServiceSpec.{ServiceSpec}
use Rattle.swarm_objects.specs.declared.tasks.Task.{Task}
use Rattle.swarm_objects.specs.declared.tasks.TaskState.{TaskState}
use Rattle.swarm_objects.specs.declared.watches.Event.{Event}
use Rattle.swarm_objects.specs.declared.watches.Watcher.{Watcher}

-- Operations.

-- operations are no entries, and don't halt
abbrev Stays : World → World → Type 0
Stays w v = (v.halted ≡ w.halted) × (v.entries ≡ w.entries)

back-halted : (version : ℕ) (w : World) (s : Service) (spec : Option ServiceSpec) → OnDone (Stays w)
    (go_back version w s spec)
back-halted version w s None = tt
back-halted version w s (Some spec) = (refl, refl)

op-halted : (version : ℕ) (w : World) (o : Op) → OnDone (Stays w) (apply_op version w o)
op-halted version w (op.CreateNode name draft) = given-unless (λ (d : World × ℕ). Stays w d.0) _ _ (λ e. (refl, refl))
op-halted version w (op.UpdateNode name asked labels r a) =
    given-found (λ (d : World × ℕ). Stays w d.0) kind.Node (wanted_by.Name name) (node_by w.tables name)
    (λ n. update_node w asked n (respecified_node version labels r a n))
    (λ (n : Node) e. given-unless (λ (d : World × ℕ). Stays w d.0) _ _ (λ ok. (refl, refl)))
op-halted version w (op.RemoveNode name force) =
    given-found (λ (d : World × ℕ). Stays w d.0) kind.Node (wanted_by.Name name) (node_by w.tables name)
    (remove_node version w force)
    (λ (n : Node) e. given-unless (λ (d : World × ℕ). Stays w d.0) _ _ (λ ok. (refl, refl)))
op-halted version w (op.CreateService name d) = given-unless (λ (d : World × ℕ). Stays w d.0) _ _ (λ e. (refl, refl))
op-halted version w (op.UpdateService name asked d) =
    given-found (λ (d : World × ℕ). Stays w d.0) kind.Service (wanted_by.Name name) (service_by w.tables name)
    (update_service version w asked d)
    (λ (s : Service) e. given-unless (λ (d : World × ℕ). Stays w d.0) _ _ (λ ok. (refl, refl)))
op-halted version w (op.RemoveService name) =
    given-found (λ (d : World × ℕ). Stays w d.0) kind.Service (wanted_by.Name name) (service_by w.tables name)
    (remove_service w) (λ (s : Service) e. (refl, refl))
op-halted version w (op.RollbackService name asked) =
    given-found (λ (d : World × ℕ). Stays w d.0) kind.Service (wanted_by.Name name) (service_by w.tables name)
    (rollback_service version w asked)
    (λ (s : Service) e. given-unless_some (λ (d : World × ℕ). Stays w d.0) (conflict asked s.version) _
    (λ ok. back-halted version w s s.previous))
op-halted version w (op.CreateNetwork name base bits) = given-unless (λ (d : World × ℕ). Stays w d.0) _ _
    (λ e. (refl, refl))
op-halted version w (op.RemoveNetwork name) =
    given-found (λ (d : World × ℕ). Stays w d.0) kind.Network (wanted_by.Name name) (network_by w.tables name)
    (remove_network w)
    (λ (n : Network) e. given-unless (λ (d : World × ℕ). Stays w d.0) _ _ (λ ok. (refl, refl)))
op-halted version w (op.SetCluster settings) = given-unless (λ (d : World × ℕ). Stays w d.0) _ _ (λ e. (refl, refl))

-- after an operation that is done the world halts as before
then-halted : (w v : World) (done : Done) → Stays w v → OnDone (Stays v) done → OnDone (Stays w) done
then-halted w v (Ok d) first second = (second.0 ∙ first.0, second.1 ∙ first.1)
then-halted w v (Err r) first second = tt

ops-halted : (version : ℕ) (w : World) (ops : List Op) (ids : List ℕ) →
    OnGiven (λ (d : World × List ℕ). Stays w d.0) (apply_ops version ops w ids)
ops-halted version w ops ids =
    ops-keep (Stays w) version (λ v o first. then-halted w v (apply_op version v o) first
    (op-halted version v o)) ops w ids
    (refl, refl)

pub entries-ops : (version : ℕ) (ops : List Op) (w v : World) (ids all : List ℕ) → apply_ops version ops w ids ≡ Ok
    (v, all) →
    v.entries ≡ w.entries
entries-ops version ops w v ids all e =
    (given-is (λ (d : World × List ℕ). Stays w d.0) (apply_ops version ops w ids) (v, all)
    (ops-halted version w ops ids) e).1

-- Calls.

abbrev Same : World → World → Type 0
Same w v = v.halted ≡ w.halted

abbrev Answers : World → Answered → Type 0
Answers w given = OnGiven (λ (d : Reply × World). Same w d.1) given

txn-halted : (w : World) (r : Result (World × List ℕ) Refusal) → OnGiven (λ (d : World × List ℕ). Stays w d.0) r →
    Answers w (txn_answer r)
txn-halted w (Ok done) same = same.0
txn-halted w (Err r) same = tt

view-halted : (w : World) (v : View) → Answers w (viewed w v)
view-halted w (Ok v) = refl
view-halted w (Err r) = tt

polled-halted : (entry : ℕ) (w : World) (id : ℕ) (events : List Event) → Same w (polled entry w id events).1
polled-halted entry w id events = go (nat_lt most_events (length events))
  where
    go : (lagged : Bool) → Same w (cond {A = Reply × World} lagged
        (reply.Refused (refusal.Lagged (length events)), without_watcher id w)
        (reply.Events events, told_at entry id w)).1
    go true = refl
    go false = refl

poll-halted : (entry : ℕ) (w : World) (id : ℕ) (x : Option Watcher) → Answers w (watch_poll entry w id x)
poll-halted entry w id None = tt
poll-halted entry w id (Some x) = polled-halted entry w id (waiting_events w x)

finish-halted : (w : World) (id : ℕ) (x : Option Watcher) → Answers w (watch_finish w id x)
finish-halted w id None = tt
finish-halted w id (Some x) = refl

agent-halted : (w : World) (name : List ℕ) (f : NodeAgent → NodeAgent) → Answers w (on_agent w name f)
agent-halted w name f =
    given-found (λ (d : Reply × World). Same w d.1) kind.Node (wanted_by.Name name) (node_by w.tables name)
    (λ n. cond n.remote (Err (refusal.WrongKind n.id)) (Ok (reply.AgentDone n.id, change_agent n.id f w)))
    (λ (n : Node) e. given-if_not (λ (d : Reply × World). Same w d.1) n.remote
    (Ok (reply.AgentDone n.id, change_agent n.id f w)) (refusal.WrongKind n.id) (λ k. refl))

remote-halted : (w : World) (name : List ℕ) (next : Node → Answered) → ((n : Node) → Answers w (next n)) →
    Answers w (on_remote w.tables name next)
remote-halted w name next each =
    given-found (λ (d : Reply × World). Same w d.1) kind.Node (wanted_by.Name name) (node_by w.tables name)
    (λ n. cond n.remote (next n) (Err (refusal.WrongKind n.id)))
    (λ (n : Node) e. given-if (λ (d : Reply × World). Same w d.1) n.remote (next n) (refusal.WrongKind n.id)
    (λ k. each n))

session-halted : (w : World) (name : List ℕ) (session : ℕ) (next : Node → Answered) →
    ((n : Node) → Answers w (next n)) →
    Answers w (on_session w.tables name session next)
session-halted w name session next each =
    remote-halted w name
    (λ n. elim (not_admitted w.tables.clock session (session_of w.tables n.id)) [ Some r ↦ Err r | None ↦ next n ])
    (λ n. given-unless_some (λ (d : Reply × World). Same w d.1)
    (not_admitted w.tables.clock session (session_of w.tables n.id)) (next n) (λ e. each n))

pulled-halted : (w : World) (node : ℕ) (m : Option Message) → Same w (pulled w node m)
pulled-halted w node None = refl
pulled-halted w node (Some m) = refl

status-halted : (version : ℕ) (w : World) (name : List ℕ) (session task : ℕ) (s : TaskState) →
    Answers w (remote_status version w name session task s)
status-halted version w name session task s =
    session-halted w name session
    (λ n. found kind.Task (wanted_by.Id task) (row_at task_id task w.tables.tasks) (report version w n.id s))
    (λ n. given-found (λ (d : Reply × World). Same w d.1) kind.Task (wanted_by.Id task)
    (row_at task_id task w.tables.tasks) (report version w n.id s)
    (λ (x : Task) e. given-unless (λ (d : Reply × World). Same w d.1) _ _ (λ ok. refl)))

answer-halted : (version : ℕ) (w : World) (c : Call) → is_halt c ≡ false → Answers w (answer version w c)
answer-halted version w (call.Txn ops) e =
    given-if_not (λ (d : Reply × World). Same w d.1) (nat_lt most_ops (length ops)) _ _
    (λ few. txn-halted w _ (ops-halted version w ops []))
answer-halted version w (call.View asked) e = view-halted w (shows w.tables asked)
answer-halted version w (call.WatchBegin f) e = given-unless (λ (d : Reply × World). Same w d.1) _ _ (λ ok. refl)
answer-halted version w (call.WatchPoll id) e = poll-halted version w id (row_at watcher_id id w.watchers)
answer-halted version w (call.WatchFinish id) e = finish-halted w id (row_at watcher_id id w.watchers)
answer-halted version w (call.Tick ms) e = given-unless (λ (d : Reply × World). Same w d.1) _ _ (λ ok. refl)
answer-halted version w (call.Settle budget) e = refl
answer-halted version w (call.NodeFail name) e = agent-halted w name _
answer-halted version w (call.NodeStart name) e = agent-halted w name _
answer-halted version w (call.AgentStop name) e = agent-halted w name _
answer-halted version w (call.AgentStart name) e = agent-halted w name _
answer-halted version w (call.RemoteBegin name cpu mem) e =
    remote-halted w name (λ n. begin_with version w n.id (given_or cpu n.cpu) (given_or mem n.mem))
    (λ n. given-unless (λ (d : Reply × World). Same w d.1) _ _ (λ ok. refl))
answer-halted version w (call.RemoteBeat name session) e = session-halted w name session _ (λ n. refl)
answer-halted version w (call.RemotePull name session) e =
    session-halted w name session _ (λ n. pulled-halted w n.id (message_for w n.id))
answer-halted version w (call.RemoteStatus name session task s) e = status-halted version w name session task s
answer-halted version w call.Halt e = absurd cc

answered-halted : (w : World) (given : Answered) → Answers w given → (answered w given).after.halted ≡ w.halted
answered-halted w (Ok done) same = same
answered-halted w (Err r) same = refl

-- only Halt halts
pub halted-call : (w : World) (c : Call) → is_halt c ≡ false → (call_outcome w c).after.halted ≡ w.halted
halted-call w c e = answered-halted w (answer (w.entries + 1) w c) (answer-halted (w.entries + 1) w c e)

pull-halted : (w : World) (n : ℕ) (m : Option Message) → (after_pull w n m).halted ≡ w.halted
pull-halted w n None = refl
pull-halted w n (Some m) = refl

pub halted-duty : (w : World) (d : Duty) → (effect w d).halted ≡ w.halted
halted-duty w (duty.Pull n) = pull-halted w n (message_for w n)
halted-duty w _ = refl

-- a call that leaves the world running isn't Halt
pub halts_not : (w : World) (c : Call) → (call_outcome w c).after.halted ≡ false → is_halt c ≡ false
halts_not w call.Halt h = absurd cc
halts_not w _ h = refl

-- The limit.

bounded_step : (w : World) (e : What) → may_follow w e ≡ true → (w.halted ≡ false → w.entries ≤ 300000) →
    ((step w e).after.halted ≡ false → (step w e).after.entries ≤ 300000) × ((step w e).after.entries ≤ 300001)
bounded_step w (what.Call c) may running =
    let room = room_admitted w c may in
    let before = running room.0 in (
      λ h. omega (arith, entries-call w c, room.1 (halts_not w c h)),
      omega (arith, entries-call w c, before),
    )
bounded_step w (what.Duty d) may running =
    let room = room_duty w d may in
    (λ h. omega (arith, room.1), omega (arith, room.1))

bounded : (w : World) (h : List Entry) → IsLegalFrom w h → (w.halted ≡ false → w.entries ≤ 300000) →
    w.entries ≤ 300001 →
    (replay_from w h).entries ≤ 300001
bounded w [] legal running most = most
bounded w (e ∷ h) legal running most =
    let one = bounded_step w e.what legal.0 running in
    bounded (step_world w e) h legal.1 one.0 one.1

pub entries-legal : (h : List Entry) → IsLegal h → length h ≤ 300001
entries-legal h legal = omega (arith, entries-replay h, bounded empty_world h legal (λ k. omega arith) (omega arith))

still_running : (w : World) (h : List Entry) → IsLegalFrom w h → (w.halted ≡ false → w.entries ≤ 300000) →
    (replay_from w h).halted ≡ false → (replay_from w h).entries ≤ 300000
still_running w [] legal running k = running k
still_running w (e ∷ h) legal running k =
    let one = bounded_step w e.what legal.0 running in
    still_running (step_world w e) h legal.1 one.0 k

-- without Halt a history keeps within its limit
pub entries-running : (h : List Entry) → IsLegal h → (replay h).halted ≡ false → length h ≤ 300000
entries-running h legal k = omega (arith, entries-replay h, still_running empty_world h legal (λ j. omega arith) k)
