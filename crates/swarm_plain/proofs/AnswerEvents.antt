-- An answer leaves the events that wait as they are.
use Rattle.std.proofs.Common.{◌≡◌, ℕ, ◌+◌, ◌*◌, Bool, true, false, cond, List, [], refl, subst, Option, Some, None, Result, Ok, Err, length, nat_lt}
use Rattle.swarm_model.proofs.Base.Answers.{OnDone, OnGiven, given-found, given-if, given-if_not, given-unless, given-unless_some, ops-keep}
use Rattle.swarm_model.specs.Calls.{answer, txn_answer, viewed}
use Rattle.swarm_model.specs.Calls.Faults.{on_agent}
use Rattle.swarm_model.specs.Calls.Operations.{apply_op, apply_ops}
use Rattle.swarm_model.specs.Calls.Refusals.{conflict, found, network_by, node_by, service_by}
use Rattle.swarm_model.specs.Calls.Networks.{remove_network}
use Rattle.swarm_model.specs.Calls.Nodes.{remove_node, update_node}
use Rattle.swarm_objects.specs.NewRows.{respecified_node}
use Rattle.swarm_model.specs.Calls.Remote.{begin_with, given_or, on_remote, on_session, pulled, report}
use Rattle.swarm_objects.specs.Nodes.Admission.{not_admitted}
use Rattle.swarm_model.specs.Calls.Services.{go_back, remove_service, rollback_service, update_service}
use Rattle.swarm_model.specs.Calls.Views.{View, shows}
use Rattle.swarm_model.specs.Calls.Watches.{told_at, waiting_events, watch_finish, watch_poll, without_watcher}
use Rattle.swarm_model.specs.Outcome.{Answered}
use Rattle.swarm_objects.specs.Agents.Messages.{message_for}
use Rattle.swarm_objects.specs.Changes.{with_tables}
use Rattle.swarm_objects.specs.Limits.{most_events, most_ops}
use Rattle.swarm_objects.specs.Loops.Agents.{after_beat, change_agent}
use Rattle.swarm_objects.specs.Nodes.Sessions.{session_of}
use Rattle.swarm_objects.specs.Rows.{row_at, task_id, watcher_id}
use Rattle.swarm_objects.specs.World.{World}
use Rattle.swarm_objects.specs.declared.agents.NodeAgent.{NodeAgent}
use Rattle.swarm_objects.specs.declared.calls.Call.{Call}
use Rattle.swarm_objects.specs.declared.calls.Call.TheVariants as call
use Rattle.swarm_objects.specs.declared.calls.Op.{Op}
use Rattle.swarm_objects.specs.declared.calls.Op.TheVariants as op
use Rattle.swarm_objects.specs.declared.ids.Kind.TheVariants as kind
use Rattle.swarm_objects.specs.declared.messages.Message.{Message}
use Rattle.swarm_objects.specs.declared.networks.Network.{Network}
use Rattle.swarm_objects.specs.declared.nodes.Node.{Node}
use Rattle.swarm_objects.specs.declared.replies.Refusal.{Refusal}
use Rattle.swarm_objects.specs.declared.replies.Refusal.TheVariants as refusal
use Rattle.swarm_objects.specs.declared.replies.Reply.{Reply}
use Rattle.swarm_objects.specs.declared.replies.Reply.TheVariants as reply
use Rattle.swarm_objects.specs.declared.replies.Wanted.TheVariants as wanted_by
use Rattle.swarm_objects.specs.declared.services.Service.{Service}
use Rattle.swarm_objects.specs.declared.services.ServiceSpec.{ServiceSpec}
use Rattle.swarm_objects.specs.declared.tasks.Task.{Task}
use Rattle.swarm_objects.specs.declared.watches.Event.{Event}
use Rattle.swarm_objects.specs.declared.watches.Watcher.{Watcher}

-- Operations keep them.

abbrev Of : List Event → World → Type 0
Of xs w = w.events ≡ xs

abbrev Keeps : List Event → Result (World × ℕ) Refusal → Type 0
Keeps xs done = OnDone (Of xs) done

abbrev OpKeeps : World → World × ℕ → Type 0
OpKeeps w d = d.0.events ≡ w.events

go_back-keeps : (version : ℕ) (w : World) (s : Service) (spec : Option ServiceSpec) → Keeps w.events (go_back version w s spec)
go_back-keeps version w s None = tt
go_back-keeps version w s (Some spec) = refl

op-keeps : (version : ℕ) (w : World) (o : Op) → Keeps w.events (apply_op version w o)
op-keeps version w (op.CreateNode name draft) = given-unless (OpKeeps w) _ _ (λ e. refl)
op-keeps version w (op.UpdateNode name asked labels r a) =
    given-found (OpKeeps w) kind.Node (wanted_by.Name name) (node_by w.tables name)
    (λ n. update_node w asked n (respecified_node version labels r a n))
    (λ (n : Node) e. given-unless (OpKeeps w) _ _ (λ ok. refl))
op-keeps version w (op.RemoveNode name force) =
    given-found (OpKeeps w) kind.Node (wanted_by.Name name) (node_by w.tables name)
    (remove_node version w force)
    (λ (n : Node) e. given-unless (OpKeeps w) _ _ (λ ok. refl))
op-keeps version w (op.CreateService name d) =
    given-unless (OpKeeps w) _ _ (λ e. refl)
op-keeps version w (op.UpdateService name asked d) =
    given-found (OpKeeps w) kind.Service (wanted_by.Name name) (service_by w.tables name)
    (update_service version w asked d)
    (λ (s : Service) e. given-unless (OpKeeps w) _ _ (λ ok. refl))
op-keeps version w (op.RemoveService name) =
    given-found (OpKeeps w) kind.Service (wanted_by.Name name) (service_by w.tables name)
    (remove_service w) (λ (s : Service) e. refl)
op-keeps version w (op.RollbackService name asked) =
    given-found (OpKeeps w) kind.Service (wanted_by.Name name) (service_by w.tables name)
    (rollback_service version w asked)
    (λ (s : Service) e. given-unless_some (OpKeeps w) (conflict asked s.version) _
    (λ ok. go_back-keeps version w s s.previous))
op-keeps version w (op.CreateNetwork name base bits) =
    given-unless (OpKeeps w) _ _ (λ e. refl)
op-keeps version w (op.RemoveNetwork name) =
    given-found (OpKeeps w) kind.Network (wanted_by.Name name) (network_by w.tables name)
    (remove_network w)
    (λ (n : Network) e. given-unless (OpKeeps w) _ _ (λ ok. refl))
op-keeps version w (op.SetCluster settings) =
    given-unless (OpKeeps w) _ _ (λ e. refl)

ops-keep-events : (version : ℕ) (w : World) (ops : List Op) →
    OnGiven (λ (d : World × List ℕ). d.0.events ≡ w.events) (apply_ops version ops w [])
ops-keep-events version w ops =
    ops-keep (Of w.events) version
    (λ v o same. subst (λ xs. Keeps xs (apply_op version v o)) same (op-keeps version v o)) ops w [] refl

-- Calls keep them.

abbrev CallKeeps : World → Reply × World → Type 0
CallKeeps w d = d.1.events ≡ w.events

-- where the call is answered, its world has the same events
abbrev pub KeepsEvents : World → Answered → Type 0
KeepsEvents w given = OnGiven (CallKeeps w) given

txn-keeps : (w : World) (r : Result (World × List ℕ) Refusal) → OnGiven (λ (d : World × List ℕ). d.0.events ≡ w.events) r →
    KeepsEvents w (txn_answer r)
txn-keeps w (Ok done) same = same
txn-keeps w (Err r) same = tt

view-keeps : (w : World) (v : View) → KeepsEvents w (viewed w v)
view-keeps w (Ok v) = refl
view-keeps w (Err r) = tt

agent-keeps : (w : World) (name : List ℕ) (change : NodeAgent → NodeAgent) → KeepsEvents w (on_agent w name change)
agent-keeps w name change =
    given-found (CallKeeps w) kind.Node (wanted_by.Name name) (node_by w.tables name)
    (λ n. cond n.remote (Err (refusal.WrongKind n.id)) (Ok (reply.AgentDone n.id, change_agent n.id change w)))
    (λ (n : Node) e. given-if_not (CallKeeps w) n.remote
    (Ok (reply.AgentDone n.id, change_agent n.id change w)) (refusal.WrongKind n.id) (λ k. refl))

remote-keeps : (w : World) (name : List ℕ) (next : Node → Answered) → ((n : Node) → KeepsEvents w (next n)) →
    KeepsEvents w (on_remote w.tables name next)
remote-keeps w name next each =
    given-found (CallKeeps w) kind.Node (wanted_by.Name name) (node_by w.tables name)
    (λ n. cond n.remote (next n) (Err (refusal.WrongKind n.id)))
    (λ (n : Node) e. given-if (CallKeeps w) n.remote (next n) (refusal.WrongKind n.id)
    (λ k. each n))

session-keeps : (w : World) (name : List ℕ) (session : ℕ) (next : Node → Answered) → ((n : Node) → KeepsEvents w (next n)) →
    KeepsEvents w (on_session w.tables name session next)
session-keeps w name session next each =
    remote-keeps w name
    (λ n. elim (not_admitted w.tables.clock session (session_of w.tables n.id)) [ Some r ↦ Err r | None ↦ next n ])
    (λ n. given-unless_some (CallKeeps w)
    (not_admitted w.tables.clock session (session_of w.tables n.id)) (next n) (λ e. each n))

pulled-keeps : (w : World) (node : ℕ) (m : Option Message) → (pulled w node m).events ≡ w.events
pulled-keeps w node None = refl
pulled-keeps w node (Some m) = refl

polled-keeps : (version : ℕ) (w : World) (id : ℕ) (events : List Event) (lagged : Bool) →
    (cond {A = Reply × World} lagged (reply.Refused (refusal.Lagged (length events)), without_watcher id w)
    (reply.Events events, told_at version id w)).1.events ≡ w.events
polled-keeps version w id events true = refl
polled-keeps version w id events false = refl

poll-keeps : (version : ℕ) (w : World) (id : ℕ) (x : Option Watcher) → KeepsEvents w (watch_poll version w id x)
poll-keeps version w id None = tt
poll-keeps version w id (Some x) =
    polled-keeps version w id (waiting_events w x) (nat_lt most_events (length (waiting_events w x)))

finish-keeps : (w : World) (id : ℕ) (x : Option Watcher) → KeepsEvents w (watch_finish w id x)
finish-keeps w id None = tt
finish-keeps w id (Some x) = refl

pub answer-events : (version : ℕ) (w : World) (c : Call) → KeepsEvents w (answer version w c)
answer-events version w (call.Txn ops) =
    given-if_not (CallKeeps w) (nat_lt most_ops (length ops)) _ _
    (λ e. txn-keeps w _ (ops-keep-events version w ops))
answer-events version w (call.View asked) = view-keeps w (shows w.tables asked)
answer-events version w (call.WatchBegin f) =
    given-unless (CallKeeps w) _ _ (λ e. refl)
answer-events version w (call.WatchPoll id) = poll-keeps version w id (row_at watcher_id id w.watchers)
answer-events version w (call.WatchFinish id) = finish-keeps w id (row_at watcher_id id w.watchers)
answer-events version w (call.Tick ms) =
    given-unless (CallKeeps w) _ _ (λ e. refl)
answer-events version w (call.Settle budget) = refl
answer-events version w (call.NodeFail name) = agent-keeps w name _
answer-events version w (call.NodeStart name) = agent-keeps w name _
answer-events version w (call.AgentStop name) = agent-keeps w name _
answer-events version w (call.AgentStart name) = agent-keeps w name _
answer-events version w (call.RemoteBegin name cpu mem) =
    remote-keeps w name (λ n. begin_with version w n.id (given_or cpu n.cpu) (given_or mem n.mem))
    (λ n. given-unless (CallKeeps w) _ _ (λ e. refl))
answer-events version w (call.RemoteBeat name session) =
    session-keeps w name session
    (λ n. Ok (reply.Beat (w.tables.clock + 3 * w.tables.settings.heartbeat), with_tables w (after_beat w.tables n.id)))
    (λ n. refl)
answer-events version w (call.RemotePull name session) =
    session-keeps w name session
    (λ n. Ok (reply.Pulled (message_for w n.id), pulled w n.id (message_for w n.id)))
    (λ n. pulled-keeps w n.id (message_for w n.id))
answer-events version w (call.RemoteStatus name session task s) =
    session-keeps w name session
    (λ n. found kind.Task (wanted_by.Id task) (row_at task_id task w.tables.tasks) (report version w n.id s))
    (λ n. given-found (CallKeeps w) kind.Task (wanted_by.Id task)
    (row_at task_id task w.tables.tasks) (report version w n.id s)
    (λ (x : Task) e. given-unless (CallKeeps w) _ _ (λ ok. refl)))
answer-events version w call.Halt = refl
