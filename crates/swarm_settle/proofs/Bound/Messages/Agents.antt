-- What a call makes of agents: each was there, with its inbox and with executors that ask and do the same work, or is bare.
use Rattle.std.proofs.Common.{Bool, Err, List, None, Ok, Option, Result, Some, [], cond, eqb, false, inl, inr, length, nat_lt, refl, subst, true, ℕ, ◌∷◌, ◌≡◌, ◌⊎◌}
use Rattle.std.specs.Prelude.{map, not}
use Rattle.swarm_model.proofs.Base.Answers.{OnDone, OnGiven, given-found, given-if, given-if_not, given-unless, given-unless_some, ops-keep}
use Rattle.swarm_model.proofs.Laws.Timely.{changed-cases}
use Rattle.swarm_model.specs.Calls.Faults.{on_agent}
use Rattle.swarm_model.specs.Calls.Networks.{remove_network}
use Rattle.swarm_model.specs.Calls.Nodes.{remove_node, update_node, with_agent_if}
use Rattle.swarm_model.specs.Calls.Operations.{apply_op, apply_ops}
use Rattle.swarm_model.specs.Calls.Refusals.{conflict, found as found_row, network_by, node_by, service_by}
use Rattle.swarm_model.specs.Calls.Remote.{begin_with, given_or, on_remote, on_session, pulled, report}
use Rattle.swarm_model.specs.Calls.Services.{go_back, remove_service, rollback_service, update_service}
use Rattle.swarm_model.specs.Calls.Views.{View, shows}
use Rattle.swarm_model.specs.Calls.Watches.{polled, told_at, waiting_events, watch_finish, watch_poll, without_watcher}
use Rattle.swarm_model.specs.Calls.{answer, txn_answer, viewed}
use Rattle.swarm_model.specs.Outcome.{Answered}
use Rattle.swarm_objects.proofs.Aims.{KeepsAim, lost-aim}
use Rattle.swarm_objects.proofs.RowLemmas.{Has-append_cases, Has-filter_cases}
use Rattle.swarm_objects.specs.Agents.Executors.{is_late, moved}
use Rattle.swarm_objects.specs.Agents.Messages.{message_for}
use Rattle.swarm_objects.specs.Agents.NodeAgents.{failed_agent, lost, new_agent}
use Rattle.swarm_objects.specs.Limits.{most_events, most_ops}
use Rattle.swarm_objects.specs.Loops.Agents.{change_agent}
use Rattle.swarm_objects.specs.NewRows.{respecified_node}
use Rattle.swarm_objects.specs.Nodes.Admission.{not_admitted}
use Rattle.swarm_objects.specs.Nodes.Sessions.{session_of}
use Rattle.swarm_objects.specs.Rows.{Has, agent_node, row_at, task_id, watcher_id}
use Rattle.swarm_objects.specs.World.{World}
use Rattle.swarm_objects.specs.declared.agents.Executor.{Executor}
use Rattle.swarm_objects.specs.declared.agents.NodeAgent.{NodeAgent}
use Rattle.swarm_objects.specs.declared.calls.Call.TheVariants as call
use Rattle.swarm_objects.specs.declared.calls.Call.{Call}
use Rattle.swarm_objects.specs.declared.calls.Op.TheVariants as op
use Rattle.swarm_objects.specs.declared.calls.Op.{Op}
use Rattle.swarm_objects.specs.declared.ids.Kind.TheVariants as kind
use Rattle.swarm_objects.specs.declared.messages.Message.{Message}
use Rattle.swarm_objects.specs.declared.networks.Network.{Network}
use Rattle.swarm_objects.specs.declared.nodes.Node.{Node}
use Rattle.swarm_objects.specs.declared.replies.Refusal.TheVariants as refusal
use Rattle.swarm_objects.specs.declared.replies.Refusal.{Refusal}
use Rattle.swarm_objects.specs.declared.replies.Reply.TheVariants as reply
use Rattle.swarm_objects.specs.declared.replies.Reply.{Reply}
use Rattle.swarm_objects.specs.declared.replies.Wanted.TheVariants as wanted_by
use Rattle.swarm_objects.specs.declared.services.Service.{Service}
use Rattle.swarm_objects.specs.declared.services.ServiceSpec.{ServiceSpec}
use Rattle.swarm_objects.specs.declared.tasks.Task.{Task}
use Rattle.swarm_objects.specs.declared.tasks.TaskState.TheVariants as state
use Rattle.swarm_objects.specs.declared.watches.Event.{Event}
use Rattle.swarm_objects.specs.declared.watches.Watcher.{Watcher}

-- the same agent, whose executors may have been lost
pub record KeepsAgent (a b : NodeAgent) : Type 0 where
  pub node : b.node ≡ a.node
  pub inbox : b.inbox ≡ a.inbox
  pub change : Executor → Executor
  pub executors : b.executors ≡ map change a.executors
  pub aims : (e : Executor) → KeepsAim e (change e)
  pub work : (e : Executor) → (change e).workload ≡ e.workload

pub record IsBare (a : NodeAgent) : Type 0 where
  pub inbox : a.inbox ≡ None
  pub executors : a.executors ≡ []

map-same : {A : Type 0} (xs : List A) → xs ≡ map (λ x. x) xs
map-same [] = refl
map-same (x ∷ xs) = subst (λ (ys : List _). x ∷ xs ≡ x ∷ ys) (map-same xs) refl

keeps-same : (a : NodeAgent) → KeepsAgent a a
keeps-same a = record {
  node = refl;
  inbox = refl;
  change = λ e. e;
  executors = map-same a.executors;
  aims = λ e. (refl, refl);
  work = λ e. refl;
}

abbrev pub AgentsCome : World → World → Type 0
AgentsCome w v =
    (b : NodeAgent) → Has v.agents b → ((a : NodeAgent) × Has w.agents a × KeepsAgent a b) ⊎ IsBare b

abbrev stay : (w : World) → AgentsCome w w
stay w b h = inl (b, h, keeps-same b)

-- Operations: an agent comes, or goes.

abbrev OrBare : World → World → Type 0
OrBare w v = (b : NodeAgent) → Has v.agents b → Has w.agents b ⊎ IsBare b

one-more : (w : World) (agents : List NodeAgent) (node : ℕ) (inside : Bool) →
    ((b : NodeAgent) → Has agents b → Has w.agents b ⊎ IsBare b) → (b : NodeAgent) →
    Has (with_agent_if inside node agents) b → Has w.agents b ⊎ IsBare b
one-more w agents node false is b h = is b h
one-more w agents node true is b h = go (Has-append_cases agents (new_agent node ∷ []) b h)
  where
    go : Has agents b ⊎ Has (new_agent node ∷ []) b → Has w.agents b ⊎ IsBare b
    go (inl k) = is b k
    go (inr (inl e)) = inr (subst IsBare e (record { inbox = refl; executors = refl }))
    go (inr (inr none)) = absurd none

op-agents : (n : ℕ) (w v : World) (o : Op) → OrBare w v → OnDone (OrBare w) (apply_op n v o)
op-agents n w v (op.CreateNode name draft) is =
    given-unless (λ (d : World × ℕ). OrBare w d.0) _ _
    (λ e. one-more w v.agents v.tables.next_id (not draft.remote) is)
op-agents n w v (op.UpdateNode name asked labels r a) is =
    given-found (λ (d : World × ℕ). OrBare w d.0) kind.Node (wanted_by.Name name) (node_by v.tables name)
    (λ m. update_node v asked m (respecified_node n labels r a m))
    (λ (m : Node) e. given-unless (λ (d : World × ℕ). OrBare w d.0) _ _ (λ ok. is))
op-agents n w v (op.RemoveNode name force) is =
    given-found (λ (d : World × ℕ). OrBare w d.0) kind.Node (wanted_by.Name name) (node_by v.tables name)
    (remove_node n v force)
    (λ (m : Node) e. given-unless (λ (d : World × ℕ). OrBare w d.0) _ _
    (λ ok b h. is b (Has-filter_cases (λ a. not (eqb (agent_node a) m.id)) v.agents b h).0))
op-agents n w v (op.CreateService name d) is = given-unless (λ (d : World × ℕ). OrBare w d.0) _ _ (λ e. is)
op-agents n w v (op.UpdateService name asked d) is =
    given-found (λ (d : World × ℕ). OrBare w d.0) kind.Service (wanted_by.Name name)
    (service_by v.tables name) (update_service n v asked d)
    (λ (s : Service) e. given-unless (λ (d : World × ℕ). OrBare w d.0) _ _ (λ ok. is))
op-agents n w v (op.RemoveService name) is =
    given-found (λ (d : World × ℕ). OrBare w d.0) kind.Service (wanted_by.Name name)
    (service_by v.tables name) (remove_service v) (λ (s : Service) e. is)
op-agents n w v (op.RollbackService name asked) is =
    given-found (λ (d : World × ℕ). OrBare w d.0) kind.Service (wanted_by.Name name)
    (service_by v.tables name) (rollback_service n v asked)
    (λ (s : Service) e. given-unless_some (λ (d : World × ℕ). OrBare w d.0) (conflict asked s.version) _
    (λ ok. back s s.previous))
  where
    back : (s : Service) (o : Option ServiceSpec) → OnDone (OrBare w) (go_back n v s o)
    back s None = tt
    back s (Some spec) = is
op-agents n w v (op.CreateNetwork name base bits) is = given-unless (λ (d : World × ℕ). OrBare w d.0) _ _ (λ e. is)
op-agents n w v (op.RemoveNetwork name) is =
    given-found (λ (d : World × ℕ). OrBare w d.0) kind.Network (wanted_by.Name name)
    (network_by v.tables name) (remove_network v)
    (λ (m : Network) e. given-unless (λ (d : World × ℕ). OrBare w d.0) _ _ (λ ok. is))
op-agents n w v (op.SetCluster settings) is = given-unless (λ (d : World × ℕ). OrBare w d.0) _ _ (λ e. is)

-- Calls.

abbrev AfterCall : World → Reply × World → Type 0
AfterCall w d = AgentsCome w d.1

abbrev CallCome : World → Answered → Type 0
CallCome w given = OnGiven (AfterCall w) given

or-bare : (w v : World) → OrBare w v → AgentsCome w v
or-bare w v is b h = elim (is b h) [ inl k ↦ inl (b, k, keeps-same b) | inr bare ↦ inr bare ]

txn-come : (n : ℕ) (w : World) (ops : List Op) → CallCome w (answer n w (call.Txn ops))
txn-come n w ops =
    given-if_not (AfterCall w) (nat_lt most_ops (length ops)) _ _
    (λ e. go (apply_ops n ops w []) (ops-keep (OrBare w) n (λ v o k. op-agents n w v o k) ops w [] (λ b h. inl h)))
  where
    go : (given : Result (World × List ℕ) Refusal) → OnGiven (λ (d : World × List ℕ). OrBare w d.0) given →
        CallCome w (txn_answer given)
    go (Ok d) holds = or-bare w d.0 holds
    go (Err r) holds = tt

polled-come : (entry : ℕ) (w : World) (id : ℕ) (events : List Event) → AgentsCome w (polled entry w id events).1
polled-come entry w id events = go (nat_lt most_events (length events))
  where
    go : (lagged : Bool) →
        AgentsCome w (cond {A = Reply × World} lagged
        (reply.Refused (refusal.Lagged (length events)), without_watcher id w)
        (reply.Events events, told_at entry id w)).1
    go true = stay w
    go false = stay w

poll-come : (entry : ℕ) (w : World) (id : ℕ) (x : Option Watcher) → CallCome w (watch_poll entry w id x)
poll-come entry w id None = tt
poll-come entry w id (Some x) = polled-come entry w id (waiting_events w x)

finish-come : (w : World) (id : ℕ) (x : Option Watcher) → CallCome w (watch_finish w id x)
finish-come w id None = tt
finish-come w id (Some x) = stay w

view-come : (w : World) (v : View) → CallCome w (viewed w v)
view-come w (Ok v) = stay w
view-come w (Err r) = tt

agent-come : (w : World) (name : List ℕ) (g : NodeAgent → NodeAgent) → ((a : NodeAgent) → KeepsAgent a (g a)) →
    CallCome w (on_agent w name g)
agent-come w name g keeps =
    given-found (AfterCall w) kind.Node (wanted_by.Name name)
    (node_by w.tables name)
    (λ n. cond n.remote (Err (refusal.WrongKind n.id)) (Ok (reply.AgentDone n.id, change_agent n.id g w)))
    (λ (n : Node) e. given-if_not (AfterCall w) n.remote
    (Ok (reply.AgentDone n.id, change_agent n.id g w)) (refusal.WrongKind n.id)
    (λ k b h. go n.id b (changed-cases agent_node n.id g w.agents b h)))
  where
    go : (id : ℕ) (b : NodeAgent) →
        ((a : NodeAgent) × Has w.agents a × ((a ≡ b) ⊎ ((agent_node a ≡ id) × (g a ≡ b)))) →
        ((a : NodeAgent) × Has w.agents a × KeepsAgent a b) ⊎ IsBare b
    go id b r = elim r.2 [
      | inl e ↦ inl (r.0, r.1, subst (KeepsAgent r.0) e (keeps-same r.0))
      | inr k ↦ inl (r.0, r.1, subst (KeepsAgent r.0) k.1 (keeps r.0))
    ]

lost-work : (clock : ℕ) (e : Executor) → (lost clock e).workload ≡ e.workload
lost-work clock e = go (is_late e.state)
  where
    go : (b : Bool) → (cond b (moved clock state.Failed e) e).workload ≡ e.workload
    go true = refl
    go false = refl

failed-keeps : (clock : ℕ) (a : NodeAgent) → KeepsAgent a (failed_agent clock a)
failed-keeps clock a = record {
  node = refl;
  inbox = refl;
  change = lost clock;
  executors = refl;
  aims = lost-aim clock;
  work = lost-work clock;
}

in-mode : (a b : NodeAgent) → b.node ≡ a.node → b.inbox ≡ a.inbox → b.executors ≡ a.executors → KeepsAgent a b
in-mode a b node inbox executors = record {
  node = node;
  inbox = inbox;
  change = λ e. e;
  executors = subst (λ (es : List Executor). b.executors ≡ es) (map-same a.executors) executors;
  aims = λ e. (refl, refl);
  work = λ e. refl;
}

remote-come : (w : World) (name : List ℕ) (next : Node → Answered) → ((n : Node) → CallCome w (next n)) →
    CallCome w (on_remote w.tables name next)
remote-come w name next each =
    given-found (AfterCall w) kind.Node (wanted_by.Name name)
    (node_by w.tables name)
    (λ n. cond n.remote (next n) (Err (refusal.WrongKind n.id)))
    (λ (n : Node) e. given-if (AfterCall w) n.remote (next n) (refusal.WrongKind n.id) (λ k. each n))

session-come : (w : World) (name : List ℕ) (session : ℕ) (next : Node → Answered) →
    ((n : Node) → CallCome w (next n)) → CallCome w (on_session w.tables name session next)
session-come w name session next each =
    remote-come w name
    (λ n. elim (not_admitted w.tables.clock session (session_of w.tables n.id)) [ Some r ↦ Err r | None ↦ next n ])
    (λ n. given-unless_some (AfterCall w)
    (not_admitted w.tables.clock session (session_of w.tables n.id)) (next n) (λ e. each n))

pulled-come : (w : World) (id : ℕ) (o : Option Message) → AgentsCome w (pulled w id o)
pulled-come w id None = stay w
pulled-come w id (Some m) = stay w

pub call-come : (n : ℕ) (w : World) (c : Call) → OnGiven (λ (d : Reply × World). AgentsCome w d.1) (answer n w c)
call-come n w (call.Txn ops) = txn-come n w ops
call-come n w (call.View asked) = view-come w (shows w.tables asked)
call-come n w (call.WatchBegin f) = given-unless (AfterCall w) _ _ (λ e. stay w)
call-come n w (call.WatchPoll id) = poll-come n w id (row_at watcher_id id w.watchers)
call-come n w (call.WatchFinish id) = finish-come w id (row_at watcher_id id w.watchers)
call-come n w (call.Tick ms) = given-unless (AfterCall w) _ _ (λ e. stay w)
call-come n w (call.Settle budget) = stay w
call-come n w (call.NodeFail name) =
    agent-come w name (failed_agent w.tables.clock) (failed-keeps w.tables.clock)
call-come n w (call.NodeStart name) = agent-come w name _ (λ a. in-mode a _ refl refl refl)
call-come n w (call.AgentStop name) = agent-come w name _ (λ a. in-mode a _ refl refl refl)
call-come n w (call.AgentStart name) = agent-come w name _ (λ a. in-mode a _ refl refl refl)
call-come n w (call.RemoteBegin name cpu mem) =
    remote-come w name (λ m. begin_with n w m.id (given_or cpu m.cpu) (given_or mem m.mem))
    (λ m. given-unless (AfterCall w) _ _ (λ e. stay w))
call-come n w (call.RemoteBeat name session) = session-come w name session _ (λ m. stay w)
call-come n w (call.RemotePull name session) =
    session-come w name session _ (λ m. pulled-come w m.id (message_for w m.id))
call-come n w (call.RemoteStatus name session task s) =
    session-come w name session
    (λ m. found_row kind.Task (wanted_by.Id task) (row_at task_id task w.tables.tasks) (report n w m.id s))
    (λ m. given-found (AfterCall w) kind.Task (wanted_by.Id task)
    (row_at task_id task w.tables.tasks) (report n w m.id s)
    (λ (x : Task) e. given-unless (AfterCall w) _ _ (λ ok. stay w)))
call-come n w call.Halt = stay w
