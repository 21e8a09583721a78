-- What an entry does to the watchers.
use Rattle.std.proofs.Common.{◌≡◌, ℕ, ◌+◌, ◌*◌, Bool, true, false, cond, List, [], ◌∷◌, refl, ap, sym, ◌∙◌, subst, Option, Some, None, Result, Ok, Err, length, nat_lt, ◌⊎◌, inl, inr}
use Rattle.std.specs.Prelude.{◌==◌}
use Rattle.swarm_model.proofs.Base.Answers.{OnDone, OnGiven, given-found, given-if, given-if_not, given-unless, given-unless_some, ops-keep}
use Rattle.swarm_model.specs.Calls.{answer, txn_answer, viewed}
use Rattle.swarm_model.specs.Calls.Faults.{on_agent}
use Rattle.swarm_model.specs.Calls.Operations.{apply_op, apply_ops}
use Rattle.swarm_model.specs.Calls.Refusals.{conflict, found, network_by, node_by, service_by}
use Rattle.swarm_model.specs.Calls.Networks.{remove_network}
use Rattle.swarm_model.specs.Calls.Nodes.{remove_node, update_node}
use Rattle.swarm_objects.specs.NewRows.{respecified_node}
use Rattle.swarm_model.specs.Calls.Remote.{begin_with, given_or, on_remote, on_session, pulled, report}
use Rattle.swarm_objects.specs.Nodes.Admission.{not_admitted}
use Rattle.swarm_model.specs.Calls.Services.{go_back, remove_service, rollback_service, update_service}
use Rattle.swarm_model.specs.Calls.Views.{View, shows}
use Rattle.swarm_model.specs.Calls.Watches.{new_watcher, told_all, told_at, waiting_events, watch_finish, watch_poll, without_watcher}
use Rattle.swarm_model.specs.Outcome.{Answered}
use Rattle.swarm_objects.proofs.RowLemmas.{Has-append_cases, Has-filter_cases, Has-map_cases}
use Rattle.swarm_objects.specs.Agents.Messages.{message_for}
use Rattle.swarm_objects.specs.Changes.{with_tables}
use Rattle.swarm_objects.specs.Duties.{effect_by}
use Rattle.swarm_objects.specs.Limits.{most_events, most_ops}
use Rattle.swarm_objects.specs.Loops.Agents.{after_beat, after_pull, change_agent}
use Rattle.swarm_objects.specs.Nodes.Sessions.{session_of}
use Rattle.swarm_objects.specs.Rows.{Has, row_at, task_id, watcher_id}
use Rattle.swarm_objects.specs.World.{World}
use Rattle.swarm_objects.specs.declared.agents.NodeAgent.{NodeAgent}
use Rattle.swarm_objects.specs.declared.calls.Call.{Call}
use Rattle.swarm_objects.specs.declared.calls.Call.TheVariants as call
use Rattle.swarm_objects.specs.declared.calls.Op.{Op}
use Rattle.swarm_objects.specs.declared.calls.Op.TheVariants as op
use Rattle.swarm_objects.specs.declared.duties.Duty.{Duty}
use Rattle.swarm_objects.specs.declared.duties.Duty.TheVariants as duty
use Rattle.swarm_objects.specs.declared.ids.Kind.TheVariants as kind
use Rattle.swarm_objects.specs.declared.messages.Message.{Message}
use Rattle.swarm_objects.specs.declared.networks.Network.{Network}
use Rattle.swarm_objects.specs.declared.nodes.Node.{Node}
use Rattle.swarm_objects.specs.declared.replies.Refusal.{Refusal}
use Rattle.swarm_objects.specs.declared.replies.Refusal.TheVariants as refusal
use Rattle.swarm_objects.specs.declared.replies.Reply.{Reply}
use Rattle.swarm_objects.specs.declared.replies.Reply.TheVariants as reply
use Rattle.swarm_objects.specs.declared.replies.Wanted.TheVariants as wanted_by
use Rattle.swarm_objects.specs.declared.services.Service.{Service}
use Rattle.swarm_objects.specs.declared.services.ServiceSpec.{ServiceSpec}
use Rattle.swarm_objects.specs.declared.tasks.Task.{Task}
use Rattle.swarm_objects.specs.declared.watches.Event.{Event}
use Rattle.swarm_objects.specs.declared.watches.Watcher.{Watcher}

-- Duties keep them.

pull-watchers : (w : World) (node : ℕ) (m : Option Message) → (after_pull w node m).watchers ≡ w.watchers
pull-watchers w node None = refl
pull-watchers w node (Some m) = refl

pub duty-watchers : (version : ℕ) (w : World) (d : Duty) → (effect_by version w d).watchers ≡ w.watchers
duty-watchers version w (duty.Pull n) = pull-watchers w n (message_for w n)
duty-watchers version w _ = refl

-- Operations keep them.

abbrev Of : List Watcher → World → Type 0
Of xs w = w.watchers ≡ xs

abbrev Keeps : List Watcher → Result (World × ℕ) Refusal → Type 0
Keeps xs done = OnDone (Of xs) done

abbrev OpKeeps : World → World × ℕ → Type 0
OpKeeps w d = d.0.watchers ≡ w.watchers

go_back-keeps : (version : ℕ) (w : World) (s : Service) (spec : Option ServiceSpec) → Keeps w.watchers (go_back version w s spec)
go_back-keeps version w s None = tt
go_back-keeps version w s (Some spec) = refl

op-keeps : (version : ℕ) (w : World) (o : Op) → Keeps w.watchers (apply_op version w o)
op-keeps version w (op.CreateNode name draft) = given-unless (OpKeeps w) _ _ (λ e. refl)
op-keeps version w (op.UpdateNode name asked labels r a) =
    given-found (OpKeeps w) kind.Node (wanted_by.Name name) (node_by w.tables name)
    (λ n. update_node w asked n (respecified_node version labels r a n))
    (λ (n : Node) e. given-unless (OpKeeps w) _ _ (λ ok. refl))
op-keeps version w (op.RemoveNode name force) =
    given-found (OpKeeps w) kind.Node (wanted_by.Name name) (node_by w.tables name)
    (remove_node version w force)
    (λ (n : Node) e. given-unless (OpKeeps w) _ _ (λ ok. refl))
op-keeps version w (op.CreateService name d) =
    given-unless (OpKeeps w) _ _ (λ e. refl)
op-keeps version w (op.UpdateService name asked d) =
    given-found (OpKeeps w) kind.Service (wanted_by.Name name) (service_by w.tables name)
    (update_service version w asked d)
    (λ (s : Service) e. given-unless (OpKeeps w) _ _ (λ ok. refl))
op-keeps version w (op.RemoveService name) =
    given-found (OpKeeps w) kind.Service (wanted_by.Name name) (service_by w.tables name)
    (remove_service w) (λ (s : Service) e. refl)
op-keeps version w (op.RollbackService name asked) =
    given-found (OpKeeps w) kind.Service (wanted_by.Name name) (service_by w.tables name)
    (rollback_service version w asked)
    (λ (s : Service) e. given-unless_some (OpKeeps w) (conflict asked s.version) _
    (λ ok. go_back-keeps version w s s.previous))
op-keeps version w (op.CreateNetwork name base bits) =
    given-unless (OpKeeps w) _ _ (λ e. refl)
op-keeps version w (op.RemoveNetwork name) =
    given-found (OpKeeps w) kind.Network (wanted_by.Name name) (network_by w.tables name)
    (remove_network w)
    (λ (n : Network) e. given-unless (OpKeeps w) _ _ (λ ok. refl))
op-keeps version w (op.SetCluster settings) =
    given-unless (OpKeeps w) _ _ (λ e. refl)

ops-keep-watchers : (version : ℕ) (w : World) (ops : List Op) →
    OnGiven (λ (d : World × List ℕ). d.0.watchers ≡ w.watchers) (apply_ops version ops w [])
ops-keep-watchers version w ops =
    ops-keep (Of w.watchers) version
    (λ v o same. subst (λ xs. Keeps xs (apply_op version v o)) same (op-keeps version v o)) ops w [] refl

-- Calls keep them, but for the three on watchers.

abbrev pub is_on_watchers : Call → Bool
is_on_watchers (call.WatchBegin f) = true
is_on_watchers (call.WatchPoll id) = true
is_on_watchers (call.WatchFinish id) = true
is_on_watchers _ = false

abbrev pub CallKeeps : World → Reply × World → Type 0
CallKeeps w d = d.1.watchers ≡ w.watchers

-- where the call is answered, its world has the same watchers
abbrev pub KeepsWatchers : World → Answered → Type 0
KeepsWatchers w given = OnGiven (CallKeeps w) given

txn-keeps : (w : World) (r : Result (World × List ℕ) Refusal) → OnGiven (λ (d : World × List ℕ). d.0.watchers ≡ w.watchers) r →
    KeepsWatchers w (txn_answer r)
txn-keeps w (Ok done) same = same
txn-keeps w (Err r) same = tt

view-keeps : (w : World) (v : View) → KeepsWatchers w (viewed w v)
view-keeps w (Ok v) = refl
view-keeps w (Err r) = tt

agent-keeps : (w : World) (name : List ℕ) (change : NodeAgent → NodeAgent) → KeepsWatchers w (on_agent w name change)
agent-keeps w name change =
    given-found (CallKeeps w) kind.Node (wanted_by.Name name) (node_by w.tables name)
    (λ n. cond n.remote (Err (refusal.WrongKind n.id)) (Ok (reply.AgentDone n.id, change_agent n.id change w)))
    (λ (n : Node) e. given-if_not (CallKeeps w) n.remote
    (Ok (reply.AgentDone n.id, change_agent n.id change w)) (refusal.WrongKind n.id) (λ k. refl))

remote-keeps : (w : World) (name : List ℕ) (next : Node → Answered) → ((n : Node) → KeepsWatchers w (next n)) →
    KeepsWatchers w (on_remote w.tables name next)
remote-keeps w name next each =
    given-found (CallKeeps w) kind.Node (wanted_by.Name name) (node_by w.tables name)
    (λ n. cond n.remote (next n) (Err (refusal.WrongKind n.id)))
    (λ (n : Node) e. given-if (CallKeeps w) n.remote (next n) (refusal.WrongKind n.id)
    (λ k. each n))

session-keeps : (w : World) (name : List ℕ) (session : ℕ) (next : Node → Answered) → ((n : Node) → KeepsWatchers w (next n)) →
    KeepsWatchers w (on_session w.tables name session next)
session-keeps w name session next each =
    remote-keeps w name
    (λ n. elim (not_admitted w.tables.clock session (session_of w.tables n.id)) [ Some r ↦ Err r | None ↦ next n ])
    (λ n. given-unless_some (CallKeeps w)
    (not_admitted w.tables.clock session (session_of w.tables n.id)) (next n) (λ e. each n))

pulled-keeps : (w : World) (node : ℕ) (m : Option Message) → (pulled w node m).watchers ≡ w.watchers
pulled-keeps w node None = refl
pulled-keeps w node (Some m) = refl

pub answer-watchers : (version : ℕ) (w : World) (c : Call) → is_on_watchers c ≡ false → KeepsWatchers w (answer version w c)
answer-watchers version w (call.Txn ops) other =
    given-if_not (CallKeeps w) (nat_lt most_ops (length ops)) _ _
    (λ e. txn-keeps w _ (ops-keep-watchers version w ops))
answer-watchers version w (call.View asked) other = view-keeps w (shows w.tables asked)
answer-watchers version w (call.WatchBegin f) other = absurd cc
answer-watchers version w (call.WatchPoll id) other = absurd cc
answer-watchers version w (call.WatchFinish id) other = absurd cc
answer-watchers version w (call.Tick ms) other =
    given-unless (CallKeeps w) _ _ (λ e. refl)
answer-watchers version w (call.Settle budget) other = refl
answer-watchers version w (call.NodeFail name) other = agent-keeps w name _
answer-watchers version w (call.NodeStart name) other = agent-keeps w name _
answer-watchers version w (call.AgentStop name) other = agent-keeps w name _
answer-watchers version w (call.AgentStart name) other = agent-keeps w name _
answer-watchers version w (call.RemoteBegin name cpu mem) other =
    remote-keeps w name (λ n. begin_with version w n.id (given_or cpu n.cpu) (given_or mem n.mem))
    (λ n. given-unless (CallKeeps w) _ _ (λ e. refl))
answer-watchers version w (call.RemoteBeat name session) other =
    session-keeps w name session
    (λ n. Ok (reply.Beat (w.tables.clock + 3 * w.tables.settings.heartbeat), with_tables w (after_beat w.tables n.id)))
    (λ n. refl)
answer-watchers version w (call.RemotePull name session) other =
    session-keeps w name session
    (λ n. Ok (reply.Pulled (message_for w n.id), pulled w n.id (message_for w n.id)))
    (λ n. pulled-keeps w n.id (message_for w n.id))
answer-watchers version w (call.RemoteStatus name session task s) other =
    session-keeps w name session
    (λ n. found kind.Task (wanted_by.Id task) (row_at task_id task w.tables.tasks) (report version w n.id s))
    (λ n. given-found (CallKeeps w) kind.Task (wanted_by.Id task)
    (row_at task_id task w.tables.tasks) (report version w n.id s)
    (λ (x : Task) e. given-unless (CallKeeps w) _ _ (λ ok. refl)))
answer-watchers version w call.Halt other = refl

-- After any entry each watcher was there before it, or has its cursor at the entry.

abbrev pub IsSeen : World → Watcher → Type 0
IsSeen w x = Has w.watchers x ⊎ (x.cursor ≡ w.entries + 1)

abbrev pub Sees : World → World → Type 0
Sees w v = (x : Watcher) → Has v.watchers x → IsSeen w x

pub same-sees : (w v : World) → v.watchers ≡ w.watchers → Sees w v
same-sees w v same x h = inl (subst (λ xs. Has xs x) same h)

comes-sees : (w : World) (x y : Watcher) → x.cursor ≡ w.entries + 1 → Has w.watchers y ⊎ Has (x ∷ []) y → IsSeen w y
comes-sees w x y at (inl h) = inl h
comes-sees w x y at (inr (inl e)) = inr (ap (λ (z : Watcher). z.cursor) (sym e) ∙ at)
comes-sees w x y at (inr (inr h)) = absurd h

goes-sees : (w : World) (id : ℕ) → Sees w (without_watcher id w)
goes-sees w id x h = inl (Has-filter_cases _ w.watchers x h).0

told-one : (w : World) (x y : Watcher) (b : Bool) → Has w.watchers x → cond b (told_all (w.entries + 1) x) x ≡ y → IsSeen w y
told-one w x y true h e = inr (ap (λ (z : Watcher). z.cursor) (sym e))
told-one w x y false h e = inl (subst (Has w.watchers) e h)

told-sees : (w : World) (id : ℕ) → Sees w (told_at (w.entries + 1) id w)
told-sees w id y h =
    let r = Has-map_cases (λ x. cond (watcher_id x == id) (told_all (w.entries + 1) x) x) w.watchers y h in
    told-one w r.0 y (watcher_id r.0 == id) r.1 r.2

polled-sees : (w : World) (id : ℕ) (events : List Event) (b : Bool) →
    Sees w (cond {A = Reply × World} b (reply.Refused (refusal.Lagged (length events)), without_watcher id w) (reply.Events events, told_at (w.entries + 1) id w)).1
polled-sees w id events true = goes-sees w id
polled-sees w id events false = told-sees w id

abbrev pub GivenSees : World → Answered → Type 0
GivenSees w given = OnGiven (λ (d : Reply × World). Sees w d.1) given

poll-sees : (w : World) (id : ℕ) (x : Option Watcher) → GivenSees w (watch_poll (w.entries + 1) w id x)
poll-sees w id None = tt
poll-sees w id (Some x) =
    polled-sees w id (waiting_events w x) (nat_lt most_events (length (waiting_events w x)))

finish-sees : (w : World) (id : ℕ) (x : Option Watcher) → GivenSees w (watch_finish w id x)
finish-sees w id None = tt
finish-sees w id (Some x) = goes-sees w id

given-sees : (w : World) (given : Answered) → KeepsWatchers w given → GivenSees w given
given-sees w (Ok done) same = same-sees w done.1 same
given-sees w (Err r) same = tt

-- the three on watchers
watch-sees : (w : World) (c : Call) → is_on_watchers c ≡ true → GivenSees w (answer (w.entries + 1) w c)
watch-sees w (call.WatchBegin f) on =
    given-unless (λ (d : Reply × World). Sees w d.1) _ _
    (λ e x h. comes-sees w (new_watcher (w.entries + 1) w.tables.next_id f) x refl (Has-append_cases w.watchers _ x h))
watch-sees w (call.WatchPoll id) on = poll-sees w id (row_at watcher_id id w.watchers)
watch-sees w (call.WatchFinish id) on = finish-sees w id (row_at watcher_id id w.watchers)
watch-sees w _ on = absurd cc

pub answer-sees : (w : World) (c : Call) → GivenSees w (answer (w.entries + 1) w c)
answer-sees w c = go (is_on_watchers c) refl
  where
    go : (on : Bool) → is_on_watchers c ≡ on → GivenSees w (answer (w.entries + 1) w c)
    go true e = watch-sees w c e
    go false e = given-sees w (answer (w.entries + 1) w c) (answer-watchers (w.entries + 1) w c e)
