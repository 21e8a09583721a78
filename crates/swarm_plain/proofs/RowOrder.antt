-- Every call leaves the rows whose changes are told by rising id, below the next one.
use Rattle.std.proofs.Common.{◌≡◌, ℕ, ◌+◌, ◌*◌, Bool, true, false, cond, eqb, List, [], ◌∷◌, ◌++◌, refl, sym, ◌∙◌, subst, arith, Option, Some, None, Result, Ok, Err, length, nat_lt}
use Rattle.std.proofs.lemmas.Bool.Decides.{nat_tests}
use Rattle.std.specs.Prelude.{filter, map}
use Rattle.swarm_model.proofs.Base.Answers.{OnDone, OnGiven, given-found, given-if, given-if_not, given-is, given-unless, given-unless_some, ops-keep}
use Rattle.swarm_model.proofs.Moves.Opening.{within-becomes}
use Rattle.swarm_model.proofs.Moves.Rows.{Becomes, RisesBetween, between-becomes}
use Rattle.swarm_model.proofs.Moves.Worlds.{TaskMoves}
use Rattle.swarm_model.proofs.Laws.Sound.{below-between}
use Rattle.swarm_model.specs.Calls.{answer, txn_answer, viewed}
use Rattle.swarm_model.specs.Calls.Faults.{on_agent}
use Rattle.swarm_model.specs.Calls.Networks.{new_network, remove_network}
use Rattle.swarm_model.specs.Calls.Nodes.{is_left_behind, remove_node, tables_without_node, update_node}
use Rattle.swarm_objects.specs.NewRows.{new_node, respecified_node}
use Rattle.swarm_model.specs.Calls.Operations.{apply_op}
use Rattle.swarm_model.specs.Calls.Refusals.{conflict, found, network_by, node_by, service_by}
use Rattle.swarm_model.specs.Calls.Remote.{begin_with, begun_tables, given_or, on_remote, on_session, pulled, report}
use Rattle.swarm_objects.specs.Nodes.Admission.{not_admitted}
use Rattle.swarm_objects.specs.Nodes.Opening.{tasks_within, with_resources}
use Rattle.swarm_model.specs.Calls.Services.{filled, go_back, new_service, remove_service, rollback_service, update_service}
use Rattle.swarm_objects.specs.NewRows.{respecified}
use Rattle.swarm_model.specs.Calls.Views.{View, shows}
use Rattle.swarm_model.specs.Calls.Watches.{told_at, waiting_events, watch_finish, watch_poll, without_watcher}
use Rattle.swarm_model.specs.Outcome.{Answered}
use Rattle.swarm_objects.proofs.Gaps.{IsRising-filter}
use Rattle.swarm_objects.proofs.RowLemmas.{IsBelow-map, IsBelow-more, RisesFrom-map, RisesFrom-push}
use Rattle.swarm_objects.specs.Agents.Messages.{message_for}
use Rattle.swarm_objects.specs.Changes.{change_service, id_taken, in_state, raised_to, with_tables}
use Rattle.swarm_objects.specs.Limits.{most_events, most_ops}
use Rattle.swarm_objects.specs.Loops.Agents.{after_beat, change_agent}
use Rattle.swarm_objects.specs.Nodes.Sessions.{session_of}
use Rattle.swarm_objects.specs.Rows.{IsBelow, IsRising, RisesFrom, change_row, network_id, node_id, row_at, service_id, task_id, watcher_id}
use Rattle.swarm_objects.specs.World.{Tables, World}
use Rattle.swarm_objects.specs.declared.agents.NodeAgent.{NodeAgent}
use Rattle.swarm_objects.specs.declared.calls.Call.{Call}
use Rattle.swarm_objects.specs.declared.calls.Call.TheVariants as call
use Rattle.swarm_objects.specs.declared.calls.Op.{Op}
use Rattle.swarm_objects.specs.declared.calls.Op.TheVariants as op
use Rattle.swarm_objects.specs.declared.ids.Kind.TheVariants as kind
use Rattle.swarm_objects.specs.declared.messages.Message.{Message}
use Rattle.swarm_objects.specs.declared.networks.Network.{Network}
use Rattle.swarm_objects.specs.declared.nodes.Node.{Node}
use Rattle.swarm_objects.specs.declared.replies.Refusal.{Refusal}
use Rattle.swarm_objects.specs.declared.replies.Refusal.TheVariants as refusal
use Rattle.swarm_objects.specs.declared.replies.Reply.{Reply}
use Rattle.swarm_objects.specs.declared.replies.Reply.TheVariants as reply
use Rattle.swarm_objects.specs.declared.replies.Wanted.TheVariants as wanted_by
use Rattle.swarm_objects.specs.declared.services.Service.{Service}
use Rattle.swarm_objects.specs.declared.services.ServiceSpec.{ServiceSpec}
use Rattle.swarm_objects.specs.declared.tasks.Task.{Task}
use Rattle.swarm_objects.specs.Values.Ranks.{rank}
use Rattle.swarm_objects.specs.declared.tasks.TaskState.{TaskState}
use Rattle.swarm_objects.specs.declared.tasks.TaskState.TheVariants as state
use Rattle.swarm_objects.specs.declared.watches.Event.{Event}
use Rattle.swarm_objects.specs.declared.watches.Watcher.{Watcher}
use Rattle.swarm_plain.specs.Entries.{HasOrder}

-- One table.

abbrev Stands : {X : Type 0} → (X → ℕ) → ℕ → List X → Type 0
Stands key next rows = IsRising key rows × IsBelow key next rows

between-from : {X : Type 0} (key : X → ℕ) (m n : ℕ) (rows : List X) → RisesFrom key m rows → IsBelow key n rows →
    RisesBetween key (m + 1) n rows
between-from key m n [] r b = tt
between-from key m n (x ∷ rows) r b = (omega (arith, r.0), b.0, between-from key (key x) n rows r.1 b.1)

to-between : {X : Type 0} (key : X → ℕ) (n : ℕ) (rows : List X) → Stands key n rows → RisesBetween key 0 n rows
to-between key n [] r = tt
to-between key n (x ∷ rows) r = (omega arith, r.1.0, between-from key (key x) n rows r.0 r.1.1)

rises-from : {X : Type 0} (key : X → ℕ) (m n : ℕ) (rows : List X) → RisesBetween key (m + 1) n rows → RisesFrom key m rows
rises-from key m n [] r = tt
rises-from key m n (x ∷ rows) r = (omega (arith, r.0), rises-from key (key x) n rows r.2)

from-between : {X : Type 0} (key : X → ℕ) (n : ℕ) (rows : List X) → RisesBetween key 0 n rows → Stands key n rows
from-between key n [] r = (tt, tt)
from-between key n (x ∷ rows) r = (rises-from key (key x) n rows r.2, (r.1, below-between key (key x + 1) n rows r.2))

-- rows that keep their keys
stands-becomes : {X : Type 0} (R : X → X → Type 0) (key : X → ℕ) (n : ℕ) (old new : List X) → ((x y : X) → R x y → key y ≡ key x) →
    Stands key n old → Becomes R [] old new → Stands key n new
stands-becomes R key n old new keeps is b =
    from-between key n new (between-becomes R key keeps 0 n n [] old new (omega arith) (omega arith) (to-between key n old is) tt b)

stands-map : {X : Type 0} (key : X → ℕ) (n : ℕ) (f : X → X) (rows : List X) → ((x : X) → key (f x) ≡ key x) → Stands key n rows →
    Stands key n (map f rows)
stands-map key n f [] same is = (tt, tt)
stands-map key n f (x ∷ rows) same is =
    (rw (same x) (RisesFrom-map key (key x) f rows same is.0), IsBelow-map key n f (x ∷ rows) same is.1)

-- the changed row has its key
changed-key : {X : Type 0} (key : X → ℕ) (id : ℕ) (f : X → X) → ((x : X) → key x ≡ id → key (f x) ≡ key x) → (x : X) →
    key (cond (eqb (key x) id) (f x) x) ≡ key x
changed-key key id f same x = go (eqb (key x) id) refl
  where
    go : (b : Bool) → eqb (key x) id ≡ b → key (cond b (f x) x) ≡ key x
    go true e = same x (grind (arith, nat_tests))
    go false e = refl

stands-change : {X : Type 0} (key : X → ℕ) (n id : ℕ) (f : X → X) (rows : List X) → ((x : X) → key x ≡ id → key (f x) ≡ key x) →
    Stands key n rows → Stands key n (change_row key id f rows)
stands-change key n id f rows same is =
    stands-map key n (λ x. cond (eqb (key x) id) (f x) x) rows (changed-key key id f same) is

below-filter : {X : Type 0} (key : X → ℕ) (n : ℕ) (p : X → Bool) (rows : List X) → IsBelow key n rows → IsBelow key n (filter p rows)
below-filter key n p [] b = tt
below-filter key n p (x ∷ rows) b = go (p x) (below-filter key n p rows b.1)
  where
    go : (t : Bool) → IsBelow key n (filter p rows) → IsBelow key n (cond t (x ∷ filter p rows) (filter p rows))
    go true k = (b.0, k)
    go false k = k

stands-filter : {X : Type 0} (key : X → ℕ) (n : ℕ) (p : X → Bool) (rows : List X) → Stands key n rows → Stands key n (filter p rows)
stands-filter key n p rows is = (IsRising-filter key p rows is.0, below-filter key n p rows is.1)

stands-more : {X : Type 0} (key : X → ℕ) (n : ℕ) (rows : List X) → Stands key n rows → Stands key (n + 1) rows
stands-more key n rows is = (is.0, IsBelow-more key n (n + 1) rows (omega arith) is.1)

below-push : {X : Type 0} (key : X → ℕ) (n : ℕ) (rows : List X) (x : X) → IsBelow key n rows → key x ≡ n → IsBelow key (n + 1) (rows ++ x ∷ [])
below-push key n [] x b e = (omega (arith, e), tt)
below-push key n (y ∷ rows) x b e = (omega (arith, b.0), below-push key n rows x b.1 e)

rising-push : {X : Type 0} (key : X → ℕ) (n : ℕ) (rows : List X) (x : X) → Stands key n rows → key x ≡ n → IsRising key (rows ++ x ∷ [])
rising-push key n [] x is e = tt
rising-push key n (y ∷ rows) x is e =
    let below : IsBelow key (key x) (y ∷ rows) = subst (λ k. IsBelow key k (y ∷ rows)) (sym e) is.1 in
    RisesFrom-push key (key y) rows x is.0 below.1 below.0

stands-push : {X : Type 0} (key : X → ℕ) (n : ℕ) (rows : List X) (x : X) → key x ≡ n → Stands key n rows → Stands key (n + 1) (rows ++ x ∷ [])
stands-push key n rows x e is = (rising-push key n rows x is e, below-push key n rows x is.1 e)

-- All four.

in-order : (t : Tables) → Stands node_id t.next_id t.nodes → Stands service_id t.next_id t.services → Stands task_id t.next_id t.tasks →
    Stands network_id t.next_id t.networks → HasOrder t
in-order t n s x k = record {
  nodes = n.0;
  services = s.0;
  tasks = x.0;
  networks = k.0;
  below = record { nodes = n.1; services = s.1; tasks = x.1; networks = k.1 };
}

of-nodes : (t : Tables) → HasOrder t → Stands node_id t.next_id t.nodes
of-nodes t is = (is.nodes, is.below.nodes)

of-services : (t : Tables) → HasOrder t → Stands service_id t.next_id t.services
of-services t is = (is.services, is.below.services)

of-tasks : (t : Tables) → HasOrder t → Stands task_id t.next_id t.tasks
of-tasks t is = (is.tasks, is.below.tasks)

of-networks : (t : Tables) → HasOrder t → Stands network_id t.next_id t.networks
of-networks t is = (is.networks, is.below.networks)

new-nodes : (t : Tables) (rows : List Node) → HasOrder t → Stands node_id t.next_id rows → HasOrder (record t { nodes = rows })
new-nodes t rows is n = in-order (record t { nodes = rows }) n (of-services t is) (of-tasks t is) (of-networks t is)

new-services : (t : Tables) (rows : List Service) → HasOrder t → Stands service_id t.next_id rows → HasOrder (record t { services = rows })
new-services t rows is s = in-order (record t { services = rows }) (of-nodes t is) s (of-tasks t is) (of-networks t is)

new-tasks : (t : Tables) (rows : List Task) → HasOrder t → Stands task_id t.next_id rows → HasOrder (record t { tasks = rows })
new-tasks t rows is x = in-order (record t { tasks = rows }) (of-nodes t is) (of-services t is) x (of-networks t is)

new-networks : (t : Tables) (rows : List Network) → HasOrder t → Stands network_id t.next_id rows → HasOrder (record t { networks = rows })
new-networks t rows is k = in-order (record t { networks = rows }) (of-nodes t is) (of-services t is) (of-tasks t is) k

-- the same rows, below a higher number
taken : (t : Tables) → HasOrder t → HasOrder (id_taken t)
taken t is =
    in-order (id_taken t) (stands-more node_id t.next_id t.nodes (of-nodes t is))
    (stands-more service_id t.next_id t.services (of-services t is)) (stands-more task_id t.next_id t.tasks (of-tasks t is))
    (stands-more network_id t.next_id t.networks (of-networks t is))

-- the same rows, whatever else there is
same-rows : (t u : Tables) → u.next_id ≡ t.next_id → u.nodes ≡ t.nodes → u.services ≡ t.services → u.tasks ≡ t.tasks →
    u.networks ≡ t.networks → HasOrder t → HasOrder u
same-rows t u next n s x k is =
    in-order u
    (subst (λ m. Stands node_id m u.nodes) (sym next) (subst (Stands node_id t.next_id) (sym n) (of-nodes t is)))
    (subst (λ m. Stands service_id m u.services) (sym next) (subst (Stands service_id t.next_id) (sym s) (of-services t is)))
    (subst (λ m. Stands task_id m u.tasks) (sym next) (subst (Stands task_id t.next_id) (sym x) (of-tasks t is)))
    (subst (λ m. Stands network_id m u.networks) (sym next) (subst (Stands network_id t.next_id) (sym k) (of-networks t is)))

-- Operations.

abbrev InOrder : World → Type 0
InOrder w = HasOrder w.tables

abbrev OpKeeps : World × ℕ → Type 0
OpKeeps d = InOrder d.0

orphaned : (version node : ℕ) (clock : ℕ) (x : Task) → task_id (cond (is_left_behind node x) (in_state version clock state.Orphaned x) x) ≡ task_id x
orphaned version node clock x = go (is_left_behind node x)
  where
    go : (b : Bool) → task_id (cond b (in_state version clock state.Orphaned x) x) ≡ task_id x
    go true = refl
    go false = refl

node-leaves : (version : ℕ) (t : Tables) (id : ℕ) → HasOrder t → HasOrder (tables_without_node version t id)
node-leaves version t id is =
    in-order (tables_without_node version t id)
    (stands-filter node_id t.next_id _ t.nodes (of-nodes t is)) (of-services t is)
    (stands-map task_id t.next_id (λ x. cond (is_left_behind id x) (in_state version t.clock state.Orphaned x) x) t.tasks
    (orphaned version id t.clock) (of-tasks t is))
    (of-networks t is)

service-changes : (t : Tables) (s new : Service) → new.id ≡ s.id → HasOrder t → HasOrder (change_service s.id (λ old. new) t)
service-changes t s new same is =
    new-services t _ is
    (stands-change service_id t.next_id s.id (λ old. new) t.services (λ x e. same ∙ sym e) (of-services t is))

back-keeps : (version : ℕ) (w : World) (s : Service) (spec : Option ServiceSpec) → InOrder w → OnDone InOrder (go_back version w s spec)
back-keeps version w s None is = tt
back-keeps version w s (Some spec) is = service-changes w.tables s (respecified version true spec s) refl is

op-keeps : (version : ℕ) (w : World) (o : Op) → InOrder w → OnDone InOrder (apply_op version w o)
op-keeps version w (op.CreateNode name draft) is =
    given-unless OpKeeps _ _
    (λ e. new-nodes (id_taken w.tables) _ (taken w.tables is)
    (stands-push node_id w.tables.next_id w.tables.nodes (new_node version w.tables.next_id name draft) refl (of-nodes w.tables is)))
op-keeps version w (op.UpdateNode name asked labels r a) is =
    given-found OpKeeps kind.Node (wanted_by.Name name) (node_by w.tables name)
    (λ n. update_node w asked n (respecified_node version labels r a n))
    (λ (n : Node) e. given-unless OpKeeps _ _
    (λ ok. new-nodes w.tables _ is
    (stands-change node_id w.tables.next_id n.id (λ old. respecified_node version labels r a n) w.tables.nodes (λ x k. sym k)
    (of-nodes w.tables is))))
op-keeps version w (op.RemoveNode name force) is =
    given-found OpKeeps kind.Node (wanted_by.Name name) (node_by w.tables name)
    (remove_node version w force)
    (λ (n : Node) e. given-unless OpKeeps _ _ (λ ok. node-leaves version w.tables n.id is))
op-keeps version w (op.CreateService name d) is =
    given-unless OpKeeps _ _
    (λ e. new-services (id_taken w.tables) _ (taken w.tables is)
    (stands-push service_id w.tables.next_id w.tables.services (new_service version w.tables name d) refl (of-services w.tables is)))
op-keeps version w (op.UpdateService name asked d) is =
    given-found OpKeeps kind.Service (wanted_by.Name name) (service_by w.tables name)
    (update_service version w asked d)
    (λ (s : Service) e. given-unless OpKeeps _ _
    (λ ok. service-changes w.tables s (respecified version false (filled w.tables d) s) refl is))
op-keeps version w (op.RemoveService name) is =
    given-found OpKeeps kind.Service (wanted_by.Name name) (service_by w.tables name)
    (remove_service w)
    (λ (s : Service) e.
    in-order _ (of-nodes w.tables is) (stands-filter service_id w.tables.next_id _ w.tables.services (of-services w.tables is))
    (of-tasks w.tables is) (of-networks w.tables is))
op-keeps version w (op.RollbackService name asked) is =
    given-found OpKeeps kind.Service (wanted_by.Name name) (service_by w.tables name)
    (rollback_service version w asked)
    (λ (s : Service) e. given-unless_some OpKeeps (conflict asked s.version) _ (λ ok. back-keeps version w s s.previous is))
op-keeps version w (op.CreateNetwork name base bits) is =
    given-unless OpKeeps _ _
    (λ e. new-networks (id_taken w.tables) _ (taken w.tables is)
    (stands-push network_id w.tables.next_id w.tables.networks (new_network version w.tables.next_id name base bits) refl
    (of-networks w.tables is)))
op-keeps version w (op.RemoveNetwork name) is =
    given-found OpKeeps kind.Network (wanted_by.Name name) (network_by w.tables name)
    (remove_network w)
    (λ (n : Network) e. given-unless OpKeeps _ _
    (λ ok. new-networks w.tables _ is (stands-filter network_id w.tables.next_id _ w.tables.networks (of-networks w.tables is))))
op-keeps version w (op.SetCluster settings) is =
    given-unless OpKeeps _ _ (λ e. same-rows w.tables _ refl refl refl refl refl is)

-- Calls.

abbrev CallKeeps : Reply × World → Type 0
CallKeeps d = InOrder d.1

abbrev Keeps : Answered → Type 0
Keeps given = OnGiven CallKeeps given

txn-keeps : (r : Result (World × List ℕ) Refusal) → OnGiven (λ (d : World × List ℕ). InOrder d.0) r → Keeps (txn_answer r)
txn-keeps (Ok done) is = is
txn-keeps (Err r) is = tt

view-keeps : (w : World) (v : View) → InOrder w → Keeps (viewed w v)
view-keeps w (Ok v) is = is
view-keeps w (Err r) is = tt

polled-keeps : (version : ℕ) (w : World) (id : ℕ) (events : List Event) (lagged : Bool) → InOrder w →
    InOrder (cond {A = Reply × World} lagged (reply.Refused (refusal.Lagged (length events)), without_watcher id w)
    (reply.Events events, told_at version id w)).1
polled-keeps version w id events true is = is
polled-keeps version w id events false is = is

poll-keeps : (version : ℕ) (w : World) (id : ℕ) (x : Option Watcher) → InOrder w → Keeps (watch_poll version w id x)
poll-keeps version w id None is = tt
poll-keeps version w id (Some x) is =
    polled-keeps version w id (waiting_events w x) (nat_lt most_events (length (waiting_events w x))) is

finish-keeps : (w : World) (id : ℕ) (x : Option Watcher) → InOrder w → Keeps (watch_finish w id x)
finish-keeps w id None is = tt
finish-keeps w id (Some x) is = is

agent-keeps : (w : World) (name : List ℕ) (change : NodeAgent → NodeAgent) → InOrder w → Keeps (on_agent w name change)
agent-keeps w name change is =
    given-found CallKeeps kind.Node (wanted_by.Name name) (node_by w.tables name)
    (λ n. cond n.remote (Err (refusal.WrongKind n.id)) (Ok (reply.AgentDone n.id, change_agent n.id change w)))
    (λ (n : Node) e. given-if_not CallKeeps n.remote
    (Ok (reply.AgentDone n.id, change_agent n.id change w)) (refusal.WrongKind n.id) (λ k. is))

remote-keeps : (w : World) (name : List ℕ) (next : Node → Answered) → ((n : Node) → Keeps (next n)) → Keeps (on_remote w.tables name next)
remote-keeps w name next each =
    given-found CallKeeps kind.Node (wanted_by.Name name) (node_by w.tables name)
    (λ n. cond n.remote (next n) (Err (refusal.WrongKind n.id)))
    (λ (n : Node) e. given-if CallKeeps n.remote (next n) (refusal.WrongKind n.id) (λ k. each n))

session-keeps : (w : World) (name : List ℕ) (session : ℕ) (next : Node → Answered) → ((n : Node) → Keeps (next n)) →
    Keeps (on_session w.tables name session next)
session-keeps w name session next each =
    remote-keeps w name
    (λ n. elim (not_admitted w.tables.clock session (session_of w.tables n.id)) [ Some r ↦ Err r | None ↦ next n ])
    (λ n. given-unless_some CallKeeps (not_admitted w.tables.clock session (session_of w.tables n.id)) (next n) (λ e. each n))

pulled-keeps : (w : World) (node : ℕ) (m : Option Message) → InOrder w → InOrder (pulled w node m)
pulled-keeps w node None is = is
pulled-keeps w node (Some m) is = is

begun-keeps : (version : ℕ) (t : Tables) (node cpu mem : ℕ) → HasOrder t → HasOrder (begun_tables version t node cpu mem)
begun-keeps version t node cpu mem is =
    in-order (begun_tables version t node cpu mem)
    (stands-more node_id t.next_id _
    (stands-change node_id t.next_id node (with_resources version cpu mem) t.nodes (λ x e. refl) (of-nodes t is)))
    (stands-more service_id t.next_id t.services (of-services t is))
    (stands-more task_id t.next_id _
    (stands-becomes TaskMoves task_id t.next_id t.tasks (tasks_within version t.clock node cpu mem t.tasks) (λ x y m. m.id) (of-tasks t is)
    (within-becomes version t.clock node cpu mem t.tasks)))
    (stands-more network_id t.next_id t.networks (of-networks t is))

raised-id : (version clock : ℕ) (s : TaskState) (x : Task) → task_id (raised_to version clock s x) ≡ task_id x
raised-id version clock s x = go (nat_lt (rank x.state) (rank s))
  where
    go : (b : Bool) → task_id (cond b (in_state version clock s x) x) ≡ task_id x
    go true = refl
    go false = refl

answer-keeps : (version : ℕ) (w : World) (c : Call) → InOrder w → Keeps (answer version w c)
answer-keeps version w (call.Txn ops) is =
    given-if_not CallKeeps (nat_lt most_ops (length ops)) _ _
    (λ e. txn-keeps _ (ops-keep InOrder version (λ v o. op-keeps version v o) ops w [] is))
answer-keeps version w (call.View asked) is = view-keeps w (shows w.tables asked) is
answer-keeps version w (call.WatchBegin f) is = given-unless CallKeeps _ _ (λ e. taken w.tables is)
answer-keeps version w (call.WatchPoll id) is = poll-keeps version w id (row_at watcher_id id w.watchers) is
answer-keeps version w (call.WatchFinish id) is = finish-keeps w id (row_at watcher_id id w.watchers) is
answer-keeps version w (call.Tick ms) is =
    given-unless CallKeeps _ _ (λ e. same-rows w.tables _ refl refl refl refl refl is)
answer-keeps version w (call.Settle budget) is = is
answer-keeps version w (call.NodeFail name) is = agent-keeps w name _ is
answer-keeps version w (call.NodeStart name) is = agent-keeps w name _ is
answer-keeps version w (call.AgentStop name) is = agent-keeps w name _ is
answer-keeps version w (call.AgentStart name) is = agent-keeps w name _ is
answer-keeps version w (call.RemoteBegin name cpu mem) is =
    remote-keeps w name (λ n. begin_with version w n.id (given_or cpu n.cpu) (given_or mem n.mem))
    (λ n. given-unless CallKeeps _ _ (λ e. begun-keeps version w.tables n.id (given_or cpu n.cpu) (given_or mem n.mem) is))
answer-keeps version w (call.RemoteBeat name session) is =
    session-keeps w name session
    (λ n. Ok (reply.Beat (w.tables.clock + 3 * w.tables.settings.heartbeat), with_tables w (after_beat w.tables n.id)))
    (λ n. same-rows w.tables (after_beat w.tables n.id) refl refl refl refl refl is)
answer-keeps version w (call.RemotePull name session) is =
    session-keeps w name session
    (λ n. Ok (reply.Pulled (message_for w n.id), pulled w n.id (message_for w n.id)))
    (λ n. pulled-keeps w n.id (message_for w n.id) is)
answer-keeps version w (call.RemoteStatus name session task s) is =
    session-keeps w name session
    (λ n. found kind.Task (wanted_by.Id task) (row_at task_id task w.tables.tasks) (report version w n.id s))
    (λ n. given-found CallKeeps kind.Task (wanted_by.Id task)
    (row_at task_id task w.tables.tasks) (report version w n.id s)
    (λ (x : Task) e. given-unless CallKeeps _ _
    (λ ok. new-tasks w.tables _ is
    (stands-change task_id w.tables.next_id x.id (raised_to version w.tables.clock s) w.tables.tasks
    (λ y k. raised-id version w.tables.clock s y) (of-tasks w.tables is)))))
answer-keeps version w call.Halt is = is

pub order-answer : (w v : World) (c : Call) (r : Reply) → HasOrder w.tables → answer (w.entries + 1) w c ≡ Ok (r, v) → HasOrder v.tables
order-answer w v c r is done = given-is CallKeeps (answer (w.entries + 1) w c) (r, v) (answer-keeps (w.entries + 1) w c is) done
