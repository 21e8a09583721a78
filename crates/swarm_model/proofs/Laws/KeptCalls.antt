-- Every call keeps a law of tables that each kind of change keeps; so every world of a legal history has it.
use Rattle.std.proofs.Common.{Bool, Err, List, None, Ok, Option, Result, Some, [], arith, cond, false, inl, length, nat_lt, refl, subst, sym, true, ℕ, ◌+◌, ◌≡◌, ◌≤◌}
use Rattle.std.proofs.lemmas.Bool.Decides.{nat_tests}
use Rattle.std.specs.Option.{option_map}
use Rattle.std.specs.Prelude.{filter, find, nat_le, not, ◌==◌}
use Rattle.swarm_model.proofs.Base.Answers.{OnGiven, given-found, given-if, given-if_not, given-unless, given-unless_some, none_of, not_refused, ops-keep}
use Rattle.swarm_model.proofs.Base.FromLists.{IsDuty-due}
use Rattle.swarm_model.proofs.Base.Histories.{replay-keeps, room_duty}
use Rattle.swarm_model.proofs.Laws.GivesOut.{GivesOut}
use Rattle.swarm_model.proofs.Laws.GivesOutReplay.{both-hold, gives-empty, whole-step}
use Rattle.swarm_model.proofs.Laws.Kept.{InOrder, Keeps, Runs, SameRoom, lighten-raised_to, node-keeps, order-of}
use Rattle.swarm_model.proofs.Laws.KeptDuties.{any-keeps, duty-keeps, runs-same}
use Rattle.swarm_model.proofs.Laws.Orderly.{orderly-empty}
use Rattle.swarm_model.proofs.Laws.Steps.{each-world}
use Rattle.swarm_model.proofs.Moves.Calls.{find-has}
use Rattle.swarm_model.proofs.Moves.Operations.{op-moves}
use Rattle.swarm_model.proofs.Moves.Rows.{becomes-filter, between-one}
use Rattle.swarm_model.proofs.Moves.Worlds.{IsOrderly, Moves, orderly-moves}
use Rattle.swarm_model.specs.Calls.Faults.{on_agent}
use Rattle.swarm_model.specs.Calls.Networks.{remove_network}
use Rattle.swarm_objects.specs.NewRows.{new_node, respecified_node}
use Rattle.swarm_model.specs.Calls.Nodes.{remove_node, update_node}
use Rattle.swarm_model.specs.Calls.Operations.{apply_op, apply_ops}
use Rattle.swarm_model.specs.Calls.Refusals.{Done, bad_spec, conflict, found, has_name, missing_network, name_taken, network_by, node_by, node_name, port_taken, row_named, service_by, service_name}
use Rattle.swarm_objects.specs.NewRows.{same_mode}
use Rattle.swarm_objects.specs.Refusals.{refuse}
use Rattle.swarm_model.specs.Calls.Remote.{begin_with, given_or, on_remote, on_session, pulled, remote_status, report}
use Rattle.swarm_objects.specs.Nodes.Admission.{not_admitted}
use Rattle.swarm_model.specs.Calls.Services.{broken_draft, create_service, go_back, is_attempt_of, remove_service, rollback_service, update_service, without_service}
use Rattle.swarm_model.specs.Calls.Views.{View, shows}
use Rattle.swarm_model.specs.Calls.Watches.{polled, told_at, waiting_events, watch_finish, watch_poll, without_watcher}
use Rattle.swarm_model.specs.Calls.{answer, answered, txn_answer, viewed}
use Rattle.swarm_model.specs.History.{IsLegal, may_follow, replay, step}
use Rattle.swarm_model.specs.Laws.Steps.{EachWorld}
use Rattle.swarm_model.specs.Outcome.{Answered}
use Rattle.swarm_objects.proofs.RowLemmas.{Has-filter_cases, Has-from_row_at}
use Rattle.swarm_objects.proofs.Tests.{first_so}
use Rattle.swarm_objects.specs.Agents.Messages.{is_assigned_on, message_for}
use Rattle.swarm_objects.specs.Changes.{id_taken}
use Rattle.swarm_objects.specs.Limits.{most_events, most_ops}
use Rattle.swarm_objects.specs.Loops.Agents.{change_agent}
use Rattle.swarm_objects.specs.Nodes.Sessions.{session_of}
use Rattle.swarm_objects.specs.Rows.{Has, drop_row, node_id, row_at, service_id, task_id, watcher_id}
use Rattle.swarm_objects.specs.Rules.Settings.{settings_break, settings_rules}
use Rattle.swarm_objects.specs.Tasks.Words.{is_on}
use Rattle.swarm_objects.specs.Values.Ranks.{rank}
use Rattle.swarm_objects.specs.World.{Tables, World, empty_tables, empty_world}
use Rattle.swarm_objects.specs.declared.agents.NodeAgent.{NodeAgent}
use Rattle.swarm_objects.specs.declared.calls.Call.TheVariants as call
use Rattle.swarm_objects.specs.declared.calls.Call.{Call}
use Rattle.swarm_objects.specs.declared.calls.Entry.{Entry}
use Rattle.swarm_objects.specs.declared.calls.Op.TheVariants as op
use Rattle.swarm_objects.specs.declared.calls.Op.{Op}
use Rattle.swarm_objects.specs.declared.calls.What.TheVariants as what
use Rattle.swarm_objects.specs.declared.calls.What.{What}
use Rattle.swarm_objects.specs.declared.ids.Kind.TheVariants as kind
use Rattle.swarm_objects.specs.declared.messages.Message.{Message}
use Rattle.swarm_objects.specs.declared.networks.Network.{Network}
use Rattle.swarm_objects.specs.declared.nodes.Availability.{Availability}
use Rattle.swarm_objects.specs.declared.nodes.Node.{Node}
use Rattle.swarm_objects.specs.declared.nodes.NodeRole.{NodeRole}
use Rattle.swarm_objects.specs.declared.replies.Refusal.TheVariants as refusal
use Rattle.swarm_objects.specs.declared.replies.Refusal.{Refusal}
use Rattle.swarm_objects.specs.declared.replies.Reply.TheVariants as reply
use Rattle.swarm_objects.specs.declared.replies.Reply.{Reply}
use Rattle.swarm_objects.specs.declared.replies.Wanted.TheVariants as wanted_by
use Rattle.swarm_objects.specs.declared.rules.SpecRule.{SpecRule}
use Rattle.swarm_objects.specs.declared.services.Draft.{Draft}
use Rattle.swarm_objects.specs.declared.services.Service.{Service}
use Rattle.swarm_objects.specs.declared.services.ServiceSpec.{ServiceSpec}
use Rattle.swarm_objects.specs.declared.tasks.Task.{Task}
use Rattle.swarm_objects.specs.declared.tasks.TaskState.TheVariants as state
use Rattle.swarm_objects.specs.declared.tasks.TaskState.{TaskState}
use Rattle.swarm_objects.specs.declared.watches.Event.{Event}
use Rattle.swarm_objects.specs.declared.watches.Watcher.{Watcher}

-- what holds of the tables of the world that an operation leaves
abbrev HoldsOn : (Tables → Type 0) → Done → Type 0
HoldsOn Q done = OnGiven (λ (d : World × ℕ). Q d.0.tables) done

pub named-has : {X : Type 0} (name_of : X → List ℕ) (name : List ℕ) (rows : List X) (x : X) →
    row_named name_of name rows ≡ Some x →
    Has rows x
named-has name_of name rows x e = find-has (has_name name_of name) rows x e

unbroken : (r : Option SpecRule) → bad_spec r ≡ None → r ≡ None
unbroken None e = refl
unbroken (Some r) e = absurd cc

-- Operations.

create-service : (Q : Tables → Type 0) → Keeps Q → (version : ℕ) (w : World) (name : List ℕ) (d : Draft) →
    InOrder w.tables →
    Q w.tables → HoldsOn Q (create_service version w name d)
create-service Q keeps version w name d is q =
    given-unless (λ (d : World × ℕ). Q d.0.tables) _ _
    (λ e.
    let rules = none_of (broken_draft d) _ e in
    let named = none_of (name_taken (option_map service_id (service_by w.tables name))) _ rules.1 in
    let networks = none_of (missing_network w.tables d.networks) _ named.1 in
    let ports = none_of (port_taken w.tables None d.spec.ports) _ networks.1 in
    keeps.service_comes version w.tables name d is q (record { rules = rules.0; ports = ports.0 }))

update-service : (Q : Tables → Type 0) → Keeps Q → (version : ℕ) (w : World) (asked : Option ℕ) (d : Draft)
    (s : Service) →
    InOrder w.tables → Q w.tables → Has w.tables.services s → HoldsOn Q (update_service version w asked d s)
update-service Q keeps version w asked d s is q there =
    given-unless (λ (d : World × ℕ). Q d.0.tables) _ _
    (λ e.
    let asked_so = none_of (conflict asked s.version) _ e in
    let rules = none_of (broken_draft d) _ asked_so.1 in
    let mode = none_of (refuse (not (same_mode d.spec.mode s.spec.mode)) refusal.ModeChange) _ rules.1 in
    let networks = none_of (missing_network w.tables d.networks) _ mode.1 in
    let ports = none_of (port_taken w.tables (Some s.id) d.spec.ports) _ networks.1 in
    keeps.updates version w.tables s d is q there
    (same (same_mode d.spec.mode s.spec.mode) (not_refused (not
    (same_mode d.spec.mode s.spec.mode)) refusal.ModeChange mode.0))
    (record { rules = rules.0; ports = ports.0 }))
  where
    same : (b : Bool) → not b ≡ false → b ≡ true
    same true e = refl
    same false e = absurd cc

back-service : (Q : Tables → Type 0) → Keeps Q → (version : ℕ) (w : World) (s : Service) (spec : Option ServiceSpec) →
    InOrder w.tables → Q w.tables → Has w.tables.services s → s.previous ≡ spec → HoldsOn Q (go_back version w s spec)
back-service Q keeps version w s None is q there e = tt
back-service Q keeps version w s (Some spec) is q there e = keeps.rolls_back version w.tables s spec is q there e

pub respecified-room : (version clock : ℕ) (labels : List (List ℕ × List ℕ)) (r : NodeRole) (a : Availability)
    (n m : Node) → n ≡ m →
    SameRoom clock m (respecified_node version labels r a n)
respecified-room version clock labels r a n m e =
    subst (λ (z : Node). SameRoom clock z (respecified_node version labels r a n)) e
    (record { id = refl; cpu = refl; mem = refl; down_since = inl refl })

without-service : (Q : Tables → Type 0) → Keeps Q → (t : Tables) (id : ℕ) → InOrder t → Q t → Q (without_service t id)
without-service Q keeps t id is q =
    let left = record t { services = drop_row service_id id t.services } in
    keeps.attempts left (filter (λ a. not (is_attempt_of id a)) t.attempts)
    (keeps.runs t (drop_row service_id id t.services) is q
    (becomes-filter (Runs t.clock) (λ s. not (service_id s == id)) (runs-same t.clock) t.services))
    (λ a h. inl (Has-filter_cases (λ a. not (is_attempt_of id a)) t.attempts a h).0)

op-keeps : (Q : Tables → Type 0) → Keeps Q → (version : ℕ) (w : World) (o : Op) → InOrder w.tables → Q w.tables →
    HoldsOn Q (apply_op version w o)
op-keeps Q keeps version w (op.CreateNode name draft) is q =
    given-unless (λ (d : World × ℕ). Q d.0.tables) _ _
    (λ e. keeps.node_comes w.tables (new_node version w.tables.next_id name draft) is q refl refl)
op-keeps Q keeps version w (op.UpdateNode name asked labels r a) is q =
    given-found (λ (d : World × ℕ). Q d.0.tables) kind.Node (wanted_by.Name name) (node_by w.tables name)
    (λ n. update_node w asked n (respecified_node version labels r a n))
    (λ (n : Node) e. given-unless (λ (d : World × ℕ). Q d.0.tables) _ _
    (λ ok. node-keeps Q keeps w.tables n.id (λ m. respecified_node version labels r a n) is q
    (λ m h same. respecified-room version w.tables.clock labels r a n m
    (between-one node_id 1 w.tables.next_id w.tables.nodes n m is.nodes
    (named-has node_name name w.tables.nodes n e) h (sym same)))))
op-keeps Q keeps version w (op.RemoveNode name force) is q =
    given-found (λ (d : World × ℕ). Q d.0.tables) kind.Node (wanted_by.Name name) (node_by w.tables name)
    (remove_node version w force)
    (λ (n : Node) e. given-unless (λ (d : World × ℕ). Q d.0.tables) _ _
    (λ ok. keeps.node_goes version w.tables n.id is q))
op-keeps Q keeps version w (op.CreateService name d) is q = create-service Q keeps version w name d is q
op-keeps Q keeps version w (op.UpdateService name asked d) is q =
    given-found (λ (d : World × ℕ). Q d.0.tables) kind.Service (wanted_by.Name name) (service_by w.tables name)
    (update_service version w asked d)
    (λ (s : Service) e. update-service Q keeps version w asked d s is q
    (named-has service_name name w.tables.services s e))
op-keeps Q keeps version w (op.RemoveService name) is q =
    given-found (λ (d : World × ℕ). Q d.0.tables) kind.Service (wanted_by.Name name) (service_by w.tables name)
    (remove_service w) (λ (s : Service) e. without-service Q keeps w.tables s.id is q)
op-keeps Q keeps version w (op.RollbackService name asked) is q =
    given-found (λ (d : World × ℕ). Q d.0.tables) kind.Service (wanted_by.Name name) (service_by w.tables name)
    (rollback_service version w asked)
    (λ (s : Service) e. given-unless_some (λ (d : World × ℕ). Q d.0.tables) (conflict asked s.version) _
    (λ ok. back-service Q keeps version w s s.previous is q (named-has service_name name w.tables.services s e) refl))
op-keeps Q keeps version w (op.CreateNetwork name base bits) is q =
    given-unless (λ (d : World × ℕ). Q d.0.tables) _ _
    (λ e. keeps.networks (id_taken w.tables) _ (keeps.ids w.tables is q))
op-keeps Q keeps version w (op.RemoveNetwork name) is q =
    given-found (λ (d : World × ℕ). Q d.0.tables) kind.Network (wanted_by.Name name) (network_by w.tables name)
    (remove_network w)
    (λ (n : Network) e. given-unless (λ (d : World × ℕ). Q d.0.tables) _ _ (λ ok. keeps.networks w.tables _ q))
op-keeps Q keeps version w (op.SetCluster settings) is q =
    given-unless (λ (d : World × ℕ). Q d.0.tables) _ _
    (λ e. keeps.settings w.tables settings (unbroken (find (settings_break settings) settings_rules) e) q)

ops-keep-all : (Q : Tables → Type 0) → Keeps Q → (version : ℕ) (w : World) (ops : List Op) → IsOrderly w → Q w.tables →
    OnGiven (λ (d : World × List ℕ). IsOrderly d.0 × Q d.0.tables) (apply_ops version ops w [])
ops-keep-all Q keeps version w ops is q =
    ops-keep (λ v. IsOrderly v × Q v.tables) version
    (λ v o holds.
    both-hold (λ (d : World × ℕ). Moves v d.0) (λ (d : World × ℕ). Q d.0.tables)
    (λ (d : World × ℕ). IsOrderly d.0 × Q d.0.tables)
    (apply_op version v o) (λ d m k. (orderly-moves v d.0 holds.0 m, k)) (op-moves version v o holds.0)
    (op-keeps Q keeps version v o (order-of v holds.0) holds.1))
    ops w [] (is, q)

-- Calls.

abbrev HoldsAfter : (Tables → Type 0) → Answered → Type 0
HoldsAfter Q given = OnGiven (λ (d : Reply × World). Q d.1.tables) given

txn-holds : (Q : Tables → Type 0) (r : Result (World × List ℕ) Refusal) →
    OnGiven (λ (d : World × List ℕ). IsOrderly d.0 × Q d.0.tables) r → HoldsAfter Q (txn_answer r)
txn-holds Q (Ok done) holds = holds.1
txn-holds Q (Err r) holds = tt

view-holds : (Q : Tables → Type 0) (w : World) (v : View) → Q w.tables → HoldsAfter Q (viewed w v)
view-holds Q w (Ok v) q = q
view-holds Q w (Err r) q = tt

polled-holds : (Q : Tables → Type 0) (entry : ℕ) (w : World) (id : ℕ) (events : List Event) → Q w.tables →
    Q (polled entry w id events).1.tables
polled-holds Q entry w id events q = go (nat_lt most_events (length events))
  where
    go : (lagged : Bool) → Q (cond {A = Reply × World} lagged
        (reply.Refused (refusal.Lagged (length events)), without_watcher id w)
        (reply.Events events, told_at entry id w)).1.tables
    go true = q
    go false = q

poll-holds : (Q : Tables → Type 0) (entry : ℕ) (w : World) (id : ℕ) (x : Option Watcher) → Q w.tables →
    HoldsAfter Q (watch_poll entry w id x)
poll-holds Q entry w id None q = tt
poll-holds Q entry w id (Some x) q = polled-holds Q entry w id (waiting_events w x) q

finish-holds : (Q : Tables → Type 0) (w : World) (id : ℕ) (x : Option Watcher) → Q w.tables → HoldsAfter Q
    (watch_finish w id x)
finish-holds Q w id None q = tt
finish-holds Q w id (Some x) q = q

agent-holds : (Q : Tables → Type 0) (w : World) (name : List ℕ) (f : NodeAgent → NodeAgent) → Q w.tables →
    HoldsAfter Q (on_agent w name f)
agent-holds Q w name f q =
    given-found (λ (d : Reply × World). Q d.1.tables) kind.Node (wanted_by.Name name) (node_by w.tables name)
    (λ n. cond n.remote (Err (refusal.WrongKind n.id)) (Ok (reply.AgentDone n.id, change_agent n.id f w)))
    (λ (n : Node) e. given-if_not (λ (d : Reply × World). Q d.1.tables) n.remote
    (Ok (reply.AgentDone n.id, change_agent n.id f w)) (refusal.WrongKind n.id) (λ k. q))

remote-holds : (Q : Tables → Type 0) (t : Tables) (name : List ℕ) (next : Node → Answered) →
    ((n : Node) → Has t.nodes n → HoldsAfter Q (next n)) → HoldsAfter Q (on_remote t name next)
remote-holds Q t name next each =
    given-found (λ (d : Reply × World). Q d.1.tables) kind.Node (wanted_by.Name name) (node_by t name)
    (λ n. cond n.remote (next n) (Err (refusal.WrongKind n.id)))
    (λ (n : Node) e. given-if (λ (d : Reply × World). Q d.1.tables) n.remote (next n) (refusal.WrongKind n.id)
    (λ k. each n (named-has node_name name t.nodes n e)))

session-holds : (Q : Tables → Type 0) (t : Tables) (name : List ℕ) (session : ℕ) (next : Node → Answered) →
    ((n : Node) → HoldsAfter Q (next n)) → HoldsAfter Q (on_session t name session next)
session-holds Q t name session next each =
    remote-holds Q t name
    (λ n. elim (not_admitted t.clock session (session_of t n.id)) [ Some r ↦ Err r | None ↦ next n ])
    (λ n h. given-unless_some (λ (d : Reply × World). Q d.1.tables) (not_admitted t.clock session (session_of t n.id))
    (next n)
    (λ e. each n))

status-holds : (Q : Tables → Type 0) → Keeps Q → (version : ℕ) (w : World) (name : List ℕ) (session task : ℕ)
    (s : TaskState) →
    InOrder w.tables → Q w.tables → HoldsAfter Q (remote_status version w name session task s)
status-holds Q keeps version w name session task s is q =
    session-holds Q w.tables name session
    (λ n. found kind.Task (wanted_by.Id task) (row_at task_id task w.tables.tasks) (report version w n.id s))
    (λ n. given-found (λ (d : Reply × World). Q d.1.tables) kind.Task (wanted_by.Id task)
    (row_at task_id task w.tables.tasks) (report version w n.id s)
    (λ (x : Task) e. given-unless (λ (d : Reply × World). Q d.1.tables) _ _
    (λ ok.
    let there = (Has-from_row_at task_id task w.tables.tasks x e).0 in
    let on = not_refused (not (is_assigned_on n.id x)) (refusal.NotThisNode x.id)
    (none_of (refuse (not (is_assigned_on n.id x)) (refusal.NotThisNode x.id)) _ ok).0 in
    let up = first_so (nat_le (rank state.Assigned) (rank x.state)) (is_on n.id x) (sure (is_assigned_on n.id x) on) in
    any-keeps Q keeps w.tables x.id _ is q
    (λ y h same.
    let row : x ≡ y = between-one task_id 1 w.tables.next_id w.tables.tasks x y is.tasks there h (sym same) in
    lighten-raised_to version w.tables.clock s y
    (subst (λ (z : Task). rank state.Assigned ≤ rank z.state) row (grind (arith, nat_tests, up)))))))
  where
    sure : (b : Bool) → not b ≡ false → b ≡ true
    sure true e = refl
    sure false e = absurd cc

pulled-holds : (Q : Tables → Type 0) (w : World) (node : ℕ) (m : Option Message) → Q w.tables → Q
    (pulled w node m).tables
pulled-holds Q w node None q = q
pulled-holds Q w node (Some m) q = q

call-keeps : (Q : Tables → Type 0) → Keeps Q → (version : ℕ) (w : World) (c : Call) → IsOrderly w → Q w.tables →
    HoldsAfter Q (answer version w c)
call-keeps Q keeps version w (call.Txn ops) is q =
    given-if_not (λ (d : Reply × World). Q d.1.tables) (nat_lt most_ops (length ops)) _ _
    (λ e. txn-holds Q _ (ops-keep-all Q keeps version w ops is q))
call-keeps Q keeps version w (call.View asked) is q = view-holds Q w (shows w.tables asked) q
call-keeps Q keeps version w (call.WatchBegin f) is q =
    given-unless (λ (d : Reply × World). Q d.1.tables) _ _ (λ e. keeps.ids w.tables (order-of w is) q)
call-keeps Q keeps version w (call.WatchPoll id) is q = poll-holds Q version w id (row_at watcher_id id w.watchers) q
call-keeps Q keeps version w (call.WatchFinish id) is q = finish-holds Q w id (row_at watcher_id id w.watchers) q
call-keeps Q keeps version w (call.Tick ms) is q =
    given-unless (λ (d : Reply × World). Q d.1.tables) _ _ (λ e. keeps.ticks w.tables ms q)
call-keeps Q keeps version w (call.Settle budget) is q = q
call-keeps Q keeps version w (call.NodeFail name) is q = agent-holds Q w name _ q
call-keeps Q keeps version w (call.NodeStart name) is q = agent-holds Q w name _ q
call-keeps Q keeps version w (call.AgentStop name) is q = agent-holds Q w name _ q
call-keeps Q keeps version w (call.AgentStart name) is q = agent-holds Q w name _ q
call-keeps Q keeps version w (call.RemoteBegin name cpu mem) is q =
    remote-holds Q w.tables name (λ n. begin_with version w n.id (given_or cpu n.cpu) (given_or mem n.mem))
    (λ n h. given-unless (λ (d : Reply × World). Q d.1.tables) _ _
    (λ e. keeps.begins version w.tables n (given_or cpu n.cpu) (given_or mem n.mem) (order-of w is) q h))
call-keeps Q keeps version w (call.RemoteBeat name session) is q =
    session-holds Q w.tables name session _ (λ n. keeps.beats w.tables n.id q)
call-keeps Q keeps version w (call.RemotePull name session) is q =
    session-holds Q w.tables name session _ (λ n. pulled-holds Q w n.id (message_for w n.id) q)
call-keeps Q keeps version w (call.RemoteStatus name session task s) is q =
    status-holds Q keeps version w name session task s (order-of w is) q
call-keeps Q keeps version w call.Halt is q = q

answered-holds : (Q : Tables → Type 0) (w : World) (given : Answered) → HoldsAfter Q given → Q w.tables →
    Q (answered w given).after.tables
answered-holds Q w (Ok done) holds q = holds
answered-holds Q w (Err r) holds q = q

-- Histories.

-- a world in order, of whose tables the law holds
abbrev pub IsKept : (Tables → Type 0) → World → Type 0
IsKept Q w = (IsOrderly w × GivesOut w) × Q w.tables

step-keeps : (Q : Tables → Type 0) → Keeps Q → (w : World) (e : What) → IsKept Q w → may_follow w e ≡ true → Q
    (step w e).after.tables
step-keeps Q keeps w (what.Call c) is may =
    answered-holds Q w (answer (w.entries + 1) w c) (call-keeps Q keeps (w.entries + 1) w c is.0.0 is.1) is.1
step-keeps Q keeps w (what.Duty d) is may =
    duty-keeps Q keeps (w.entries + 1) w d is.0.0 is.0.1 (IsDuty-due w d (room_duty w d may).2) is.1

pub kept-step : (Q : Tables → Type 0) → Keeps Q → (w : World) (e : What) → IsKept Q w → may_follow w e ≡ true →
    IsKept Q (step w e).after
kept-step Q keeps w e is may = (whole-step w e is.0 may, step-keeps Q keeps w e is may)

pub kept-empty : (Q : Tables → Type 0) → Q empty_tables → IsKept Q empty_world
kept-empty Q q = ((orderly-empty, gives-empty), q)

pub kept-replay : (Q : Tables → Type 0) → Keeps Q → Q empty_tables → (h : List Entry) → IsLegal h → Q (replay h).tables
kept-replay Q keeps q h legal =
    (replay-keeps (IsKept Q) (kept-step Q keeps) empty_world h (kept-empty Q q) legal).1

-- each world of a legal history has what follows from the law
pub kept-worlds : (Q R : Tables → Type 0) → Keeps Q → Q empty_tables → ((t : Tables) → InOrder t → Q t → R t) →
    (h : List Entry) →
    IsLegal h → EachWorld (λ w. R w.tables) empty_world h
kept-worlds Q R keeps q from h legal =
    each-world (IsKept Q) (λ w. R w.tables) (λ w is. from w.tables (order-of w is.0.0) is.1)
    (kept-step Q keeps) empty_world h
    (kept-empty Q q) legal
