-- No call that becomes an entry is answered that it became none: not Halted, not Full, and not that memory was wanting.
use Rattle.std.specs.Prelude.{Bool, Err, List, None, Ok, Option, Result, Some, [], false, filter, find, flat_map, if◌then◌else◌, length, nat_le, nat_lt, not, refl, true, ℕ, ⊤, ◌&&◌, ◌*◌, ◌++◌, ◌+◌, ◌==◌, ◌∷◌, ◌≡◌}
use Rattle.std.specs.Option.{option_map}
use Rattle.std.specs.Ordering.{nat_cmp}
use Rattle.swarm_model.specs.Calls.{answer, answered, call_outcome, is_admitted, is_full, outcome, ticked, txn, txn_answer, unless_refused, viewed}
use Rattle.swarm_objects.specs.Agents.NodeAgents.{failed_agent, in_mode, mode_after_start, mode_after_stop, started_agent}
use Rattle.swarm_model.specs.Calls.Faults.{on_agent}
use Rattle.swarm_model.specs.Calls.Networks.{create_network, new_network, remove_network, with_network}
use Rattle.swarm_model.specs.Calls.Nodes.{broken_node, create_node, remove_node, update_node, with_node, without_node}
use Rattle.swarm_objects.specs.NewRows.{new_node, respecified_node}
use Rattle.swarm_model.specs.Calls.Operations.{apply_op, apply_ops}
use Rattle.swarm_model.specs.Calls.Refusals.{Done, bad_spec, conflict, found, in_use, is_missing_network, missing_network, name_taken, network_by, no_network, node_by, other_holder, port_taken, service_by, too_many, users}
use Rattle.swarm_objects.specs.NewRows.{same_mode}
use Rattle.swarm_objects.specs.Refusals.{first_refusal, refuse, unless}
use Rattle.swarm_model.specs.Calls.Remote.{begin_with, begun_reply, begun_tables, given_or, on_remote, on_session, pulled, remote_begin, remote_status, report, status_reply}
use Rattle.swarm_objects.specs.Nodes.Admission.{is_no_report, not_admitted}
use Rattle.swarm_model.specs.Calls.Services.{broken_draft, create_service, filled, go_back, new_service, put_service, remove_service, rollback_service, update_service, with_service}
use Rattle.swarm_objects.specs.NewRows.{respecified}
use Rattle.swarm_model.specs.Calls.Views.{View, service_detail, shown, shows, tasks_shown}
use Rattle.swarm_objects.specs.Shown.{task_detail}
use Rattle.swarm_objects.specs.Shown.{network_detail, node_detail}
use Rattle.swarm_model.specs.Calls.Watches.{told_at, waiting_events, watch_finish, watch_poll, with_watcher, without_watcher}
use Rattle.swarm_model.specs.Outcome.{Answered}
use Rattle.swarm_objects.specs.Agents.Messages.{is_assigned_on, message_for, names}
use Rattle.swarm_objects.specs.CallWords.{is_entry}
use Rattle.swarm_objects.specs.Changes.{change_node, change_task, raised_to, with_tables}
use Rattle.swarm_objects.specs.Limits.{is_tick, most_events, most_networks, most_nodes, most_ops, most_services, most_watchers}
use Rattle.swarm_objects.specs.Loops.Agents.{after_beat, change_agent, without_sent}
use Rattle.swarm_objects.specs.Nodes.Sessions.{session_of}
use Rattle.swarm_objects.specs.Nodes.Words.{is_down}
use Rattle.swarm_objects.specs.Rows.{drop_row, first_of, least_by, network_id, node_id, row_at, service_id, task_id, watcher_id}
use Rattle.swarm_objects.specs.Rules.Networks.{subnet_breaks, subnet_rules}
use Rattle.swarm_objects.specs.Rules.Nodes.{node_breaks, node_rules, resource_rules, resources_break}
use Rattle.swarm_objects.specs.Rules.Services.{service_breaks, service_rules}
use Rattle.swarm_objects.specs.Rules.Settings.{settings_break, settings_rules}
use Rattle.swarm_objects.specs.Tasks.Words.{is_of}
use Rattle.swarm_objects.specs.Values.Ranks.{rank}
use Rattle.swarm_objects.specs.World.{Tables, World}
use Rattle.swarm_objects.specs.declared.agents.NodeAgent.{NodeAgent}
use Rattle.swarm_objects.specs.declared.calls.Call.{Call}
use Rattle.swarm_objects.specs.declared.calls.Call.TheVariants as call
use Rattle.swarm_objects.specs.declared.calls.Op.{Op}
use Rattle.swarm_objects.specs.declared.calls.Op.TheVariants as op
use Rattle.swarm_objects.specs.declared.calls.Query.{Query}
use Rattle.swarm_objects.specs.declared.calls.Query.TheVariants as query
use Rattle.swarm_objects.specs.declared.ids.Kind.{Kind}
use Rattle.swarm_objects.specs.declared.ids.Kind.TheVariants as kind
use Rattle.swarm_objects.specs.declared.networks.Network.{Network}
use Rattle.swarm_objects.specs.declared.nodes.Node.{Node}
use Rattle.swarm_objects.specs.declared.replies.Refusal.{Refusal}
use Rattle.swarm_objects.specs.declared.replies.Refusal.TheVariants as refusal
use Rattle.swarm_objects.specs.declared.replies.Reply.{Reply}
use Rattle.swarm_objects.specs.declared.replies.Reply.TheVariants as reply
use Rattle.swarm_objects.specs.declared.replies.ViewReply.TheVariants as view
use Rattle.swarm_objects.specs.declared.replies.Wanted.{Wanted}
use Rattle.swarm_objects.specs.declared.replies.Wanted.TheVariants as wanted_by
use Rattle.swarm_objects.specs.declared.rules.SpecRule.{SpecRule}
use Rattle.swarm_objects.specs.declared.services.Draft.{Draft}
use Rattle.swarm_objects.specs.declared.services.Service.{Service}
use Rattle.swarm_objects.specs.declared.services.ServiceSpec.{ServiceSpec}
use Rattle.swarm_objects.specs.declared.sessions.NodeSession.{NodeSession}
use Rattle.swarm_objects.specs.declared.tasks.Task.{Task}
use Rattle.swarm_objects.specs.declared.tasks.TaskState.{TaskState}
use Rattle.swarm_objects.specs.declared.templates.Port.{Port}
use Rattle.swarm_objects.specs.declared.watches.Watcher.{Watcher}

-- the refusal, where there is one, is that of an entry
abbrev IsUsual : Option Refusal → Type 0
IsUsual None = ⊤
IsUsual (Some r) = is_entry (reply.Refused r) ≡ true

-- so is an operation's, or a query's
abbrev FailsSo : {X : Type 0} → Result X Refusal → Type 0
FailsSo (Ok x) = ⊤
FailsSo (Err r) = is_entry (reply.Refused r) ≡ true

-- and so is the reply
abbrev Enters : Answered → Type 0
Enters (Ok done) = is_entry done.0 ≡ true
Enters (Err r) = is_entry (reply.Refused r) ≡ true

-- Tests.

refuse_usual : (b : Bool) (r : Refusal) → is_entry (reply.Refused r) ≡ true → IsUsual (refuse b r)
refuse_usual true r e = e
refuse_usual false r e = tt

map_usual : {X : Type 0} (f : X → Refusal) (o : Option X) → ((x : X) → is_entry (reply.Refused (f x)) ≡ true)
    → IsUsual (option_map f o)
map_usual f None all = tt
map_usual f (Some x) all = all x

abbrev AreUsual : List (Option Refusal) → Type 0
AreUsual [] = ⊤
AreUsual (o ∷ os) = IsUsual o × AreUsual os

first_usual : (os : List (Option Refusal)) → AreUsual os → IsUsual (first_refusal os)
first_usual [] all = tt
first_usual (None ∷ os) all = first_usual os all.1
first_usual (Some r ∷ os) all = all.0

conflict_usual : (asked : Option ℕ) (now : ℕ) → IsUsual (conflict asked now)
conflict_usual None now = tt
conflict_usual (Some asked) now = refuse_usual (not (asked == now)) (refusal.SequenceConflict now) refl

spec_usual : (r : Option SpecRule) → IsUsual (bad_spec r)
spec_usual r = map_usual refusal.BadSpec r (λ x. refl)

name_usual : (id : Option ℕ) → IsUsual (name_taken id)
name_usual id = map_usual refusal.NameTaken id (λ x. refl)

many_usual : (k : Kind) (most there : ℕ) → IsUsual (too_many k most there)
many_usual k most there = refuse_usual (nat_le most there) (refusal.TooMany k there) refl

network_usual : (t : Tables) (names : List (List ℕ)) → IsUsual (missing_network t names)
network_usual t names = map_usual no_network (find (is_missing_network t) names) (λ x. refl)

port_usual : (t : Tables) (own : Option ℕ) (ports : List Port) → IsUsual (port_taken t own ports)
port_usual t own ports =
    map_usual refusal.PortTaken (first_of (flat_map (λ (p : Port). other_holder t own p p.number) ports)) (λ x. refl)

use_usual : (t : Tables) (network : ℕ) → IsUsual (in_use t network)
use_usual t network = map_usual refusal.InUse (least_by nat_cmp None (users t network)) (λ x. refl)

-- What follows tests and look-ups.

unless_fails : {X : Type 0} (o : Option Refusal) (x : X) → IsUsual o → FailsSo (unless o x)
unless_fails None x e = tt
unless_fails (Some r) x e = e

unless_enters : (o : Option Refusal) (done : Reply × World) → IsUsual o → is_entry done.0 ≡ true
    → Enters (unless o done)
unless_enters None done u e = e
unless_enters (Some r) done u e = u

found_fails : {X Y : Type 0} (k : Kind) (asked : Wanted) (o : Option X) (next : X → Result Y Refusal)
    → ((x : X) → FailsSo (next x)) → FailsSo (found k asked o next)
found_fails k asked None next all = refl
found_fails k asked (Some x) next all = all x

found_enters : {X : Type 0} (k : Kind) (asked : Wanted) (o : Option X) (next : X → Answered)
    → ((x : X) → Enters (next x)) → Enters (found k asked o next)
found_enters k asked None next all = refl
found_enters k asked (Some x) next all = all x

-- Operations.

create_node_fails : (version : ℕ) (w : World) (n : Node) → FailsSo (create_node version w n)
create_node_fails version w n =
    let name = name_taken (option_map node_id (node_by w.tables n.name)) in
    let many = too_many kind.Node most_nodes (length w.tables.nodes) in
    unless_fails (first_refusal (broken_node n ∷ name ∷ many ∷ [])) (with_node w n, n.id)
    (first_usual (broken_node n ∷ name ∷ many ∷ []) (
      spec_usual (find (node_breaks n) node_rules),
      (
        name_usual (option_map node_id (node_by w.tables n.name)),
        (many_usual kind.Node most_nodes (length w.tables.nodes), tt),
      ),
    ))

update_node_fails : (w : World) (asked : Option ℕ) (old new : Node) → FailsSo (update_node w asked old new)
update_node_fails w asked old new =
    unless_fails (first_refusal (conflict asked old.version ∷ broken_node new ∷ []))
    (with_tables w (change_node old.id (λ n. new) w.tables), old.id)
    (first_usual (conflict asked old.version ∷ broken_node new ∷ [])
    (conflict_usual asked old.version, (spec_usual (find (node_breaks new) node_rules), tt)))

remove_node_fails : (version : ℕ) (w : World) (force : Bool) (n : Node) → FailsSo (remove_node version w force n)
remove_node_fails version w force n =
    unless_fails (refuse (not force && not (is_down n.state)) (refusal.NodeNotDown n.state))
    (without_node version w n.id, n.id)
    (refuse_usual (not force && not (is_down n.state)) (refusal.NodeNotDown n.state) refl)

create_service_fails : (version : ℕ) (w : World) (name : List ℕ) (d : Draft) → FailsSo (create_service version w name d)
create_service_fails version w name d =
    let taken = name_taken (option_map service_id (service_by w.tables name)) in
    let many = too_many kind.Service most_services (length w.tables.services) in
    let tests = broken_draft d ∷ taken ∷ missing_network w.tables d.networks ∷ port_taken w.tables None d.spec.ports
    ∷ many ∷ [] in
    unless_fails (first_refusal tests)
    (with_tables w (with_service w.tables (new_service version w.tables name d)), w.tables.next_id)
    (first_usual tests (
      spec_usual (find (service_breaks d) service_rules),
      (
        name_usual (option_map service_id (service_by w.tables name)),
        (
          network_usual w.tables d.networks,
          (
            port_usual w.tables None d.spec.ports,
            (many_usual kind.Service most_services (length w.tables.services), tt),
          ),
        ),
      ),
    ))

update_service_fails : (version : ℕ) (w : World) (asked : Option ℕ) (d : Draft) (s : Service)
    → FailsSo (update_service version w asked d s)
update_service_fails version w asked d s =
    let mode_change = refuse (not (same_mode d.spec.mode s.spec.mode)) refusal.ModeChange in
    let tests = conflict asked s.version ∷ broken_draft d ∷ mode_change ∷ missing_network w.tables d.networks
    ∷ port_taken w.tables (Some s.id) d.spec.ports ∷ [] in
    unless_fails (first_refusal tests) (put_service w (respecified version false (filled w.tables d) s), s.id)
    (first_usual tests (
      conflict_usual asked s.version,
      (
        spec_usual (find (service_breaks d) service_rules),
        (
          refuse_usual (not (same_mode d.spec.mode s.spec.mode)) refusal.ModeChange refl,
          (network_usual w.tables d.networks, (port_usual w.tables (Some s.id) d.spec.ports, tt)),
        ),
      ),
    ))

go_back_fails : (version : ℕ) (w : World) (s : Service) (o : Option ServiceSpec) → FailsSo (go_back version w s o)
go_back_fails version w s None = refl
go_back_fails version w s (Some spec) = tt

rollback_fails : (version : ℕ) (w : World) (asked : Option ℕ) (s : Service)
    → FailsSo (rollback_service version w asked s)
rollback_fails version w asked s = go (conflict asked s.version) (conflict_usual asked s.version)
  where
    go : (o : Option Refusal) → IsUsual o
        → FailsSo {X = World × ℕ} (elim o [ Some r ↦ Err r | None ↦ go_back version w s s.previous ])
    go None u = go_back_fails version w s s.previous
    go (Some r) u = u

create_network_fails : (w : World) (n : Network) → FailsSo (create_network w n)
create_network_fails w n =
    let name = name_taken (option_map network_id (network_by w.tables n.name)) in
    let many = too_many kind.Network most_networks (length w.tables.networks) in
    let tests = bad_spec (find (subnet_breaks n.base n.length) subnet_rules) ∷ name ∷ many ∷ [] in
    unless_fails (first_refusal tests) (with_tables w (with_network w.tables n), n.id)
    (first_usual tests (
      spec_usual (find (subnet_breaks n.base n.length) subnet_rules),
      (
        name_usual (option_map network_id (network_by w.tables n.name)),
        (many_usual kind.Network most_networks (length w.tables.networks), tt),
      ),
    ))

op_fails : (version : ℕ) (w : World) (o : Op) → FailsSo (apply_op version w o)
op_fails version w (op.CreateNode name draft) =
    create_node_fails version w (new_node version w.tables.next_id name draft)
op_fails version w (op.UpdateNode name asked labels r a) =
    found_fails kind.Node (wanted_by.Name name) (node_by w.tables name)
    (λ n. update_node w asked n (respecified_node version labels r a n))
    (λ n. update_node_fails w asked n (respecified_node version labels r a n))
op_fails version w (op.RemoveNode name force) =
    found_fails kind.Node (wanted_by.Name name) (node_by w.tables name) (remove_node version w force)
    (remove_node_fails version w force)
op_fails version w (op.CreateService name d) = create_service_fails version w name d
op_fails version w (op.UpdateService name asked d) =
    found_fails kind.Service (wanted_by.Name name) (service_by w.tables name) (update_service version w asked d)
    (update_service_fails version w asked d)
op_fails version w (op.RemoveService name) =
    found_fails kind.Service (wanted_by.Name name) (service_by w.tables name) (remove_service w) (λ s. tt)
op_fails version w (op.RollbackService name asked) =
    found_fails kind.Service (wanted_by.Name name) (service_by w.tables name) (rollback_service version w asked)
    (rollback_fails version w asked)
op_fails version w (op.CreateNetwork name base bits) =
    create_network_fails w (new_network version w.tables.next_id name base bits)
op_fails version w (op.RemoveNetwork name) =
    found_fails kind.Network (wanted_by.Name name) (network_by w.tables name) (remove_network w)
    (λ n. unless_fails (in_use w.tables n.id)
    (with_tables w (record w.tables { networks = drop_row network_id n.id w.tables.networks }), n.id)
    (use_usual w.tables n.id))
op_fails version w (op.SetCluster s) =
    unless_fails (bad_spec (find (settings_break s) settings_rules))
    (with_tables w (record w.tables { settings = s }), 0)
    (spec_usual (find (settings_break s) settings_rules))

ops_fail : (version : ℕ) (ops : List Op) (w : World) (ids : List ℕ) → FailsSo (apply_ops version ops w ids)
ops_fail version [] w ids = tt
ops_fail version (o ∷ ops) w ids =
    go (apply_op version w o) (op_fails version w o) (λ v more. ops_fail version ops v more)
  where
    go : (r : Done) → FailsSo r → ((v : World) (more : List ℕ) → FailsSo (apply_ops version ops v more))
        → FailsSo {X = World × List ℕ}
        (elim r [ Ok done ↦ apply_ops version ops done.0 (ids ++ done.1 ∷ []) | Err e ↦ Err e ])
    go (Ok done) f rest = rest done.0 (ids ++ done.1 ∷ [])
    go (Err e) f rest = f

-- Calls.

txn_enters : (version : ℕ) (w : World) (ops : List Op) → Enters (txn version w ops)
txn_enters version w ops = go (nat_lt most_ops (length ops)) (apply_ops version ops w []) (ops_fail version ops w [])
  where
    go : (b : Bool) (r : Result (World × List ℕ) Refusal) → FailsSo r
        → Enters (if b then Err (refusal.TooManyOps (length ops)) else txn_answer r)
    go true r f = refl
    go false (Ok done) f = refl
    go false (Err e) f = f

view_enters : (w : World) (v : View) → FailsSo v → Enters (viewed w v)
view_enters w (Ok shown) f = refl
view_enters w (Err e) f = f

shows_fails : (t : Tables) (q : Query) → FailsSo (shows t q)
shows_fails t query.ListNodes = tt
shows_fails t query.ListServices = tt
shows_fails t query.ListNetworks = tt
shows_fails t (query.ListTasks None) = tt
shows_fails t (query.ListTasks (Some name)) =
    found_fails kind.Service (wanted_by.Name name) (service_by t name)
    (λ s. Ok (tasks_shown t (filter (is_of s.id) t.tasks))) (λ s. tt)
shows_fails t (query.InspectNode name) =
    found_fails kind.Node (wanted_by.Name name) (node_by t name) (λ n. Ok (view.Node (node_detail n))) (λ n. tt)
shows_fails t (query.InspectService name) =
    found_fails kind.Service (wanted_by.Name name) (service_by t name) (λ s. Ok (view.Service (service_detail t s)))
    (λ s. tt)
shows_fails t (query.InspectNetwork name) =
    found_fails kind.Network (wanted_by.Name name) (network_by t name) (λ n. Ok (view.Network (network_detail n)))
    (λ n. tt)
shows_fails t (query.InspectTask id) =
    found_fails kind.Task (wanted_by.Id id) (row_at task_id id t.tasks) (λ x. Ok (view.Task (task_detail t x)))
    (λ x. tt)
shows_fails t query.Clock = tt

abbrev IsTold : Reply × World → Type 0
IsTold r = is_entry r.0 ≡ true

poll_enters : (version : ℕ) (w : World) (id : ℕ) (o : Option Watcher) → Enters (watch_poll version w id o)
poll_enters version w id None = refl
poll_enters version w id (Some x) = go (nat_lt most_events (length (waiting_events w x)))
  where
    go : (b : Bool)
        → IsTold
        (if b then (reply.Refused (refusal.Lagged (length (waiting_events w x))), without_watcher id w) else
        (reply.Events (waiting_events w x), told_at version id w))
    go true = refl
    go false = refl

finish_enters : (w : World) (id : ℕ) (o : Option Watcher) → Enters (watch_finish w id o)
finish_enters w id None = refl
finish_enters w id (Some x) = refl

agent_enters : (w : World) (name : List ℕ) (change : NodeAgent → NodeAgent) → Enters (on_agent w name change)
agent_enters w name change =
    found_enters kind.Node (wanted_by.Name name) (node_by w.tables name)
    (λ n. if n.remote then Err (refusal.WrongKind n.id) else Ok (reply.AgentDone n.id, change_agent n.id change w))
    (λ n. go n n.remote)
  where
    go : (n : Node) (b : Bool)
        → Enters (if b then Err (refusal.WrongKind n.id) else Ok (reply.AgentDone n.id, change_agent n.id change w))
    go n true = refl
    go n false = refl

remote_enters : (t : Tables) (name : List ℕ) (next : Node → Answered) → ((n : Node) → Enters (next n))
    → Enters (on_remote t name next)
remote_enters t name next all =
    found_enters kind.Node (wanted_by.Name name) (node_by t name)
    (λ n. if n.remote then next n else Err (refusal.WrongKind n.id)) (λ n. go n n.remote)
  where
    go : (n : Node) (b : Bool) → Enters (if b then next n else Err (refusal.WrongKind n.id))
    go n true = all n
    go n false = refl

not_admitted_usual : (clock id : ℕ) (o : Option NodeSession) → IsUsual (not_admitted clock id o)
not_admitted_usual clock id None = refl
not_admitted_usual clock id (Some s) = go (not (s.session.id == id))
  where
    go : (b : Bool)
        → IsUsual
        (if b then Some (refusal.InvalidSession (Some s.session.id)) else refuse (nat_le s.session.deadline clock)
        (refusal.SessionExpired s.session.deadline))
    go true = refl
    go false = refuse_usual (nat_le s.session.deadline clock) (refusal.SessionExpired s.session.deadline) refl

session_enters : (t : Tables) (name : List ℕ) (id : ℕ) (next : Node → Answered) → ((n : Node) → Enters (next n))
    → Enters (on_session t name id next)
session_enters t name id next all =
    remote_enters t name (λ n. elim (not_admitted t.clock id (session_of t n.id)) [ Some r ↦ Err r | None ↦ next n ])
    (λ n. go n (not_admitted t.clock id (session_of t n.id)) (not_admitted_usual t.clock id (session_of t n.id)))
  where
    go : (n : Node) (o : Option Refusal) → IsUsual o → Enters (elim o [ Some r ↦ Err r | None ↦ next n ])
    go n None u = all n
    go n (Some r) u = u

begin_enters : (version : ℕ) (w : World) (name : List ℕ) (cpu mem : Option ℕ)
    → Enters (remote_begin version w name cpu mem)
begin_enters version w name cpu mem =
    remote_enters w.tables name (λ n. begin_with version w n.id (given_or cpu n.cpu) (given_or mem n.mem))
    (λ n. unless_enters (bad_spec (find (resources_break (given_or cpu n.cpu) (given_or mem n.mem)) resource_rules)) (
      begun_reply w.tables,
      without_sent n.id
          (with_tables w (begun_tables version w.tables n.id (given_or cpu n.cpu) (given_or mem n.mem))),
    )
    (spec_usual (find (resources_break (given_or cpu n.cpu) (given_or mem n.mem)) resource_rules)) refl)

status_is_entry : (old s : TaskState) → is_entry (status_reply old s) ≡ true
status_is_entry old s = go (nat_lt (rank old) (rank s))
  where
    go : (b : Bool) → is_entry (if b then reply.Status true s else reply.Status false old) ≡ true
    go true = refl
    go false = refl

report_enters : (version : ℕ) (w : World) (node : ℕ) (s : TaskState) (x : Task) → Enters (report version w node s x)
report_enters version w node s x =
    let tests = refuse (not (is_assigned_on node x)) (refusal.NotThisNode x.id)
    ∷ refuse (is_no_report s) (refusal.BadState s) ∷ [] in
    unless_enters (first_refusal tests)
    (status_reply x.state s, with_tables w (change_task x.id (raised_to version w.tables.clock s) w.tables))
    (first_usual tests (
      refuse_usual (not (is_assigned_on node x)) (refusal.NotThisNode x.id) refl,
      (refuse_usual (is_no_report s) (refusal.BadState s) refl, tt),
    ))
    (status_is_entry x.state s)

status_enters : (version : ℕ) (w : World) (name : List ℕ) (id task : ℕ) (s : TaskState)
    → Enters (remote_status version w name id task s)
status_enters version w name id task s =
    session_enters w.tables name id
    (λ n. found kind.Task (wanted_by.Id task) (row_at task_id task w.tables.tasks) (report version w n.id s))
    (λ n. found_enters kind.Task (wanted_by.Id task) (row_at task_id task w.tables.tasks) (report version w n.id s)
    (report_enters version w n.id s))

answer_enters : (version : ℕ) (w : World) (c : Call) → Enters (answer version w c)
answer_enters version w (call.Txn ops) = txn_enters version w ops
answer_enters version w (call.View q) = view_enters w (shows w.tables q) (shows_fails w.tables q)
answer_enters version w (call.WatchBegin f) =
    unless_enters (too_many kind.Watcher most_watchers (length w.watchers))
    (reply.WatchBegun w.tables.next_id, with_watcher version w f)
    (many_usual kind.Watcher most_watchers (length w.watchers)) refl
answer_enters version w (call.WatchPoll id) = poll_enters version w id (row_at watcher_id id w.watchers)
answer_enters version w (call.WatchFinish id) = finish_enters w id (row_at watcher_id id w.watchers)
answer_enters version w (call.Tick ms) =
    unless_enters (refuse (not (is_tick ms)) (refusal.BadTick ms)) (reply.Ticked, ticked w ms)
    (refuse_usual (not (is_tick ms)) (refusal.BadTick ms) refl) refl
answer_enters version w (call.Settle budget) = refl
answer_enters version w (call.NodeFail name) = agent_enters w name (failed_agent w.tables.clock)
answer_enters version w (call.NodeStart name) = agent_enters w name started_agent
answer_enters version w (call.AgentStop name) = agent_enters w name (in_mode mode_after_stop)
answer_enters version w (call.AgentStart name) = agent_enters w name (in_mode mode_after_start)
answer_enters version w (call.RemoteBegin name cpu mem) = begin_enters version w name cpu mem
answer_enters version w (call.RemoteBeat name id) =
    session_enters w.tables name id
    (λ n. Ok
    (reply.Beat (w.tables.clock + 3 * w.tables.settings.heartbeat), with_tables w (after_beat w.tables n.id)))
    (λ n. refl)
answer_enters version w (call.RemotePull name id) =
    session_enters w.tables name id (λ n. Ok (reply.Pulled (message_for w n.id), pulled w n.id (message_for w n.id)))
    (λ n. refl)
answer_enters version w (call.RemoteStatus name id task s) = status_enters version w name id task s
answer_enters version w call.Halt = refl

answered_enters : (w : World) (a : Answered) → Enters a → is_entry (answered w a).reply ≡ true
answered_enters w (Ok done) e = e
answered_enters w (Err r) e = e

-- a call that becomes an entry is answered as an entry
pub call_is_entry : (w : World) (c : Call) → is_entry (call_outcome w c).reply ≡ true
call_is_entry w c = answered_enters w (answer (w.entries + 1) w c) (answer_enters (w.entries + 1) w c)

-- a call is answered as an entry exactly where it is admitted
pub entry_where_admitted : (w : World) (c : Call) → is_entry (outcome w c).reply ≡ is_admitted w c
entry_where_admitted w c = go w.halted (is_full w c)
  where
    go : (h f : Bool)
        → is_entry (unless_refused (if h then Some refusal.Halted else if f then Some
        (refusal.Full w.entries) else None) w (call_outcome w c)).reply ≡ (not h && not f)
    go true f = refl
    go false true = refl
    go false false = call_is_entry w c
