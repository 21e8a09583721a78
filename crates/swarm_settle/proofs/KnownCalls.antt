-- Every operation and every call keeps that the nodes of tasks are known; so every legal history has it.
use Rattle.std.proofs.Common.{Bool, Err, List, None, Ok, Option, Result, Some, [], arith, cond, false, inl, length, nat_lt, refl, subst, sym, true, ℕ, ◌+◌, ◌≡◌, ◌≤◌}
use Rattle.swarm_model.proofs.Base.Answers.{OnGiven, given-found, given-if, given-if_not, given-unless, given-unless_some, ops-keep}
use Rattle.swarm_model.proofs.Laws.Timely.{each-changed}
use Rattle.swarm_model.proofs.Base.FromLists.{IsDuty-due}
use Rattle.swarm_model.proofs.Base.Histories.{room_duty}
use Rattle.swarm_model.proofs.Moves.Calls.{find-has}
use Rattle.swarm_model.proofs.Moves.Operations.{op-moves}
use Rattle.swarm_model.proofs.Moves.Rows.{between-one}
use Rattle.swarm_model.proofs.Moves.Worlds.{IsOrderly, Moves, orderly-moves}
use Rattle.swarm_model.specs.Calls.Faults.{on_agent}
use Rattle.swarm_model.specs.Calls.Networks.{remove_network}
use Rattle.swarm_objects.specs.NewRows.{new_node, respecified_node}
use Rattle.swarm_model.specs.Calls.Nodes.{remove_node, update_node}
use Rattle.swarm_model.specs.Calls.Operations.{apply_op, apply_ops}
use Rattle.swarm_model.specs.Calls.Refusals.{Done, conflict, found, has_name, network_by, node_by, node_name, service_by}
use Rattle.swarm_model.specs.Calls.Remote.{begin_with, given_or, on_remote, on_session, pulled, report}
use Rattle.swarm_objects.specs.Nodes.Admission.{not_admitted}
use Rattle.swarm_model.specs.Calls.Services.{go_back, remove_service, rollback_service, update_service}
use Rattle.swarm_model.specs.Calls.Views.{View, shows}
use Rattle.swarm_model.specs.Calls.Watches.{polled, told_at, waiting_events, watch_finish, watch_poll, without_watcher}
use Rattle.swarm_model.specs.Calls.{answer, answered, txn_answer, viewed}
use Rattle.swarm_model.specs.History.{IsLegal, may_follow, replay, step}
use Rattle.swarm_model.specs.Outcome.{Answered}
use Rattle.swarm_objects.proofs.RowLemmas.{Has-filter_cases, Has-map}
use Rattle.swarm_objects.specs.Agents.Messages.{message_for}
use Rattle.swarm_objects.specs.Limits.{most_events, most_ops}
use Rattle.swarm_objects.specs.Loops.Agents.{change_agent}
use Rattle.swarm_objects.specs.Nodes.Sessions.{session_of}
use Rattle.swarm_objects.specs.Rows.{Has, node_id, row_at, task_id, watcher_id}
use Rattle.swarm_objects.specs.World.{Tables, World, empty_world}
use Rattle.swarm_objects.specs.declared.agents.NodeAgent.{NodeAgent}
use Rattle.swarm_objects.specs.declared.calls.Call.TheVariants as call
use Rattle.swarm_objects.specs.declared.calls.Call.{Call}
use Rattle.swarm_objects.specs.declared.calls.Entry.{Entry}
use Rattle.swarm_objects.specs.declared.calls.Op.TheVariants as op
use Rattle.swarm_objects.specs.declared.calls.Op.{Op}
use Rattle.swarm_objects.specs.declared.calls.What.TheVariants as what
use Rattle.swarm_objects.specs.declared.calls.What.{What}
use Rattle.swarm_objects.specs.declared.ids.Kind.TheVariants as kind
use Rattle.swarm_objects.specs.declared.messages.Message.{Message}
use Rattle.swarm_objects.specs.declared.networks.Network.{Network}
use Rattle.swarm_objects.specs.declared.nodes.Availability.{Availability}
use Rattle.swarm_objects.specs.declared.nodes.Node.{Node}
use Rattle.swarm_objects.specs.declared.nodes.NodeRole.{NodeRole}
use Rattle.swarm_objects.specs.declared.replies.Refusal.TheVariants as refusal
use Rattle.swarm_objects.specs.declared.replies.Refusal.{Refusal}
use Rattle.swarm_objects.specs.declared.replies.Reply.TheVariants as reply
use Rattle.swarm_objects.specs.declared.replies.Reply.{Reply}
use Rattle.swarm_objects.specs.declared.replies.Wanted.TheVariants as wanted_by
use Rattle.swarm_objects.specs.declared.services.Service.{Service}
use Rattle.swarm_objects.specs.declared.services.ServiceSpec.{ServiceSpec}
use Rattle.swarm_objects.specs.declared.tasks.Task.{Task}
use Rattle.swarm_objects.specs.declared.tasks.TaskState.TheVariants as state
use Rattle.swarm_objects.specs.declared.watches.Event.{Event}
use Rattle.swarm_objects.specs.declared.watches.Watcher.{Watcher}
use Rattle.std.proofs.Common.{ap, ◌++◌, ◌∙◌, ◌∷◌}
use Rattle.std.specs.Prelude.{fold, map}
use Rattle.swarm_model.specs.Calls.Nodes.{is_left_behind}
use Rattle.swarm_model.specs.Calls.Remote.{begun_tables}
use Rattle.swarm_objects.specs.Nodes.Opening.{TakenSoFar, fits_in, keep_task, keep_other}
use Rattle.swarm_objects.specs.Changes.{in_state, raised_to}
use Rattle.swarm_objects.specs.Nodes.Holdings.{is_placed_on}
use Rattle.swarm_settle.proofs.Closings.{by-last}
use Rattle.swarm_settle.proofs.Known.{Known, known-replay}
use Rattle.swarm_settle.proofs.KnownNodes.{ComesFromKnown, ComesFromNode, KnownNodes, NodeStep, change-step, duty-nodes, is_known, known-step, raised-node, same-step}
use Rattle.swarm_settle.proofs.PlaceLists.{each-touched}
use Rattle.swarm_settle.proofs.ShapeDuties.{map-push}
use Rattle.swarm_settle.proofs.PlaceLists.{append-none}
use Rattle.swarm_model.proofs.Base.Histories.{replay-snoc}
use Rattle.swarm_model.proofs.Moves.Opening.{regroup}
use Rattle.swarm_objects.specs.Nodes.Opening.{with_resources}
use Rattle.swarm_objects.proofs.RowLemmas.{Has-append_cases, Has-map_cases}
use Rattle.std.proofs.Common.{inr}

abbrev IsNodeStep : World → Done → Type 0
IsNodeStep w done = OnGiven (λ (d : World × ℕ). NodeStep w.tables d.0.tables) done

same-kind : (n : ℕ) (labels : List (List ℕ × List ℕ)) (r : NodeRole) (a : Availability) (old m : Node) → old ≡ m →
    ((respecified_node n labels r a old).id ≡ m.id) ×
    (is_known m ≡ true → is_known (respecified_node n labels r a old) ≡ true)
same-kind n labels r a old m e = (ap (λ (z : Node). z.id) e, λ k. ap is_known e ∙ k)

op-nodes : (n : ℕ) (w : World) (o : Op) → IsOrderly w → IsNodeStep w (apply_op n w o)
op-nodes n w (op.CreateNode name draft) is =
    given-unless (λ (d : World × ℕ). NodeStep w.tables d.0.tables) _ _
    (λ e.
    record {
      tasks = λ y h. inl (y, h, refl);
      nodes = λ m h. elim (Has-append_cases w.tables.nodes (new_node n w.tables.next_id name draft ∷ []) m h) [
        | inl k ↦ inl (m, k, refl, λ j. j)
        | inr k ↦ inr (new-id m k)
      ];
      next = omega arith;
    })
  where
    new-id : (m : Node) → Has (new_node n w.tables.next_id name draft ∷ []) m → w.tables.next_id ≤ m.id
    new-id m (inl e) = let same : w.tables.next_id ≡ m.id = ap (λ (z : Node). z.id) e in omega (arith, same)
    new-id m (inr none) = absurd none
op-nodes n w (op.UpdateNode name asked labels r a) is =
    given-found (λ (d : World × ℕ). NodeStep w.tables d.0.tables) kind.Node (wanted_by.Name name)
    (node_by w.tables name)
    (λ m. update_node w asked m (respecified_node n labels r a m))
    (λ (m : Node) e. given-unless (λ (d : World × ℕ). NodeStep w.tables d.0.tables) _ _
    (λ ok.
    record {
      tasks = λ y h. inl (y, h, refl);
      nodes = each-changed (ComesFromKnown w.tables) node_id m.id (λ k. respecified_node n labels r a m) w.tables.nodes
          (λ k j. inl (k, j, refl, λ q. q))
          (λ k j same.
          let is_same = between-one node_id 1 w.tables.next_id w.tables.nodes m k is.nodes
          (find-has (has_name node_name name) w.tables.nodes m e) j (sym same) in
          let both = same-kind n labels r a m k is_same in
          inl (k, j, both.0, both.1));
      next = omega arith;
    }))
op-nodes n w (op.RemoveNode name force) is =
    given-found (λ (d : World × ℕ). NodeStep w.tables d.0.tables) kind.Node (wanted_by.Name name)
    (node_by w.tables name)
    (remove_node n w force)
    (λ (m : Node) e. given-unless (λ (d : World × ℕ). NodeStep w.tables d.0.tables) _ _
    (λ ok.
    record {
      tasks = each-touched (ComesFromNode w.tables) (is_left_behind m.id) (in_state n w.tables.clock state.Orphaned)
          w.tables.tasks (λ y h. inl (y, h, refl)) (λ y h q. inl (y, h, refl));
      nodes = λ k h. inl (k, (Has-filter_cases _ w.tables.nodes k h).0, refl, λ q. q);
      next = omega arith;
    }))
op-nodes n w (op.CreateService name d) is =
    given-unless (λ (d : World × ℕ). NodeStep w.tables d.0.tables) _ _
    (λ e. same-step w.tables _ refl refl (omega arith))
op-nodes n w (op.UpdateService name asked d) is =
    given-found (λ (d : World × ℕ). NodeStep w.tables d.0.tables) kind.Service (wanted_by.Name name)
    (service_by w.tables name) (update_service n w asked d)
    (λ (s : Service) e. given-unless (λ (d : World × ℕ). NodeStep w.tables d.0.tables) _ _
    (λ ok. same-step w.tables _ refl refl (omega arith)))
op-nodes n w (op.RemoveService name) is =
    given-found (λ (d : World × ℕ). NodeStep w.tables d.0.tables) kind.Service (wanted_by.Name name)
    (service_by w.tables name) (remove_service w) (λ (s : Service) e. same-step w.tables _ refl refl (omega arith))
op-nodes n w (op.RollbackService name asked) is =
    given-found (λ (d : World × ℕ). NodeStep w.tables d.0.tables) kind.Service (wanted_by.Name name)
    (service_by w.tables name) (rollback_service n w asked)
    (λ (s : Service) e. given-unless_some (λ (d : World × ℕ). NodeStep w.tables d.0.tables) (conflict asked s.version) _
    (λ ok. back s s.previous))
  where
    back : (s : Service) (o : Option ServiceSpec) → IsNodeStep w (go_back n w s o)
    back s None = tt
    back s (Some spec) = same-step w.tables _ refl refl (omega arith)
op-nodes n w (op.CreateNetwork name base bits) is =
    given-unless (λ (d : World × ℕ). NodeStep w.tables d.0.tables) _ _
    (λ e. same-step w.tables _ refl refl (omega arith))
op-nodes n w (op.RemoveNetwork name) is =
    given-found (λ (d : World × ℕ). NodeStep w.tables d.0.tables) kind.Network (wanted_by.Name name)
    (network_by w.tables name) (remove_network w)
    (λ (m : Network) e. given-unless (λ (d : World × ℕ). NodeStep w.tables d.0.tables) _ _
    (λ ok. same-step w.tables _ refl refl (omega arith)))
op-nodes n w (op.SetCluster settings) is =
    given-unless (λ (d : World × ℕ). NodeStep w.tables d.0.tables) _ _
    (λ e. same-step w.tables _ refl refl (omega arith))

-- Calls.

abbrev IsCallStep : World → Answered → Type 0
IsCallStep w given = OnGiven (λ (d : Reply × World). NodeStep w.tables d.1.tables) given

still : (w : World) → NodeStep w.tables w.tables
still w = same-step w.tables w.tables refl refl (omega arith)

-- the tasks that still fit have the nodes that they had
within-nodes : (version clock node : ℕ) (kept : TakenSoFar) (xs : List Task) →
    map (λ (x : Task). x.node) (fold (keep_other version clock node) kept xs).tasks
    ≡ map (λ (x : Task). x.node) kept.tasks ++ map (λ (x : Task). x.node) xs
within-nodes version clock node kept [] = sym (append-none (map (λ (x : Task). x.node) kept.tasks))
within-nodes version clock node kept (x ∷ xs) =
    within-nodes version clock node (keep_other version clock node kept x) xs
    ∙ ap (λ (ys : List (Option ℕ)). ys ++ map (λ (z : Task). z.node) xs) (one (is_placed_on node x) (fits_in kept x))
    ∙ regroup (map (λ (z : Task). z.node) kept.tasks) x.node (map (λ (z : Task). z.node) xs)
  where
    one : (on fits : Bool) →
        map (λ (z : Task). z.node) (cond on (cond fits (keep_task kept x)
        (record kept { tasks = kept.tasks ++ in_state version clock state.Rejected x ∷ [] }))
        (record kept { tasks = kept.tasks ++ x ∷ [] })).tasks
        ≡ map (λ (z : Task). z.node) kept.tasks ++ x.node ∷ []
    one true true = map-push (λ (z : Task). z.node) kept.tasks x
    one true false = map-push (λ (z : Task). z.node) kept.tasks (in_state version clock state.Rejected x)
    one false fits = map-push (λ (z : Task). z.node) kept.tasks x

begun-nodes : (n : ℕ) (t : Tables) (node cpu mem : ℕ) → NodeStep t (begun_tables n t node cpu mem)
begun-nodes n t node cpu mem = record {
  tasks = λ y h.
      let held : Has (map (λ (x : Task). x.node) t.tasks) y.node =
      subst (λ (os : List (Option ℕ)). Has os y.node)
      (within-nodes n t.clock node (record { cpu = cpu; mem = mem; tasks = [] }) t.tasks)
      (Has-map (λ (x : Task). x.node) (begun_tables n t node cpu mem).tasks y h) in
      let from = Has-map_cases (λ (x : Task). x.node) t.tasks y.node held in
      inl (from.0, from.1, sym from.2);
  nodes = each-changed (ComesFromKnown t) node_id node (with_resources n cpu mem) t.nodes
      (λ k j. inl (k, j, refl, λ q. q)) (λ k j e. inl (k, j, refl, λ q. refl));
  next = omega arith;
}

polled-nodes : (entry : ℕ) (w : World) (id : ℕ) (events : List Event) →
    NodeStep w.tables (polled entry w id events).1.tables
polled-nodes entry w id events = go (nat_lt most_events (length events))
  where
    go : (lagged : Bool) → NodeStep w.tables (cond {A = Reply × World} lagged
        (reply.Refused (refusal.Lagged (length events)), without_watcher id w)
        (reply.Events events, told_at entry id w)).1.tables
    go true = same-step w.tables _ refl refl (omega arith)
    go false = same-step w.tables _ refl refl (omega arith)

poll-nodes : (entry : ℕ) (w : World) (id : ℕ) (x : Option Watcher) → IsCallStep w (watch_poll entry w id x)
poll-nodes entry w id None = tt
poll-nodes entry w id (Some x) = polled-nodes entry w id (waiting_events w x)

finish-nodes : (w : World) (id : ℕ) (x : Option Watcher) → IsCallStep w (watch_finish w id x)
finish-nodes w id None = tt
finish-nodes w id (Some x) = same-step w.tables _ refl refl (omega arith)

agent-nodes : (w : World) (name : List ℕ) (f : NodeAgent → NodeAgent) → IsCallStep w (on_agent w name f)
agent-nodes w name f =
    given-found (λ (d : Reply × World). NodeStep w.tables d.1.tables) kind.Node (wanted_by.Name name)
    (node_by w.tables name)
    (λ n. cond n.remote (Err (refusal.WrongKind n.id)) (Ok (reply.AgentDone n.id, change_agent n.id f w)))
    (λ (n : Node) e. given-if_not (λ (d : Reply × World). NodeStep w.tables d.1.tables) n.remote
    (Ok (reply.AgentDone n.id, change_agent n.id f w)) (refusal.WrongKind n.id)
    (λ k. same-step w.tables _ refl refl (omega arith)))

remote-nodes : (w : World) (name : List ℕ) (next : Node → Answered) → ((n : Node) → IsCallStep w (next n)) →
    IsCallStep w (on_remote w.tables name next)
remote-nodes w name next each =
    given-found (λ (d : Reply × World). NodeStep w.tables d.1.tables) kind.Node (wanted_by.Name name)
    (node_by w.tables name) (λ n. cond n.remote (next n) (Err (refusal.WrongKind n.id)))
    (λ (n : Node) e. given-if (λ (d : Reply × World). NodeStep w.tables d.1.tables) n.remote (next n)
    (refusal.WrongKind n.id) (λ k. each n))

session-nodes : (w : World) (name : List ℕ) (session : ℕ) (next : Node → Answered) →
    ((n : Node) → IsCallStep w (next n)) → IsCallStep w (on_session w.tables name session next)
session-nodes w name session next each =
    remote-nodes w name
    (λ n. elim (not_admitted w.tables.clock session (session_of w.tables n.id)) [ Some r ↦ Err r | None ↦ next n ])
    (λ n. given-unless_some (λ (d : Reply × World). NodeStep w.tables d.1.tables)
    (not_admitted w.tables.clock session (session_of w.tables n.id)) (next n) (λ e. each n))

pulled-nodes : (w : World) (node : ℕ) (m : Option Message) → NodeStep w.tables (pulled w node m).tables
pulled-nodes w node None = still w
pulled-nodes w node (Some m) = same-step w.tables _ refl refl (omega arith)

view-nodes : (w : World) (v : View) → IsCallStep w (viewed w v)
view-nodes w (Ok v) = still w
view-nodes w (Err r) = tt

-- a world whose tasks' nodes are known
abbrev IsOpen : World → Type 0
IsOpen w = IsOrderly w × KnownNodes w.tables

op-known : (n : ℕ) (w : World) (o : Op) → IsOpen w → OnGiven (λ (d : World × ℕ). IsOpen d.0) (apply_op n w o)
op-known n w o is = go (apply_op n w o) (op-moves n w o is.0) (op-nodes n w o is.0)
  where
    go : (given : Done) → OnGiven (λ (d : World × ℕ). Moves w d.0) given → IsNodeStep w given →
        OnGiven (λ (d : World × ℕ). IsOpen d.0) given
    go (Ok d) moves step = (orderly-moves w d.0 is.0 moves, known-step w.tables d.0.tables step is.1)
    go (Err r) moves step = tt

abbrev IsAnsweredKnown : Answered → Type 0
IsAnsweredKnown given = OnGiven (λ (d : Reply × World). KnownNodes d.1.tables) given

txn-known : (n : ℕ) (w : World) (ops : List Op) → IsOpen w → IsAnsweredKnown (answer n w (call.Txn ops))
txn-known n w ops is =
    given-if_not (λ (d : Reply × World). KnownNodes d.1.tables) (nat_lt most_ops (length ops)) _ _
    (λ e. go (apply_ops n ops w []) (ops-keep IsOpen n (op-known n) ops w [] is))
  where
    go : (given : Result (World × List ℕ) Refusal) → OnGiven (λ (d : World × List ℕ). IsOpen d.0) given →
        IsAnsweredKnown (txn_answer given)
    go (Ok d) holds = holds.1
    go (Err r) holds = tt

by-step : (w : World) (given : Answered) → KnownNodes w.tables → IsCallStep w given → IsAnsweredKnown given
by-step w (Ok d) is step = known-step w.tables d.1.tables step is
by-step w (Err r) is step = tt

call-known : (n : ℕ) (w : World) (c : Call) → IsOpen w → IsAnsweredKnown (answer n w c)
call-known n w (call.Txn ops) is = txn-known n w ops is
call-known n w (call.View asked) is = by-step w _ is.1 (view-nodes w (shows w.tables asked))
call-known n w (call.WatchBegin f) is =
    by-step w _ is.1
    (given-unless (λ (d : Reply × World). NodeStep w.tables d.1.tables) _ _
    (λ e. same-step w.tables _ refl refl (omega arith)))
call-known n w (call.WatchPoll id) is = by-step w _ is.1 (poll-nodes n w id (row_at watcher_id id w.watchers))
call-known n w (call.WatchFinish id) is = by-step w _ is.1 (finish-nodes w id (row_at watcher_id id w.watchers))
call-known n w (call.Tick ms) is =
    by-step w _ is.1
    (given-unless (λ (d : Reply × World). NodeStep w.tables d.1.tables) _ _
    (λ e. same-step w.tables _ refl refl (omega arith)))
call-known n w (call.Settle budget) is = is.1
call-known n w (call.NodeFail name) is = by-step w _ is.1 (agent-nodes w name _)
call-known n w (call.NodeStart name) is = by-step w _ is.1 (agent-nodes w name _)
call-known n w (call.AgentStop name) is = by-step w _ is.1 (agent-nodes w name _)
call-known n w (call.AgentStart name) is = by-step w _ is.1 (agent-nodes w name _)
call-known n w (call.RemoteBegin name cpu mem) is =
    by-step w _ is.1
    (remote-nodes w name (λ m. begin_with n w m.id (given_or cpu m.cpu) (given_or mem m.mem))
    (λ m. given-unless (λ (d : Reply × World). NodeStep w.tables d.1.tables) _ _
    (λ e. begun-nodes n w.tables m.id (given_or cpu m.cpu) (given_or mem m.mem))))
call-known n w (call.RemoteBeat name session) is =
    by-step w _ is.1 (session-nodes w name session _ (λ m. same-step w.tables _ refl refl (omega arith)))
call-known n w (call.RemotePull name session) is =
    by-step w _ is.1 (session-nodes w name session _ (λ m. pulled-nodes w m.id (message_for w m.id)))
call-known n w (call.RemoteStatus name session task s) is =
    by-step w _ is.1
    (session-nodes w name session
    (λ m. found kind.Task (wanted_by.Id task) (row_at task_id task w.tables.tasks) (report n w m.id s))
    (λ m. given-found (λ (d : Reply × World). NodeStep w.tables d.1.tables) kind.Task (wanted_by.Id task)
    (row_at task_id task w.tables.tasks) (report n w m.id s)
    (λ (x : Task) e. given-unless (λ (d : Reply × World). NodeStep w.tables d.1.tables) _ _
    (λ ok. change-step w.tables x.id (raised_to n w.tables.clock s) (raised-node n w.tables.clock s)))))
call-known n w call.Halt is = is.1

answered-known : (w : World) (given : Answered) → IsAnsweredKnown given → KnownNodes w.tables →
    KnownNodes (answered w given).after.tables
answered-known w (Ok d) holds is = holds
answered-known w (Err r) holds is = is

step-known : (w : World) (e : What) → Known w → may_follow w e ≡ true → KnownNodes w.tables →
    KnownNodes (step w e).after.tables
step-known w (what.Call c) known may is =
    answered-known w (answer (w.entries + 1) w c) (call-known (w.entries + 1) w c (known.orderly, is)) is
step-known w (what.Duty d) known may is =
    known-step w.tables _
    (duty-nodes (w.entries + 1) w d known.orderly known.home (IsDuty-due w d (room_duty w d may).2)) is

pub known-nodes-replay : (h : List Entry) → IsLegal h → KnownNodes (replay h).tables
known-nodes-replay h legal =
    by-last (λ g. KnownNodes (replay g).tables) (λ x k j. absurd j)
    (λ g e ok may is.
    subst (λ (w : World). KnownNodes w.tables) (sym (replay-snoc empty_world g e))
    (step-known (replay g) e.what (known-replay g ok) may is)) h legal
