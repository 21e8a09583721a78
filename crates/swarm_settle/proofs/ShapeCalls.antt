-- What each operation and each call makes of the shape of the tables.
use Rattle.std.proofs.Common.{Bool, Err, List, None, Ok, Option, Some, [], arith, cond, false, inl, length, nat_lt, refl, subst, sym, true, ℕ, ◌≡◌}
use Rattle.std.specs.Option.{option_map}
use Rattle.std.specs.Prelude.{filter, find, not, ◌==◌}
use Rattle.swarm_model.proofs.Base.Answers.{OnGiven, given-found, given-if, given-if_not, given-unless, given-unless_some, none_of, not_refused}
use Rattle.swarm_model.proofs.Laws.Kept.{InOrder, Runs, node-keeps, order-of}
use Rattle.swarm_model.proofs.Laws.KeptDuties.{runs-same}
use Rattle.swarm_model.proofs.Moves.Operations.{op-moves}
use Rattle.swarm_model.proofs.Moves.Rows.{becomes-filter, between-one}
use Rattle.swarm_model.proofs.Moves.Worlds.{IsOrderly, Moves, orderly-moves}
use Rattle.swarm_model.specs.Calls.Faults.{on_agent}
use Rattle.swarm_model.specs.Calls.Networks.{remove_network}
use Rattle.swarm_objects.specs.NewRows.{new_node, respecified_node}
use Rattle.swarm_model.specs.Calls.Nodes.{remove_node, update_node}
use Rattle.swarm_model.specs.Calls.Operations.{apply_op}
use Rattle.swarm_model.specs.Calls.Refusals.{Done, bad_spec, conflict, found, missing_network, name_taken, network_by, node_by, node_name, port_taken, service_by, service_name}
use Rattle.swarm_objects.specs.NewRows.{same_mode}
use Rattle.swarm_objects.specs.Refusals.{refuse}
use Rattle.swarm_model.specs.Calls.Remote.{begin_with, given_or, on_remote, on_session, pulled, report}
use Rattle.swarm_objects.specs.Nodes.Admission.{not_admitted}
use Rattle.swarm_model.specs.Calls.Services.{broken_draft, create_service, go_back, is_attempt_of, remove_service, rollback_service, update_service, without_service}
use Rattle.swarm_model.specs.Calls.Views.{View, shows}
use Rattle.swarm_model.specs.Calls.Watches.{polled, told_at, waiting_events, watch_finish, watch_poll, without_watcher}
use Rattle.swarm_model.specs.Calls.{answer, viewed}
use Rattle.swarm_model.specs.History.{step}
use Rattle.swarm_model.specs.Outcome.{Answered}
use Rattle.swarm_objects.proofs.RowLemmas.{Has-filter_cases, Has-map}
use Rattle.swarm_objects.proofs.Filters.{filter_map}
use Rattle.swarm_objects.specs.Agents.Messages.{message_for}
use Rattle.swarm_objects.specs.Changes.{id_taken}
use Rattle.swarm_objects.specs.Limits.{most_events}
use Rattle.swarm_objects.specs.Loops.Agents.{change_agent}
use Rattle.swarm_objects.specs.Nodes.Sessions.{session_of}
use Rattle.swarm_objects.specs.Rows.{Has, drop_row, node_id, row_at, service_id, task_id, watcher_id}
use Rattle.swarm_objects.specs.Rules.Settings.{settings_break, settings_rules}
use Rattle.swarm_objects.specs.World.{Tables, World, empty_tables}
use Rattle.swarm_objects.specs.declared.agents.NodeAgent.{NodeAgent}
use Rattle.swarm_objects.specs.declared.calls.Call.TheVariants as call
use Rattle.swarm_objects.specs.declared.calls.Call.{Call}
use Rattle.swarm_objects.specs.declared.calls.Op.TheVariants as op
use Rattle.swarm_objects.specs.declared.calls.Op.{Op}
use Rattle.swarm_objects.specs.declared.ids.Kind.TheVariants as kind
use Rattle.swarm_objects.specs.declared.messages.Message.{Message}
use Rattle.swarm_objects.specs.declared.networks.Network.{Network}
use Rattle.swarm_objects.specs.declared.nodes.Node.{Node}
use Rattle.swarm_objects.specs.declared.replies.Refusal.TheVariants as refusal
use Rattle.swarm_objects.specs.declared.replies.Reply.TheVariants as reply
use Rattle.swarm_objects.specs.declared.replies.Reply.{Reply}
use Rattle.swarm_objects.specs.declared.replies.Wanted.TheVariants as wanted_by
use Rattle.swarm_objects.specs.declared.rules.SpecRule.{SpecRule}
use Rattle.swarm_objects.specs.declared.services.Draft.{Draft}
use Rattle.swarm_objects.specs.declared.services.Service.{Service}
use Rattle.swarm_objects.specs.declared.services.ServiceSpec.{ServiceSpec}
use Rattle.swarm_objects.specs.declared.tasks.Task.{Task}
use Rattle.swarm_objects.specs.declared.tasks.TaskState.TheVariants as state
use Rattle.swarm_objects.specs.declared.watches.Event.{Event}
use Rattle.swarm_objects.specs.declared.watches.Watcher.{Watcher}
use Rattle.std.proofs.Common.{ap, ◌++◌, ◌∙◌, ◌∷◌}
use Rattle.std.specs.Prelude.{fold, map, ⊤}
use Rattle.swarm_settle.proofs.PlaceLists.{append-none}
use Rattle.swarm_settle.proofs.ShapeDuties.{hidden-touch, map-push}
use Rattle.swarm_settle.proofs.ShapeLoops.{put-service, raised-hidden}
use Rattle.swarm_settle.proofs.ShapeWords.{each-mapped}
use Rattle.swarm_settle.proofs.Shapes.{OpStep, Respecifies, bare, blank, comes, leaves, respecifies, shape, still}
use Rattle.swarm_model.proofs.Laws.OfService.{OfServices, of-services-keep}
use Rattle.swarm_model.proofs.Laws.OneEach.{alike-by, previous-kind}
use Rattle.swarm_model.proofs.Laws.KeptCalls.{named-has, respecified-room}
use Rattle.swarm_model.proofs.Moves.Opening.{regroup}
use Rattle.swarm_model.specs.Calls.Nodes.{is_left_behind, tables_without_node}
use Rattle.swarm_model.specs.Calls.Remote.{begun_tables}
use Rattle.swarm_objects.specs.Nodes.Opening.{TakenSoFar, fits_in, keep_task, keep_other}
use Rattle.swarm_model.specs.Calls.Services.{filled, new_service, with_service}
use Rattle.swarm_objects.specs.NewRows.{respecified}
use Rattle.swarm_objects.specs.Changes.{change_service, change_task, in_state, raised_to}
use Rattle.swarm_objects.specs.Nodes.Holdings.{is_placed_on}

-- what an operation of the entry makes: a step of the shape, and services of which tasks have the right goals and
-- places
pub record MadeOp (n : ℕ) (w v : World) : Type 0 where
  pub step : OpStep n (shape w.tables) (shape v.tables)
  pub of : OfServices v.tables

abbrev IsMade : ℕ → World → Done → Type 0
IsMade n w done = OnGiven (λ (d : World × ℕ). MadeOp n w d.0) done

shape-step : (n : ℕ) (w : World) (t : Tables) (ss : List Service) → map bare t.services ≡ ss → t.tasks
    ≡ w.tables.tasks →
    OpStep n (shape w.tables) (record (shape w.tables) { services = ss }) → OpStep n (shape w.tables) (shape t)
shape-step n w t ss services tasks step =
    subst (λ (xs : List Task). OpStep n (shape w.tables)
    (record empty_tables { services = map bare t.services; tasks = map blank xs })) (sym tasks)
    (subst (λ (vs : List Service). OpStep n (shape w.tables) (record (shape w.tables) { services = vs })) (sym services)
    step)

-- Services.

create-made : (n : ℕ) (w : World) (name : List ℕ) (d : Draft) → InOrder w.tables → OfServices w.tables →
    IsMade n w (create_service n w name d)
create-made n w name d is of =
    given-unless (λ (d : World × ℕ). MadeOp n w d.0) _ _
    (λ e.
    let rules = none_of (broken_draft d) _ e in
    let named = none_of (name_taken (option_map service_id (service_by w.tables name))) _ rules.1 in
    let networks = none_of (missing_network w.tables d.networks) _ named.1 in
    let ports = none_of (port_taken w.tables None d.spec.ports) _ networks.1 in
    record {
      step = shape-step n w (with_service w.tables (new_service n w.tables name d))
          (map bare w.tables.services ++ bare (new_service n w.tables name d) ∷ [])
          (map-push bare w.tables.services (new_service n w.tables name d)) refl
          (comes (bare (new_service n w.tables name d))
          (each-mapped (λ (x : Task). ¬ (x.service ≡ w.tables.next_id)) blank w.tables.tasks
          (λ x h same. omega (arith, of.one.below x h, same))) refl refl);
      of = of-services-keep.service_comes n w.tables name d is of (record { rules = rules.0; ports = ports.0 });
    })

put-made : (n : ℕ) (w : World) (s v : Service) (spec : ServiceSpec) → IsOrderly w → Has w.tables.services s →
    Respecifies n spec (bare s) (bare v) → v.id ≡ s.id →
    OpStep n (shape w.tables) (shape (change_service s.id (λ old. v) w.tables))
put-made n w s v spec orderly h r id =
    shape-step n w (change_service s.id (λ old. v) w.tables) _ (put-service w s (λ old. v) orderly h) refl
    (respecifies (bare s) (bare v) spec (Has-map bare w.tables.services s h) r)

update-made : (n : ℕ) (w : World) (asked : Option ℕ) (d : Draft) (s : Service) → IsOrderly w → OfServices w.tables →
    Has w.tables.services s → IsMade n w (update_service n w asked d s)
update-made n w asked d s orderly of there =
    given-unless (λ (d : World × ℕ). MadeOp n w d.0) _ _
    (λ e.
    let asked_so = none_of (conflict asked s.version) _ e in
    let rules = none_of (broken_draft d) _ asked_so.1 in
    let kind_is = none_of (refuse (not (same_mode d.spec.mode s.spec.mode)) refusal.ModeChange) _ rules.1 in
    let networks = none_of (missing_network w.tables d.networks) _ kind_is.1 in
    let ports = none_of (port_taken w.tables (Some s.id) d.spec.ports) _ networks.1 in
    let same = same_is (same_mode d.spec.mode s.spec.mode)
    (not_refused (not (same_mode d.spec.mode s.spec.mode)) refusal.ModeChange kind_is.0) in
    record {
      step = put-made n w s (respecified n false (filled w.tables d) s) (filled w.tables d) orderly there
          (record {
            id = refl;
            spec_is = refl;
            alike = alike-by d.spec.mode s.spec.mode same;
            template_version = refl;
            iteration = refl;
            run = refl;
          }) refl;
      of = of-services-keep.updates n w.tables s d (order-of w orderly) of there same
          (record { rules = rules.0; ports = ports.0 });
    })
  where
    same_is : (b : Bool) → not b ≡ false → b ≡ true
    same_is true e = refl
    same_is false e = absurd cc

back-made : (n : ℕ) (w : World) (s : Service) (spec : Option ServiceSpec) → IsOrderly w → OfServices w.tables →
    Has w.tables.services s → s.previous ≡ spec → IsMade n w (go_back n w s spec)
back-made n w s None orderly of there e = tt
back-made n w s (Some spec) orderly of there e = record {
  step = put-made n w s (respecified n true spec s) spec orderly there
      (record {
        id = refl;
        spec_is = refl;
        alike = previous-kind s spec (of.one.kinds s there) e;
        template_version = refl;
        iteration = refl;
        run = refl;
      }) refl;
  of = of-services-keep.rolls_back n w.tables s spec (order-of w orderly) of there e;
}

leave-made : (n : ℕ) (w : World) (s : Service) → InOrder w.tables → OfServices w.tables →
    IsMade n w (remove_service w s)
leave-made n w s is of = record {
  step = shape-step n w (without_service w.tables s.id) (drop_row service_id s.id (map bare w.tables.services))
      (sym (filter_map (λ v. not (service_id v == s.id)) bare w.tables.services (λ v. refl))) refl (leaves s.id);
  of =
      (let left = record w.tables { services = drop_row service_id s.id w.tables.services } in
      of-services-keep.attempts left (filter (λ a. not (is_attempt_of s.id a)) w.tables.attempts)
      (of-services-keep.runs w.tables (drop_row service_id s.id w.tables.services) is of
      (becomes-filter (Runs w.tables.clock) (λ v. not (service_id v == s.id)) (runs-same w.tables.clock)
      w.tables.services))
      (λ a h. inl (Has-filter_cases (λ a. not (is_attempt_of s.id a)) w.tables.attempts a h).0));
}

-- Nodes.

left-hidden : (version : ℕ) (t : Tables) (id : ℕ) → map blank (tables_without_node version t id).tasks
    ≡ map blank t.tasks
left-hidden version t id =
    hidden-touch (is_left_behind id) (in_state version t.clock state.Orphaned) t.tasks (λ x. refl)

-- the tasks of the shape are the same
still-by : (n : ℕ) (w : World) (t : Tables) → map blank t.tasks ≡ map blank w.tables.tasks →
    t.services ≡ w.tables.services → OpStep n (shape w.tables) (shape t)
still-by n w t tasks services =
    subst (λ (vs : List Service). OpStep n (shape w.tables)
    (record empty_tables { services = map bare vs; tasks = map blank t.tasks })) (sym services)
    (subst (λ (xs : List Task). OpStep n (shape w.tables) (record (shape w.tables) { tasks = xs })) (sym tasks) still)

op-made : (n : ℕ) (w : World) (o : Op) → IsOrderly w → OfServices w.tables → IsMade n w (apply_op n w o)
op-made n w (op.CreateNode name draft) is of =
    given-unless (λ (d : World × ℕ). MadeOp n w d.0) _ _
    (λ e.
    record {
      step = still;
      of = of-services-keep.node_comes w.tables (new_node n w.tables.next_id name draft) (order-of w is) of refl refl;
    })
op-made n w (op.UpdateNode name asked labels r a) is of =
    given-found (λ (d : World × ℕ). MadeOp n w d.0) kind.Node (wanted_by.Name name) (node_by w.tables name)
    (λ m. update_node w asked m (respecified_node n labels r a m))
    (λ (m : Node) e. given-unless (λ (d : World × ℕ). MadeOp n w d.0) _ _
    (λ ok.
    record {
      step = still;
      of = node-keeps OfServices of-services-keep w.tables m.id (λ k. respecified_node n labels r a m)
          (order-of w is) of
          (λ k h same. respecified-room n w.tables.clock labels r a m k
          (between-one node_id 1 w.tables.next_id w.tables.nodes m k is.nodes
          (named-has node_name name w.tables.nodes m e) h (sym same)));
    }))
op-made n w (op.RemoveNode name force) is of =
    given-found (λ (d : World × ℕ). MadeOp n w d.0) kind.Node (wanted_by.Name name) (node_by w.tables name)
    (remove_node n w force)
    (λ (m : Node) e. given-unless (λ (d : World × ℕ). MadeOp n w d.0) _ _
    (λ ok.
    record {
      step = still-by n w (tables_without_node n w.tables m.id) (left-hidden n w.tables m.id) refl;
      of = of-services-keep.node_goes n w.tables m.id (order-of w is) of;
    }))
op-made n w (op.CreateService name d) is of = create-made n w name d (order-of w is) of
op-made n w (op.UpdateService name asked d) is of =
    given-found (λ (d : World × ℕ). MadeOp n w d.0) kind.Service (wanted_by.Name name) (service_by w.tables name)
    (update_service n w asked d)
    (λ (s : Service) e. update-made n w asked d s is of (named-has service_name name w.tables.services s e))
op-made n w (op.RemoveService name) is of =
    given-found (λ (d : World × ℕ). MadeOp n w d.0) kind.Service (wanted_by.Name name) (service_by w.tables name)
    (remove_service w) (λ (s : Service) e. leave-made n w s (order-of w is) of)
op-made n w (op.RollbackService name asked) is of =
    given-found (λ (d : World × ℕ). MadeOp n w d.0) kind.Service (wanted_by.Name name) (service_by w.tables name)
    (rollback_service n w asked)
    (λ (s : Service) e. given-unless_some (λ (d : World × ℕ). MadeOp n w d.0) (conflict asked s.version) _
    (λ ok. back-made n w s s.previous is of (named-has service_name name w.tables.services s e) refl))
op-made n w (op.CreateNetwork name base bits) is of =
    given-unless (λ (d : World × ℕ). MadeOp n w d.0) _ _
    (λ e.
    record {
      step = still;
      of = of-services-keep.networks (id_taken w.tables) _ (of-services-keep.ids w.tables (order-of w is) of);
    })
op-made n w (op.RemoveNetwork name) is of =
    given-found (λ (d : World × ℕ). MadeOp n w d.0) kind.Network (wanted_by.Name name) (network_by w.tables name)
    (remove_network w)
    (λ (m : Network) e. given-unless (λ (d : World × ℕ). MadeOp n w d.0) _ _
    (λ ok. record { step = still; of = of-services-keep.networks w.tables _ of }))
op-made n w (op.SetCluster settings) is of =
    given-unless (λ (d : World × ℕ). MadeOp n w d.0) _ _
    (λ e.
    record {
      step = still;
      of = of-services-keep.settings w.tables settings (unbroken (find (settings_break settings) settings_rules) e) of;
    })
  where
    unbroken : (r : Option SpecRule) → bad_spec r ≡ None → r ≡ None
    unbroken None e = refl
    unbroken (Some r) e = absurd cc

-- an operation in an orderly world
pub op-steps : (n : ℕ) (w : World) (o : Op) → IsOrderly w → OfServices w.tables →
    OnGiven (λ (d : World × ℕ). IsOrderly d.0 × MadeOp n w d.0) (apply_op n w o)
op-steps n w o is of = join (apply_op n w o) (op-moves n w o is) (op-made n w o is of)
  where
    join : (given : Done) → OnGiven (λ (d : World × ℕ). Moves w d.0) given → IsMade n w given →
        OnGiven (λ (d : World × ℕ). IsOrderly d.0 × MadeOp n w d.0) given
    join (Ok d) moves made = (orderly-moves w d.0 is moves, made)
    join (Err r) moves made = tt

-- Calls.

-- the shape is as it was
abbrev pub IsHidden : World → Answered → Type 0
IsHidden w given = OnGiven (λ (d : Reply × World). shape d.1.tables ≡ shape w.tables) given

hidden-by : (w : World) (t : Tables) → map blank t.tasks ≡ map blank w.tables.tasks → t.services ≡ w.tables.services →
    shape t ≡ shape w.tables
hidden-by w t tasks services =
    ap (λ (vs : List Service). record empty_tables { services = map bare vs; tasks = map blank t.tasks }) services
    ∙ ap (λ (xs : List Task). record (shape w.tables) { tasks = xs }) tasks

-- the tasks that still fit are the same ones, some of them rejected
within-hidden : (version clock node : ℕ) (kept : TakenSoFar) (xs : List Task) →
    map blank (fold (keep_other version clock node) kept xs).tasks ≡ map blank kept.tasks ++ map blank xs
within-hidden version clock node kept [] = sym (append-none (map blank kept.tasks))
within-hidden version clock node kept (x ∷ xs) =
    within-hidden version clock node (keep_other version clock node kept x) xs
    ∙ ap (λ (ys : List Task). ys ++ map blank xs) (one (is_placed_on node x) (fits_in kept x))
    ∙ regroup (map blank kept.tasks) (blank x) (map blank xs)
  where
    one : (on fits : Bool) →
        map blank (cond on (cond fits (keep_task kept x)
        (record kept { tasks = kept.tasks ++ in_state version clock state.Rejected x ∷ [] }))
        (record kept { tasks = kept.tasks ++ x ∷ [] })).tasks ≡ map blank kept.tasks ++ blank x ∷ []
    one true true = map-push blank kept.tasks x
    one true false = map-push blank kept.tasks (in_state version clock state.Rejected x)
    one false fits = map-push blank kept.tasks x

begun-hidden : (version : ℕ) (t : Tables) (node cpu mem : ℕ) →
    map blank (begun_tables version t node cpu mem).tasks ≡ map blank t.tasks
begun-hidden version t node cpu mem =
    within-hidden version t.clock node (record { cpu = cpu; mem = mem; tasks = [] }) t.tasks

polled-hidden : (entry : ℕ) (w : World) (id : ℕ) (events : List Event) →
    shape (polled entry w id events).1.tables ≡ shape w.tables
polled-hidden entry w id events = go (nat_lt most_events (length events))
  where
    go : (lagged : Bool) → shape (cond {A = Reply × World} lagged
        (reply.Refused (refusal.Lagged (length events)), without_watcher id w)
        (reply.Events events, told_at entry id w)).1.tables ≡ shape w.tables
    go true = refl
    go false = refl

poll-hidden : (entry : ℕ) (w : World) (id : ℕ) (x : Option Watcher) → IsHidden w (watch_poll entry w id x)
poll-hidden entry w id None = tt
poll-hidden entry w id (Some x) = polled-hidden entry w id (waiting_events w x)

finish-hidden : (w : World) (id : ℕ) (x : Option Watcher) → IsHidden w (watch_finish w id x)
finish-hidden w id None = tt
finish-hidden w id (Some x) = refl

agent-hidden : (w : World) (name : List ℕ) (f : NodeAgent → NodeAgent) → IsHidden w (on_agent w name f)
agent-hidden w name f =
    given-found (λ (d : Reply × World). shape d.1.tables ≡ shape w.tables) kind.Node (wanted_by.Name name)
    (node_by w.tables name) (λ n. cond n.remote (Err (refusal.WrongKind n.id))
    (Ok (reply.AgentDone n.id, change_agent n.id f w)))
    (λ (n : Node) e. given-if_not (λ (d : Reply × World). shape d.1.tables ≡ shape w.tables) n.remote
    (Ok (reply.AgentDone n.id, change_agent n.id f w)) (refusal.WrongKind n.id) (λ k. refl))

remote-hidden : (w : World) (name : List ℕ) (next : Node → Answered) → ((n : Node) → IsHidden w (next n)) →
    IsHidden w (on_remote w.tables name next)
remote-hidden w name next each =
    given-found (λ (d : Reply × World). shape d.1.tables ≡ shape w.tables) kind.Node (wanted_by.Name name)
    (node_by w.tables name) (λ n. cond n.remote (next n) (Err (refusal.WrongKind n.id)))
    (λ (n : Node) e. given-if (λ (d : Reply × World). shape d.1.tables ≡ shape w.tables) n.remote (next n)
    (refusal.WrongKind n.id) (λ k. each n))

session-hidden : (w : World) (name : List ℕ) (session : ℕ) (next : Node → Answered) →
    ((n : Node) → IsHidden w (next n)) → IsHidden w (on_session w.tables name session next)
session-hidden w name session next each =
    remote-hidden w name
    (λ n. elim (not_admitted w.tables.clock session (session_of w.tables n.id)) [ Some r ↦ Err r | None ↦ next n ])
    (λ n. given-unless_some (λ (d : Reply × World). shape d.1.tables ≡ shape w.tables)
    (not_admitted w.tables.clock session (session_of w.tables n.id)) (next n) (λ e. each n))

pulled-hidden : (w : World) (node : ℕ) (m : Option Message) → shape (pulled w node m).tables ≡ shape w.tables
pulled-hidden w node None = refl
pulled-hidden w node (Some m) = refl

view-hidden : (w : World) (v : View) → IsHidden w (viewed w v)
view-hidden w (Ok v) = refl
view-hidden w (Err r) = tt

-- every call but a transaction
abbrev pub IsTransaction : Call → Type 0
IsTransaction (call.Txn ops) = ⊤
IsTransaction _ = ⊥

pub call-hidden : (n : ℕ) (w : World) (c : Call) → ¬ (IsTransaction c) → IsHidden w (answer n w c)
call-hidden n w (call.Txn ops) no_txn = absurd (no_txn tt)
call-hidden n w (call.View asked) no_txn = view-hidden w (shows w.tables asked)
call-hidden n w (call.WatchBegin f) no_txn =
    given-unless (λ (d : Reply × World). shape d.1.tables ≡ shape w.tables) _ _ (λ e. refl)
call-hidden n w (call.WatchPoll id) no_txn = poll-hidden n w id (row_at watcher_id id w.watchers)
call-hidden n w (call.WatchFinish id) no_txn = finish-hidden w id (row_at watcher_id id w.watchers)
call-hidden n w (call.Tick ms) no_txn =
    given-unless (λ (d : Reply × World). shape d.1.tables ≡ shape w.tables) _ _ (λ e. refl)
call-hidden n w (call.Settle budget) no_txn = refl
call-hidden n w (call.NodeFail name) no_txn = agent-hidden w name _
call-hidden n w (call.NodeStart name) no_txn = agent-hidden w name _
call-hidden n w (call.AgentStop name) no_txn = agent-hidden w name _
call-hidden n w (call.AgentStart name) no_txn = agent-hidden w name _
call-hidden n w (call.RemoteBegin name cpu mem) no_txn =
    remote-hidden w name (λ m. begin_with n w m.id (given_or cpu m.cpu) (given_or mem m.mem))
    (λ m. given-unless (λ (d : Reply × World). shape d.1.tables ≡ shape w.tables) _ _
    (λ e. hidden-by w (begun_tables n w.tables m.id (given_or cpu m.cpu) (given_or mem m.mem))
    (begun-hidden n w.tables m.id (given_or cpu m.cpu) (given_or mem m.mem)) refl))
call-hidden n w (call.RemoteBeat name session) no_txn = session-hidden w name session _ (λ m. refl)
call-hidden n w (call.RemotePull name session) no_txn =
    session-hidden w name session _ (λ m. pulled-hidden w m.id (message_for w m.id))
call-hidden n w (call.RemoteStatus name session task s) no_txn =
    session-hidden w name session
    (λ m. found kind.Task (wanted_by.Id task) (row_at task_id task w.tables.tasks) (report n w m.id s))
    (λ m. given-found (λ (d : Reply × World). shape d.1.tables ≡ shape w.tables) kind.Task (wanted_by.Id task)
    (row_at task_id task w.tables.tasks) (report n w m.id s)
    (λ (x : Task) e. given-unless (λ (d : Reply × World). shape d.1.tables ≡ shape w.tables) _ _
    (λ ok.
    hidden-by w (change_task x.id (raised_to n w.tables.clock s) w.tables)
    (hidden-touch (λ y. task_id y == x.id) (raised_to n w.tables.clock s) w.tables.tasks
    (raised-hidden n w.tables.clock s)) refl)))
call-hidden n w call.Halt no_txn = refl
