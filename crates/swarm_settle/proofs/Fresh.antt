-- No message in an agent's inbox is stale.
use Rattle.std.proofs.Common.{Bool, Err, List, None, Ok, Option, Result, Some, [], ap, arith, cond, eqb, false, length, nat_lt, not, refl, subst, sym, true, ℕ, ◌+◌, ◌∙◌, ◌∷◌, ◌≡◌}
use Rattle.std.proofs.lemmas.Bool.Decides.{nat_tests}
use Rattle.std.specs.Prelude.{filter, ◌==◌}
use Rattle.swarm_settle.proofs.AimSteps.{row_at-drop_other, row_at-drop_same}
use Rattle.swarm_settle.proofs.Closings.{by-last}
use Rattle.swarm_settle.proofs.Known.{Known, known-replay}
use Rattle.swarm_settle.proofs.TogetherCalls.{together-replay}
use Rattle.swarm_settle.specs.Fresh.{AreFresh, FreshLaw, IsFresh}
use Rattle.swarm_objects.specs.Agents.Messages.{is_stale}
use Rattle.swarm_settle.specs.Sent.{HasOwners, inside_numbers, is_inside}
use Rattle.swarm_model.proofs.Base.Answers.{OnGiven, given-found, given-if, given-if_not, given-unless, given-unless_some, ops-keep}
use Rattle.swarm_model.proofs.Base.FromLists.{IsDuty-due}
use Rattle.swarm_model.proofs.Base.Histories.{replay-snoc, room_duty}
use Rattle.swarm_model.proofs.Base.IsDuty.{IsDuty}
use Rattle.swarm_model.proofs.Laws.Prefixes.{each-prefix}
use Rattle.swarm_model.proofs.Laws.Timely.{each-changed, each-pushed}
use Rattle.swarm_model.proofs.Moves.Calls.{find-has}
use Rattle.swarm_model.proofs.Moves.Operations.{op-moves}
use Rattle.swarm_model.proofs.Moves.Rows.{between-has, between-one}
use Rattle.swarm_model.proofs.Moves.Worlds.{IsOrderly, Moves, orderly-moves}
use Rattle.swarm_objects.specs.Agents.NodeAgents.{failed_agent, in_mode, mode_after_start, mode_after_stop, started_agent}
use Rattle.swarm_model.specs.Calls.Faults.{on_agent}
use Rattle.swarm_model.specs.Calls.Networks.{remove_network}
use Rattle.swarm_objects.specs.Agents.NodeAgents.{new_agent}
use Rattle.swarm_objects.specs.NewRows.{new_node, respecified_node}
use Rattle.swarm_model.specs.Calls.Nodes.{remove_node, update_node, with_agent_if, with_node, without_node}
use Rattle.swarm_model.specs.Calls.Operations.{apply_op, apply_ops}
use Rattle.swarm_model.specs.Calls.Refusals.{Done, conflict, found as found_row, has_name, network_by, node_by, node_name, service_by}
use Rattle.swarm_model.specs.Calls.Remote.{begin_with, given_or, on_remote, on_session, pulled, report}
use Rattle.swarm_objects.specs.Nodes.Admission.{not_admitted}
use Rattle.swarm_model.specs.Calls.Services.{go_back, remove_service, rollback_service, update_service}
use Rattle.swarm_model.specs.Calls.Views.{View, shows}
use Rattle.swarm_model.specs.Calls.Watches.{polled, told_at, waiting_events, watch_finish, watch_poll, without_watcher}
use Rattle.swarm_model.specs.Calls.{answer, answered, txn_answer, viewed}
use Rattle.swarm_model.specs.History.{IsLegal, may_follow, replay, step}
use Rattle.swarm_model.specs.Outcome.{Answered}
use Rattle.swarm_objects.proofs.RowChanges.{row_at-with_row}
use Rattle.swarm_objects.proofs.RowLemmas.{Has-filter_cases, Has-from_row_at, Has-map, Has-map_cases}
use Rattle.swarm_objects.proofs.Tests.{false_from_ne_true, never-both, not-true}
use Rattle.swarm_objects.specs.Agents.Messages.{changes_of, complete_message, difference_message, due_set, message_for, message_with, next_message, sent_of, with_sent, change_executor}
use Rattle.swarm_objects.specs.Duties.{effect_by}
use Rattle.swarm_objects.specs.Limits.{most_events, most_ops}
use Rattle.swarm_objects.specs.Loops.Agents.{after_pull, begun, change_agent, received, stepped, take_in, told}
use Rattle.swarm_objects.specs.Nodes.Sessions.{session_of}
use Rattle.swarm_objects.specs.Rows.{Has, agent_node, change_row, drop_row, executor_task, node_id, row_at, sent_node, task_id, watcher_id, with_row}
use Rattle.swarm_objects.specs.World.{World, empty_world}
use Rattle.swarm_objects.specs.declared.agents.NodeAgent.{NodeAgent}
use Rattle.swarm_objects.specs.declared.calls.Call.TheVariants as call
use Rattle.swarm_objects.specs.declared.calls.Call.{Call}
use Rattle.swarm_objects.specs.declared.calls.Entry.{Entry}
use Rattle.swarm_objects.specs.declared.calls.Op.TheVariants as op
use Rattle.swarm_objects.specs.declared.calls.Op.{Op}
use Rattle.swarm_objects.specs.declared.calls.What.TheVariants as what
use Rattle.swarm_objects.specs.declared.calls.What.{What}
use Rattle.swarm_objects.specs.declared.duties.Duty.TheVariants as duty
use Rattle.swarm_objects.specs.declared.duties.Duty.{Duty}
use Rattle.swarm_objects.specs.declared.ids.Kind.TheVariants as kind
use Rattle.swarm_objects.specs.declared.messages.AssignChange.{AssignChange}
use Rattle.swarm_objects.specs.declared.messages.Assigned.{Assigned}
use Rattle.swarm_objects.specs.declared.messages.Message.{Message}
use Rattle.swarm_objects.specs.declared.messages.NodeSent.{NodeSent}
use Rattle.swarm_objects.specs.declared.networks.Network.{Network}
use Rattle.swarm_objects.specs.declared.nodes.Node.{Node}
use Rattle.swarm_objects.specs.declared.replies.Refusal.TheVariants as refusal
use Rattle.swarm_objects.specs.declared.replies.Refusal.{Refusal}
use Rattle.swarm_objects.specs.declared.replies.Reply.TheVariants as reply
use Rattle.swarm_objects.specs.declared.replies.Reply.{Reply}
use Rattle.swarm_objects.specs.declared.replies.Wanted.TheVariants as wanted_by
use Rattle.swarm_objects.specs.declared.services.Service.{Service}
use Rattle.swarm_objects.specs.declared.services.ServiceSpec.{ServiceSpec}
use Rattle.swarm_objects.specs.declared.tasks.Task.{Task}
use Rattle.swarm_objects.specs.declared.watches.Event.{Event}
use Rattle.swarm_objects.specs.declared.watches.Watcher.{Watcher}

abbrev One : List NodeSent → NodeAgent → Type 0
One sent a = IsFresh (row_at sent_node a.node sent) a.inbox a.applied

abbrev All : List NodeSent → List NodeAgent → Type 0
All sent agents = (a : NodeAgent) → Has agents a → One sent a

-- Duties.

each-turned : (P : NodeAgent → Type 0) (node : ℕ) (f : NodeAgent → NodeAgent) (agents : List NodeAgent) →
    ((a : NodeAgent) → Has agents a → eqb a.node node ≡ false → P a) →
    ((a : NodeAgent) → Has agents a → a.node ≡ node → P (f a)) → (b : NodeAgent) →
    Has (change_row agent_node node f agents) b → P b
each-turned P node f agents others one b h =
    let from = Has-map_cases (λ a. cond (eqb (agent_node a) node) (f a) a) agents b h in
    subst P from.2 (go from.0 from.1 (eqb from.0.node node) refl)
  where
    go : (a : NodeAgent) → Has agents a → (x : Bool) → eqb a.node node ≡ x → P (cond x (f a) a)
    go a k true e = one a k (grind (arith, nat_tests, e))
    go a k false e = others a k e

-- one agent changes and keeps node, inbox and what it applied
kept : (sent : List NodeSent) (node : ℕ) (f : NodeAgent → NodeAgent) (agents : List NodeAgent) →
    ((a : NodeAgent) → One sent a → One sent (f a)) → All sent agents → All sent (change_row agent_node node f agents)
kept sent node f agents keeps is =
    each-changed (One sent) agent_node node f agents is (λ a h e. keeps a (is a h))

registered : (sent : List NodeSent) (m : ℕ) (agents : List NodeAgent) → All sent agents →
    All (drop_row sent_node m sent) (change_row agent_node m begun agents)
registered sent m agents is =
    each-turned (One (drop_row sent_node m sent)) m begun agents
    (λ a h e.
    subst (λ (o : Option NodeSent). IsFresh o a.inbox a.applied)
    (sym (row_at-drop_other sent_node m a.node sent e)) (is a h))
    (λ a h e s at.
    let none = ap (λ (k : ℕ). row_at sent_node k (drop_row sent_node m sent)) e ∙ row_at-drop_same sent_node m sent in
    absurd (let wrong : None ≡ Some s = sym none ∙ at in cc))

taken : (sent : List NodeSent) (clock : ℕ) (a : NodeAgent) (o : Option Message) → a.inbox ≡ o →
    IsFresh (row_at sent_node a.node sent) o a.applied → One sent (take_in clock o a)
taken sent clock a None at is =
    subst (λ (o : Option Message). IsFresh (row_at sent_node a.node sent) o a.applied) (sym at) is
taken sent clock a (Some m) at is = is.1

not_stale : (sent : Option NodeSent) (due : List Assigned) (m : Message) (applied : ℕ) → next_message sent due ≡ Some m →
    ((s : NodeSent) → sent ≡ Some s → s.count ≡ applied) → is_stale applied m ≡ false
not_stale None due m applied e same =
    let is : complete_message due ≡ m = cc in subst (λ (x : Message). is_stale applied x ≡ false) is refl
not_stale (Some s) due m applied e same = go (changes_of s.tasks due) e
  where
    count : s.count ≡ applied
    count = same s refl

    go : (cs : List AssignChange) → message_with s.count cs ≡ Some m → is_stale applied m ≡ false
    go [] e = absurd cc
    go (c ∷ cs) e =
        let is : difference_message s.count (c ∷ cs) ≡ m = cc in
        subst (λ (x : Message). is_stale applied x ≡ false) is
        (ap not (let at : (s.count == applied) ≡ true = grind (arith, nat_tests, count) in at))

pulled_fresh : (w : World) (m : ℕ) → IsOrderly w → IsDuty w (duty.Pull m) → All w.sent w.agents →
    (o : Option Message) → message_for w m ≡ o → All (after_pull w m o).sent (after_pull w m o).agents
pulled_fresh w m orderly of is None at = is
pulled_fresh w m orderly of is (Some message) at =
    each-turned (One (with_row sent_node new w.sent)) m (received message) w.agents
    (λ a h e.
    let other : eqb m a.node ≡ false = grind (arith, nat_tests, e) in
    subst (λ (o : Option NodeSent). IsFresh o a.inbox a.applied)
    (sym (row_at-with_row sent_node a.node new w.sent
    ∙ ap (λ (b : Bool). cond b (Some new) (row_at sent_node a.node w.sent)) other)) (is a h))
    (λ a h e.
    let same : eqb m a.node ≡ true = grind (arith, nat_tests, e) in
    let was : (s : NodeSent) → sent_of w m ≡ Some s → s.count ≡ a.applied =
    subst (λ (k : ℕ). (s : NodeSent) → row_at sent_node k w.sent ≡ Some s → s.count ≡ a.applied) e
    (subst (λ (o : Option Message). IsFresh (row_at sent_node a.node w.sent) o a.applied) (empty a h e) (is a h)) in (
      not_stale (sent_of w m) (due_set w.tables m) message a.applied at was,
      λ s found.
          let here = row_at-with_row sent_node a.node new w.sent
          ∙ ap (λ (b : Bool). cond b (Some new) (row_at sent_node a.node w.sent)) same in
          let is_new : new ≡ s = (let both : Some new ≡ Some s = sym here ∙ found in cc) in
          sym (ap (λ (x : NodeSent). x.count) is_new),
    ))
  where
    new : NodeSent
    new = record { node = m; count = message.results_in; tasks = due_set w.tables m }

    empty : (a : NodeAgent) → Has w.agents a → a.node ≡ m → a.inbox ≡ None
    empty a h e =
        let same = between-one agent_node 1 w.tables.next_id w.agents of.row a orderly.agents of.there h
        (of.id_is ∙ sym e) in
        subst (λ (b : NodeAgent). ◌≡◌ {A = Option Message} b.inbox None) same of.fact.1.1.0

duty-fresh : (n : ℕ) (w : World) (d : Duty) → IsOrderly w → IsDuty w d → All w.sent w.agents →
    All (effect_by n w d).sent (effect_by n w d).agents
duty-fresh n w (duty.Register m) orderly of is = registered w.sent m w.agents is
duty-fresh n w (duty.Apply m) orderly of is =
    kept w.sent m (λ a. take_in w.tables.clock a.inbox a) w.agents
    (λ a h. taken w.sent w.tables.clock a a.inbox refl h) is
duty-fresh n w (duty.Pull m) orderly of is = pulled_fresh w m orderly of is (message_for w m) refl
duty-fresh n w (duty.Exec m x) orderly of is =
    kept w.sent m (λ a. record a { executors = change_executor x (stepped w.tables.clock) a.executors }) w.agents
    (λ a h. h) is
duty-fresh n w (duty.Report m x) orderly of is =
    kept w.sent m (λ a. record a { executors = change_executor x told a.executors }) w.agents (λ a h. h) is
duty-fresh n w (duty.Forget m x) orderly of is =
    kept w.sent m (λ a. record a { executors = drop_row executor_task x a.executors }) w.agents (λ a h. h) is
duty-fresh n w d orderly of is = is

-- Operations.

abbrev Fresh : World → Type 0
Fresh w = All w.sent w.agents

none-sent : (w : World) → IsOrderly w → row_at sent_node w.tables.next_id w.sent ≡ None
none-sent w orderly = go (row_at sent_node w.tables.next_id w.sent) refl
  where
    go : (o : Option NodeSent) → row_at sent_node w.tables.next_id w.sent ≡ o → o ≡ None
    go None at = refl
    go (Some s) at =
        let row = Has-from_row_at sent_node w.tables.next_id w.sent s at in
        let below = between-has sent_node 1 w.tables.next_id w.sent s orderly.sent row.0 in
        absurd (omega (arith, below.1, row.1))

node-fresh : (w : World) (n : Node) → IsOrderly w → n.id ≡ w.tables.next_id → Fresh w → Fresh (with_node w n)
node-fresh w n orderly number is = go (not n.remote)
  where
    go : (b : Bool) → All w.sent (with_agent_if b n.id w.agents)
    go true =
        each-pushed (One w.sent) w.agents (new_agent n.id) is
        (λ s at.
        let none = ap (λ (k : ℕ). row_at sent_node k w.sent) number ∙ none-sent w orderly in
        absurd (let wrong : None ≡ Some s = sym none ∙ at in cc))
    go false = is

gone-fresh : (n : ℕ) (w : World) (id : ℕ) → Fresh w → Fresh (without_node n w id)
gone-fresh n w id is a h =
    let at = Has-filter_cases (λ b. not (eqb (agent_node b) id)) w.agents a h in
    subst (λ (o : Option NodeSent). IsFresh o a.inbox a.applied)
    (sym (row_at-drop_other sent_node id a.node w.sent (not-true (eqb a.node id) at.1))) (is a at.0)

abbrev AfterOp : World × ℕ → Type 0
AfterOp d = Fresh d.0

op-fresh : (n : ℕ) (w : World) (o : Op) → IsOrderly w → Fresh w → OnGiven AfterOp (apply_op n w o)
op-fresh n w (op.CreateNode name draft) orderly is =
    given-unless AfterOp _ _ (λ e. node-fresh w (new_node n w.tables.next_id name draft) orderly refl is)
op-fresh n w (op.UpdateNode name asked labels r a) orderly is =
    given-found AfterOp kind.Node (wanted_by.Name name) (node_by w.tables name)
    (λ m. update_node w asked m (respecified_node n labels r a m))
    (λ (m : Node) e. given-unless AfterOp _ _ (λ ok. is))
op-fresh n w (op.RemoveNode name force) orderly is =
    given-found AfterOp kind.Node (wanted_by.Name name) (node_by w.tables name) (remove_node n w force)
    (λ (m : Node) e. given-unless AfterOp _ _ (λ ok. gone-fresh n w m.id is))
op-fresh n w (op.CreateService name d) orderly is = given-unless AfterOp _ _ (λ e. is)
op-fresh n w (op.UpdateService name asked d) orderly is =
    given-found AfterOp kind.Service (wanted_by.Name name) (service_by w.tables name) (update_service n w asked d)
    (λ (s : Service) e. given-unless AfterOp _ _ (λ ok. is))
op-fresh n w (op.RemoveService name) orderly is =
    given-found AfterOp kind.Service (wanted_by.Name name) (service_by w.tables name) (remove_service w)
    (λ (s : Service) e. is)
op-fresh n w (op.RollbackService name asked) orderly is =
    given-found AfterOp kind.Service (wanted_by.Name name) (service_by w.tables name)
    (rollback_service n w asked)
    (λ (s : Service) e. given-unless_some AfterOp (conflict asked s.version) _ (λ ok. back s s.previous))
  where
    back : (s : Service) (o : Option ServiceSpec) → OnGiven AfterOp (go_back n w s o)
    back s None = tt
    back s (Some spec) = is
op-fresh n w (op.CreateNetwork name base bits) orderly is = given-unless AfterOp _ _ (λ e. is)
op-fresh n w (op.RemoveNetwork name) orderly is =
    given-found AfterOp kind.Network (wanted_by.Name name) (network_by w.tables name) (remove_network w)
    (λ (m : Network) e. given-unless AfterOp _ _ (λ ok. is))
op-fresh n w (op.SetCluster settings) orderly is = given-unless AfterOp _ _ (λ e. is)

abbrev IsOpen : World → Type 0
IsOpen w = IsOrderly w × Fresh w

op-open : (n : ℕ) (w : World) (o : Op) → IsOpen w → OnGiven (λ (d : World × ℕ). IsOpen d.0) (apply_op n w o)
op-open n w o is = go (apply_op n w o) (op-moves n w o is.0) (op-fresh n w o is.0 is.1)
  where
    go : (done : Done) → OnGiven (λ (d : World × ℕ). Moves w d.0) done → OnGiven AfterOp done →
        OnGiven (λ (d : World × ℕ). IsOpen d.0) done
    go (Ok d) moves fresh = (orderly-moves w d.0 is.0 moves, fresh)
    go (Err r) moves fresh = tt

-- Calls.

abbrev AfterCall : Reply × World → Type 0
AfterCall d = Fresh d.1

txn-fresh : (n : ℕ) (w : World) (ops : List Op) → IsOpen w → OnGiven AfterCall (answer n w (call.Txn ops))
txn-fresh n w ops is =
    given-if_not AfterCall (nat_lt most_ops (length ops)) _ _
    (λ e. go (apply_ops n ops w []) (ops-keep IsOpen n (λ v o k. op-open n v o k) ops w [] is))
  where
    go : (given : Result (World × List ℕ) Refusal) → OnGiven (λ (d : World × List ℕ). IsOpen d.0) given →
        OnGiven AfterCall (txn_answer given)
    go (Ok d) holds = holds.1
    go (Err r) holds = tt

polled-fresh : (entry : ℕ) (w : World) (id : ℕ) (events : List Event) → Fresh w → Fresh (polled entry w id events).1
polled-fresh entry w id events is = go (nat_lt most_events (length events))
  where
    go : (lagged : Bool) →
        Fresh (cond {A = Reply × World} lagged
        (reply.Refused (refusal.Lagged (length events)), without_watcher id w)
        (reply.Events events, told_at entry id w)).1
    go true = is
    go false = is

poll-fresh : (entry : ℕ) (w : World) (id : ℕ) (x : Option Watcher) → Fresh w → OnGiven AfterCall (watch_poll entry w id x)
poll-fresh entry w id None is = tt
poll-fresh entry w id (Some x) is = polled-fresh entry w id (waiting_events w x) is

finish-fresh : (w : World) (id : ℕ) (x : Option Watcher) → Fresh w → OnGiven AfterCall (watch_finish w id x)
finish-fresh w id None is = tt
finish-fresh w id (Some x) is = is

view-fresh : (w : World) (v : View) → Fresh w → OnGiven AfterCall (viewed w v)
view-fresh w (Ok v) is = is
view-fresh w (Err r) is = tt

agent-fresh : (w : World) (name : List ℕ) (g : NodeAgent → NodeAgent) →
    ((a : NodeAgent) → One w.sent a → One w.sent (g a)) → Fresh w → OnGiven AfterCall (on_agent w name g)
agent-fresh w name g keeps is =
    given-found AfterCall kind.Node (wanted_by.Name name) (node_by w.tables name)
    (λ n. cond n.remote (Err (refusal.WrongKind n.id)) (Ok (reply.AgentDone n.id, change_agent n.id g w)))
    (λ (n : Node) e. given-if_not AfterCall n.remote
    (Ok (reply.AgentDone n.id, change_agent n.id g w)) (refusal.WrongKind n.id)
    (λ k. kept w.sent n.id g w.agents keeps is))

-- Remote nodes have no agents.

abbrev IsOutside : World → ℕ → Type 0
IsOutside w id = (a : NodeAgent) → Has w.agents a → eqb a.node id ≡ false

inside-of : (ks : List Node) (k : ℕ) → Has (inside_numbers ks) k →
    (n : Node) × Has ks n × (n.remote ≡ false) × (n.id ≡ k)
inside-of ns k h =
    let from = Has-map_cases node_id (filter is_inside ns) k h in
    let at = Has-filter_cases is_inside ns from.0 from.1 in
    (from.0, at.0, not-true from.0.remote at.1, from.2)

remote-outside : (w : World) (m : Node) → IsOrderly w → HasOwners w → Has w.tables.nodes m → m.remote ≡ true →
    IsOutside w m.id
remote-outside w m orderly owners h remote a k =
    false_from_ne_true (eqb a.node m.id)
    (λ same.
    let number : a.node ≡ m.id = grind (arith, nat_tests, same) in
    let own = inside-of w.tables.nodes a.node
    (subst (λ (ks : List ℕ). Has ks a.node) owners (Has-map agent_node w.agents a k)) in
    let is : own.0 ≡ m =
    between-one node_id 1 w.tables.next_id w.tables.nodes own.0 m orderly.nodes own.1 h (own.3 ∙ number) in
    never-both m.remote (ap (λ (n : Node). n.remote) (sym is) ∙ own.2) remote)

remote-fresh : (w : World) (name : List ℕ) (next : Node → Answered) →
    ((n : Node) → Has w.tables.nodes n → n.remote ≡ true → OnGiven AfterCall (next n)) →
    OnGiven AfterCall (on_remote w.tables name next)
remote-fresh w name next each =
    given-found AfterCall kind.Node (wanted_by.Name name) (node_by w.tables name)
    (λ n. cond n.remote (next n) (Err (refusal.WrongKind n.id)))
    (λ (n : Node) e. given-if AfterCall n.remote (next n)
    (refusal.WrongKind n.id) (λ k. each n (find-has (has_name node_name name) w.tables.nodes n e) k))

session-fresh : (w : World) (name : List ℕ) (session : ℕ) (next : Node → Answered) →
    ((n : Node) → Has w.tables.nodes n → n.remote ≡ true → OnGiven AfterCall (next n)) →
    OnGiven AfterCall (on_session w.tables name session next)
session-fresh w name session next each =
    remote-fresh w name
    (λ n. elim (not_admitted w.tables.clock session (session_of w.tables n.id)) [ Some r ↦ Err r | None ↦ next n ])
    (λ n h k. given-unless_some AfterCall
    (not_admitted w.tables.clock session (session_of w.tables n.id)) (next n) (λ e. each n h k))

-- what is sent to a node outside is no agent's
outside-fresh : (w : World) (sent : List NodeSent) (id : ℕ) → IsOutside w id →
    ((k : ℕ) → eqb k id ≡ false → row_at sent_node k sent ≡ row_at sent_node k w.sent) → Fresh w → All sent w.agents
outside-fresh w sent id outside same is a h =
    subst (λ (o : Option NodeSent). IsFresh o a.inbox a.applied) (sym (same a.node (outside a h))) (is a h)

pulled-fresh : (w : World) (id : ℕ) (o : Option Message) → IsOutside w id → Fresh w → Fresh (pulled w id o)
pulled-fresh w id None outside is = is
pulled-fresh w id (Some m) outside is =
    outside-fresh w (with_sent w id m).sent id outside
    (λ k away.
    let other : eqb id k ≡ false = grind (arith, nat_tests, away) in
    row_at-with_row sent_node k new w.sent
    ∙ ap (λ (b : Bool). cond b (Some new) (row_at sent_node k w.sent)) other) is
  where
    new : NodeSent
    new = record { node = id; count = m.results_in; tasks = due_set w.tables id }

call-fresh : (n : ℕ) (w : World) (c : Call) → IsOrderly w → HasOwners w → Fresh w → OnGiven AfterCall (answer n w c)
call-fresh n w (call.Txn ops) orderly owners is = txn-fresh n w ops (orderly, is)
call-fresh n w (call.View asked) orderly owners is = view-fresh w (shows w.tables asked) is
call-fresh n w (call.WatchBegin f) orderly owners is = given-unless AfterCall _ _ (λ e. is)
call-fresh n w (call.WatchPoll id) orderly owners is = poll-fresh n w id (row_at watcher_id id w.watchers) is
call-fresh n w (call.WatchFinish id) orderly owners is = finish-fresh w id (row_at watcher_id id w.watchers) is
call-fresh n w (call.Tick ms) orderly owners is = given-unless AfterCall _ _ (λ e. is)
call-fresh n w (call.Settle budget) orderly owners is = is
call-fresh n w (call.NodeFail name) orderly owners is = agent-fresh w name (failed_agent w.tables.clock) (λ a h. h) is
call-fresh n w (call.NodeStart name) orderly owners is = agent-fresh w name started_agent (λ a h. h) is
call-fresh n w (call.AgentStop name) orderly owners is = agent-fresh w name (in_mode mode_after_stop) (λ a h. h) is
call-fresh n w (call.AgentStart name) orderly owners is = agent-fresh w name (in_mode mode_after_start) (λ a h. h) is
call-fresh n w (call.RemoteBegin name cpu mem) orderly owners is =
    remote-fresh w name (λ m. begin_with n w m.id (given_or cpu m.cpu) (given_or mem m.mem))
    (λ m h k. given-unless AfterCall _ _
    (λ e.
    outside-fresh w (drop_row sent_node m.id w.sent) m.id (remote-outside w m orderly owners h k)
    (λ j away. row_at-drop_other sent_node m.id j w.sent away) is))
call-fresh n w (call.RemoteBeat name session) orderly owners is = session-fresh w name session _ (λ m h k. is)
call-fresh n w (call.RemotePull name session) orderly owners is =
    session-fresh w name session _
    (λ m h k. pulled-fresh w m.id (message_for w m.id) (remote-outside w m orderly owners h k) is)
call-fresh n w (call.RemoteStatus name session task s) orderly owners is =
    session-fresh w name session
    (λ m. found_row kind.Task (wanted_by.Id task) (row_at task_id task w.tables.tasks) (report n w m.id s))
    (λ m h k. given-found AfterCall kind.Task (wanted_by.Id task) (row_at task_id task w.tables.tasks) (report n w m.id s)
    (λ (x : Task) e. given-unless AfterCall _ _ (λ ok. is)))
call-fresh n w call.Halt orderly owners is = is

answered-fresh : (w : World) (given : Answered) → OnGiven AfterCall given → Fresh w → Fresh (answered w given).after
answered-fresh w (Ok d) fresh is = fresh
answered-fresh w (Err r) fresh is = is

step-fresh : (w : World) (e : What) → Known w → HasOwners w → may_follow w e ≡ true → Fresh w → Fresh (step w e).after
step-fresh w (what.Call c) known owners may is =
    answered-fresh w (answer (w.entries + 1) w c) (call-fresh (w.entries + 1) w c known.orderly owners is) is
step-fresh w (what.Duty d) known owners may is =
    duty-fresh (w.entries + 1) w d known.orderly (IsDuty-due w d (room_duty w d may).2) is

pub fresh-replay : (h : List Entry) → IsLegal h → AreFresh (replay h)
fresh-replay h legal =
    by-last (λ g. Fresh (replay g)) (λ a k. absurd k)
    (λ g e ok may is.
    subst Fresh (sym (replay-snoc empty_world g e))
    (step-fresh (replay g) e.what (known-replay g ok) (together-replay g ok).0 may is))
    h legal

pub always-fresh : FreshLaw
always-fresh h legal = each-prefix AreFresh fresh-replay h legal
