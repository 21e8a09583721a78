-- Under each call, and so in every legal history, what agents have and what was sent stay in step.
use Rattle.std.proofs.Common.{Bool, Err, List, None, Ok, Option, Result, Some, [], ap, arith, cond, eqb, false, length, nat_lt, refl, subst, sym, true, ℕ, ◌++◌, ◌+◌, ◌∙◌, ◌≡◌}
use Rattle.std.proofs.lemmas.Bool.Decides.{nat_tests}
use Rattle.std.specs.Prelude.{not}
use Rattle.swarm_model.proofs.Base.Answers.{OnGiven, given-found, given-if, given-if_not, given-unless, given-unless_some, ops-keep}
use Rattle.swarm_model.proofs.Base.FromLists.{IsDuty-due}
use Rattle.swarm_model.proofs.Base.Histories.{room_duty}
use Rattle.swarm_model.proofs.Moves.Worlds.{IsOrderly, Moves}
use Rattle.swarm_model.specs.Calls.Faults.{on_agent}
use Rattle.swarm_model.specs.Calls.Networks.{remove_network}
use Rattle.swarm_model.specs.Calls.Nodes.{remove_node, update_node}
use Rattle.swarm_objects.specs.NewRows.{respecified_node}
use Rattle.swarm_model.specs.Calls.Operations.{apply_op, apply_ops}
use Rattle.swarm_model.specs.Calls.Refusals.{conflict, found as found_row, network_by, node_by, service_by}
use Rattle.swarm_model.specs.Calls.Remote.{begin_with, given_or, on_remote, on_session, pulled, report}
use Rattle.swarm_objects.specs.Nodes.Admission.{not_admitted}
use Rattle.swarm_model.specs.Calls.Services.{go_back, put_service, remove_service, rollback_service, update_service}
use Rattle.swarm_objects.specs.NewRows.{respecified}
use Rattle.swarm_model.specs.Calls.Views.{View, shows}
use Rattle.swarm_model.specs.Calls.Watches.{polled, told_at, waiting_events, watch_finish, watch_poll, without_watcher}
use Rattle.swarm_model.specs.Calls.{answer, answered, txn_answer, viewed}
use Rattle.swarm_model.specs.History.{IsLegal, may_follow, replay, step}
use Rattle.swarm_model.specs.Outcome.{Answered}
use Rattle.swarm_objects.proofs.RowLemmas.{Has-filter_cases}
use Rattle.swarm_objects.specs.Agents.Messages.{message_for}
use Rattle.swarm_objects.specs.Limits.{most_events, most_ops}
use Rattle.swarm_objects.specs.Loops.Agents.{change_agent}
use Rattle.swarm_objects.specs.Nodes.Sessions.{session_of}
use Rattle.swarm_objects.specs.Rows.{Has, drop_row, row_at, task_id, watcher_id}
use Rattle.swarm_objects.specs.World.{Tables, World, empty_world}
use Rattle.swarm_objects.specs.declared.agents.NodeAgent.{NodeAgent}
use Rattle.swarm_objects.specs.declared.calls.Call.TheVariants as call
use Rattle.swarm_objects.specs.declared.calls.Call.{Call}
use Rattle.swarm_objects.specs.declared.calls.Entry.{Entry}
use Rattle.swarm_objects.specs.declared.calls.Op.TheVariants as op
use Rattle.swarm_objects.specs.declared.calls.Op.{Op}
use Rattle.swarm_objects.specs.declared.calls.What.TheVariants as what
use Rattle.swarm_objects.specs.declared.calls.What.{What}
use Rattle.swarm_objects.specs.declared.ids.Kind.TheVariants as kind
use Rattle.swarm_objects.specs.declared.messages.Message.{Message}
use Rattle.swarm_objects.specs.declared.networks.Network.{Network}
use Rattle.swarm_objects.specs.declared.nodes.Node.{Node}
use Rattle.swarm_objects.specs.declared.replies.Refusal.TheVariants as refusal
use Rattle.swarm_objects.specs.declared.replies.Refusal.{Refusal}
use Rattle.swarm_objects.specs.declared.replies.Reply.TheVariants as reply
use Rattle.swarm_objects.specs.declared.replies.Reply.{Reply}
use Rattle.swarm_objects.specs.declared.replies.Wanted.TheVariants as wanted_by
use Rattle.swarm_objects.specs.declared.services.Service.{Service}
use Rattle.swarm_objects.specs.declared.services.ServiceSpec.{ServiceSpec}
use Rattle.swarm_objects.specs.declared.tasks.Task.{Task}
use Rattle.swarm_objects.specs.declared.watches.Event.{Event}
use Rattle.swarm_objects.specs.declared.watches.Watcher.{Watcher}
use Rattle.swarm_settle.proofs.Closings.{by-last}
use Rattle.swarm_settle.proofs.Known.{Known, known-replay}
use Rattle.std.specs.Prelude.{filter, map}
use Rattle.swarm_settle.proofs.AimSteps.{aims-map, row_at-drop_other}
use Rattle.swarm_objects.proofs.Aims.{lost-aim}
use Rattle.swarm_settle.proofs.Aims.{aim_at}
use Rattle.swarm_settle.proofs.DutyOwners.{duty-agents, duty-numbers}
use Rattle.swarm_settle.proofs.InStep.{InStep, in-step-new}
use Rattle.swarm_settle.proofs.Owners.{KeepsPlace, agents-change, agents-drop, agents-push, numbers-change, numbers-drop, numbers-push, unless_remote}
use Rattle.swarm_settle.proofs.Together.{AgentInStep, AllInStep, aims-kept, all-in-moves, duty-in}
use Rattle.swarm_settle.specs.Sent.{HasOwners, inside_numbers, is_inside}
use Rattle.swarm_model.proofs.Laws.Timely.{each-pushed}
use Rattle.swarm_model.proofs.Laws.Orderly.{step-moves}
use Rattle.swarm_model.proofs.Base.Histories.{replay-snoc}
use Rattle.swarm_model.proofs.Moves.Calls.{find-has}
use Rattle.swarm_model.proofs.Moves.EachDuty.{duty-moves}
use Rattle.swarm_model.proofs.Moves.Operations.{op-moves}
use Rattle.swarm_model.proofs.Moves.Rows.{between-has, between-one}
use Rattle.swarm_model.proofs.Moves.Worlds.{TablesMove, orderly-moves}
use Rattle.swarm_objects.specs.Agents.NodeAgents.{failed_agent, lost}
use Rattle.swarm_objects.specs.Agents.NodeAgents.{new_agent}
use Rattle.swarm_objects.specs.NewRows.{new_node}
use Rattle.swarm_model.specs.Calls.Nodes.{with_agent_if, with_node, without_node}
use Rattle.swarm_model.specs.Calls.Refusals.{Done, has_name, node_name}
use Rattle.swarm_objects.specs.Nodes.Opening.{with_resources}
use Rattle.swarm_objects.proofs.RowLemmas.{Has-from_row_at, Has-map, Has-map_cases}
use Rattle.swarm_objects.proofs.Tests.{false_from_ne_true, never-both, not-true}
use Rattle.swarm_objects.proofs.RowChanges.{row_at-with_row}
use Rattle.swarm_objects.specs.Agents.Messages.{due_set, with_sent}
use Rattle.swarm_objects.specs.Rows.{agent_node, itself, node_id, sent_node}
use Rattle.swarm_objects.specs.declared.messages.NodeSent.{NodeSent}
use Rattle.swarm_objects.specs.declared.nodes.Availability.{Availability}
use Rattle.swarm_objects.specs.declared.nodes.NodeRole.{NodeRole}

-- Calls: agents and what was sent to their nodes.

abbrev TogetherIn : Tables → List NodeSent → List NodeAgent → Type 0
TogetherIn t sent agents = (map agent_node agents ≡ inside_numbers t.nodes) × AllInStep t sent agents

abbrev pub Together : World → Type 0
Together w = TogetherIn w.tables w.sent w.agents

-- agents, what was sent, and the numbers of nodes are as they were
same-in : (w : World) (t : Tables) → inside_numbers t.nodes ≡ inside_numbers w.tables.nodes → Together w →
    TablesMove w.tables t → TogetherIn t w.sent w.agents
same-in w t nodes is moves = (is.0 ∙ sym nodes, all-in-moves w.tables t w.sent w.agents moves is.1)

-- it is so of what an operation leaves
abbrev AfterOp : World → World × ℕ → Type 0
AfterOp w d = TablesMove w.tables d.0.tables → Together d.0

abbrev DoneIn : World → Done → Type 0
DoneIn w done = OnGiven (AfterOp w) done

-- nothing was sent to a number that is yet to be given
none-sent : (w : World) → IsOrderly w → row_at sent_node w.tables.next_id w.sent ≡ None
none-sent w orderly = go (row_at sent_node w.tables.next_id w.sent) refl
  where
    go : (o : Option NodeSent) → row_at sent_node w.tables.next_id w.sent ≡ o → o ≡ None
    go None at = refl
    go (Some s) at =
        let row = Has-from_row_at sent_node w.tables.next_id w.sent s at in
        let below = between-has sent_node 1 w.tables.next_id w.sent s orderly.sent row.0 in
        absurd (omega (arith, below.1, row.1))

node-in : (w : World) (n : Node) → IsOrderly w → n.id ≡ w.tables.next_id → Together w →
    TablesMove w.tables (with_node w n).tables →
    Together (with_node w n)
node-in w n orderly number is moves = (owners, go (not n.remote))
  where
    owners : HasOwners (with_node w n)
    owners =
        agents-push n w.agents ∙ ap (λ (ks : List ℕ). ks ++ unless_remote n.remote n.id []) is.0
        ∙ sym (numbers-push n w.tables.nodes)

    old : AllInStep (with_node w n).tables w.sent w.agents
    old = all-in-moves w.tables (with_node w n).tables w.sent w.agents moves is.1

    go : (b : Bool) → AllInStep (with_node w n).tables w.sent (with_agent_if b n.id w.agents)
    go true =
        each-pushed (AgentInStep (with_node w n).tables w.sent) w.agents (new_agent n.id) old
        (subst (λ (o : Option NodeSent). InStep (with_node w n).tables o None (aim_at []))
        (sym (ap (λ (k : ℕ). row_at sent_node k w.sent) number ∙ none-sent w orderly))
        (in-step-new (with_node w n).tables (aim_at []) (λ x. refl)))
    go false = old

gone-in : (n : ℕ) (w : World) (id : ℕ) → Together w → TablesMove w.tables (without_node n w id).tables →
    Together (without_node n w id)
gone-in n w id is moves = (
  agents-drop id w.agents ∙ ap (drop_row itself id) is.0 ∙ sym (numbers-drop id w.tables.nodes),
  λ a h.
      let at = Has-filter_cases (λ b. not (eqb (agent_node b) id)) w.agents a h in
      subst (λ (o : Option NodeSent). InStep (without_node n w id).tables o a.inbox (aim_at a.executors))
      (sym (row_at-drop_other sent_node id a.node w.sent (not-true (eqb a.node id) at.1)))
      (all-in-moves w.tables (without_node n w id).tables w.sent w.agents moves is.1 a at.0),
)

keeps-place : (n : ℕ) (labels : List (List ℕ × List ℕ)) (r : NodeRole) (a : Availability) (old m : Node) → old ≡ m →
    KeepsPlace m (respecified_node n labels r a old)
keeps-place n labels r a old m same = (ap (λ (k : Node). k.id) same, ap (λ (k : Node). k.remote) same)

op-in : (n : ℕ) (w : World) (o : Op) → IsOrderly w → Together w → DoneIn w (apply_op n w o)
op-in n w (op.CreateNode name draft) orderly is =
    given-unless (AfterOp w) _ _
    (λ e. node-in w (new_node n w.tables.next_id name draft) orderly refl is)
op-in n w (op.UpdateNode name asked labels r a) orderly is =
    given-found (AfterOp w) kind.Node (wanted_by.Name name) (node_by w.tables name)
    (λ m. update_node w asked m (respecified_node n labels r a m))
    (λ (m : Node) e. given-unless (AfterOp w) _ _
    (λ ok.
    same-in w _
    (numbers-change m.id (λ k. respecified_node n labels r a m) w.tables.nodes
    (λ k j same.
    keeps-place n labels r a m k
    (between-one node_id 1 w.tables.next_id w.tables.nodes m k orderly.nodes
    (find-has (has_name node_name name) w.tables.nodes m e) j (sym same)))) is))
op-in n w (op.RemoveNode name force) orderly is =
    given-found (AfterOp w) kind.Node (wanted_by.Name name) (node_by w.tables name)
    (remove_node n w force)
    (λ (m : Node) e. given-unless (AfterOp w) _ _ (λ ok. gone-in n w m.id is))
op-in n w (op.CreateService name d) orderly is =
    given-unless (AfterOp w) _ _ (λ e. same-in w _ refl is)
op-in n w (op.UpdateService name asked d) orderly is =
    given-found (AfterOp w) kind.Service (wanted_by.Name name)
    (service_by w.tables name) (update_service n w asked d)
    (λ (s : Service) e. given-unless (AfterOp w) _ _
    (λ ok. same-in w _ refl is))
op-in n w (op.RemoveService name) orderly is =
    given-found (AfterOp w) kind.Service (wanted_by.Name name)
    (service_by w.tables name) (remove_service w) (λ (s : Service) e. same-in w _ refl is)
op-in n w (op.RollbackService name asked) orderly is =
    given-found (AfterOp w) kind.Service (wanted_by.Name name)
    (service_by w.tables name) (rollback_service n w asked)
    (λ (s : Service) e. given-unless_some (AfterOp w) (conflict asked s.version) _
    (λ ok. back s s.previous))
  where
    back : (s : Service) (o : Option ServiceSpec) →
        OnGiven (AfterOp w) (go_back n w s o)
    back s None = tt
    back s (Some spec) = same-in w (put_service w (respecified n true spec s)).tables refl is
op-in n w (op.CreateNetwork name base bits) orderly is =
    given-unless (AfterOp w) _ _ (λ e. same-in w _ refl is)
op-in n w (op.RemoveNetwork name) orderly is =
    given-found (AfterOp w) kind.Network (wanted_by.Name name)
    (network_by w.tables name) (remove_network w)
    (λ (m : Network) e. given-unless (AfterOp w) _ _
    (λ ok. same-in w _ refl is))
op-in n w (op.SetCluster settings) orderly is =
    given-unless (AfterOp w) _ _ (λ e. same-in w _ refl is)

abbrev IsOpen : World → Type 0
IsOpen w = IsOrderly w × Together w

op-open : (n : ℕ) (w : World) (o : Op) → IsOpen w → OnGiven (λ (d : World × ℕ). IsOpen d.0) (apply_op n w o)
op-open n w o is = go (apply_op n w o) (op-moves n w o is.0) (op-in n w o is.0 is.1)
  where
    go : (done : Done) → OnGiven (λ (d : World × ℕ). Moves w d.0) done → DoneIn w done →
        OnGiven (λ (d : World × ℕ). IsOpen d.0) done
    go (Ok d) moves in_step = (orderly-moves w d.0 is.0 moves, in_step moves.tables)
    go (Err r) moves in_step = tt

-- Calls.

abbrev AfterCall : World → Reply × World → Type 0
AfterCall w d = TablesMove w.tables d.1.tables → Together d.1

abbrev CallIn : World → Answered → Type 0
CallIn w given = OnGiven (AfterCall w) given

txn-in : (n : ℕ) (w : World) (ops : List Op) → IsOpen w → CallIn w (answer n w (call.Txn ops))
txn-in n w ops is =
    given-if_not (AfterCall w) (nat_lt most_ops (length ops)) _ _
    (λ e. go (apply_ops n ops w []) (ops-keep IsOpen n (λ v o k. op-open n v o k) ops w [] is))
  where
    go : (given : Result (World × List ℕ) Refusal) → OnGiven (λ (d : World × List ℕ). IsOpen d.0) given →
        CallIn w (txn_answer given)
    go (Ok d) holds = λ moves. holds.1
    go (Err r) holds = tt

still-in : (w : World) (t : Tables) → t.nodes ≡ w.tables.nodes → Together w → TablesMove w.tables t →
    TogetherIn t w.sent w.agents
still-in w t nodes is moves = same-in w t (ap inside_numbers nodes) is moves

polled-in : (entry : ℕ) (w : World) (id : ℕ) (events : List Event) → Together w →
    TablesMove w.tables (polled entry w id events).1.tables → Together (polled entry w id events).1
polled-in entry w id events is = go (nat_lt most_events (length events))
  where
    go : (lagged : Bool) →
        TablesMove w.tables (cond {A = Reply × World} lagged
        (reply.Refused (refusal.Lagged (length events)), without_watcher id w)
        (reply.Events events, told_at entry id w)).1.tables →
        Together (cond {A = Reply × World} lagged
        (reply.Refused (refusal.Lagged (length events)), without_watcher id w)
        (reply.Events events, told_at entry id w)).1
    go true moves = is
    go false moves = is

poll-in : (entry : ℕ) (w : World) (id : ℕ) (x : Option Watcher) → Together w → CallIn w (watch_poll entry w id x)
poll-in entry w id None is = tt
poll-in entry w id (Some x) is = polled-in entry w id (waiting_events w x) is

finish-in : (w : World) (id : ℕ) (x : Option Watcher) → Together w → CallIn w (watch_finish w id x)
finish-in w id None is = tt
finish-in w id (Some x) is = λ moves. is

view-in : (w : World) (v : View) → Together w → CallIn w (viewed w v)
view-in w (Ok v) is = λ moves. is
view-in w (Err r) is = tt

agent-in : (w : World) (name : List ℕ) (g : NodeAgent → NodeAgent) → ((a : NodeAgent) → (g a).node ≡ a.node) →
    ((a : NodeAgent) → (g a).inbox ≡ a.inbox) →
    ((a : NodeAgent) (x : ℕ) → aim_at (g a).executors x ≡ aim_at a.executors x) → Together w →
    CallIn w (on_agent w name g)
agent-in w name g nodes inboxes aims is =
    given-found (AfterCall w) kind.Node (wanted_by.Name name)
    (node_by w.tables name)
    (λ n. cond n.remote (Err (refusal.WrongKind n.id)) (Ok (reply.AgentDone n.id, change_agent n.id g w)))
    (λ (n : Node) e. given-if_not (AfterCall w) n.remote
    (Ok (reply.AgentDone n.id, change_agent n.id g w)) (refusal.WrongKind n.id)
    (λ k moves. (
      agents-change n.id g w.agents nodes ∙ is.0,
      aims-kept w.tables w.sent n.id g w.agents nodes inboxes aims is.1,
    )))

-- Remote nodes have no agents.

abbrev IsOutside : World → ℕ → Type 0
IsOutside w id = (a : NodeAgent) → Has w.agents a → eqb a.node id ≡ false

inside-of : (ks : List Node) (k : ℕ) → Has (inside_numbers ks) k →
    (n : Node) × Has ks n × (n.remote ≡ false) × (n.id ≡ k)
inside-of ns k h =
    let from = Has-map_cases node_id (filter is_inside ns) k h in
    let at = Has-filter_cases is_inside ns from.0 from.1 in
    (from.0, at.0, not-true from.0.remote at.1, from.2)

remote-outside : (w : World) (m : Node) → IsOrderly w → HasOwners w → Has w.tables.nodes m → m.remote ≡ true →
    IsOutside w m.id
remote-outside w m orderly owners h remote a k =
    false_from_ne_true (eqb a.node m.id)
    (λ same.
    let number : a.node ≡ m.id = grind (arith, nat_tests, same) in
    let own = inside-of w.tables.nodes a.node
    (subst (λ (ks : List ℕ). Has ks a.node) owners (Has-map agent_node w.agents a k)) in
    let is : own.0 ≡ m =
    between-one node_id 1 w.tables.next_id w.tables.nodes own.0 m orderly.nodes own.1 h (own.3 ∙ number) in
    never-both m.remote (ap (λ (n : Node). n.remote) (sym is) ∙ own.2) remote)

remote-in : (w : World) (name : List ℕ) (next : Node → Answered) →
    ((n : Node) → Has w.tables.nodes n → n.remote ≡ true → CallIn w (next n)) → CallIn w (on_remote w.tables name next)
remote-in w name next each =
    given-found (AfterCall w) kind.Node (wanted_by.Name name)
    (node_by w.tables name)
    (λ n. cond n.remote (next n) (Err (refusal.WrongKind n.id)))
    (λ (n : Node) e. given-if (AfterCall w) n.remote (next n)
    (refusal.WrongKind n.id) (λ k. each n (find-has (has_name node_name name) w.tables.nodes n e) k))

session-in : (w : World) (name : List ℕ) (session : ℕ) (next : Node → Answered) →
    ((n : Node) → Has w.tables.nodes n → n.remote ≡ true → CallIn w (next n)) →
    CallIn w (on_session w.tables name session next)
session-in w name session next each =
    remote-in w name
    (λ n. elim (not_admitted w.tables.clock session (session_of w.tables n.id)) [ Some r ↦ Err r | None ↦ next n ])
    (λ n h k. given-unless_some (AfterCall w)
    (not_admitted w.tables.clock session (session_of w.tables n.id)) (next n) (λ e. each n h k))

-- what is sent to a node outside is no agent's
outside-in : (w : World) (t : Tables) (sent : List NodeSent) (id : ℕ) → IsOutside w id →
    ((k : ℕ) → eqb k id ≡ false → row_at sent_node k sent ≡ row_at sent_node k w.sent) →
    inside_numbers t.nodes ≡ inside_numbers w.tables.nodes → Together w → TablesMove w.tables t →
    TogetherIn t sent w.agents
outside-in w t sent id outside same nodes is moves = (
  is.0 ∙ sym nodes,
  λ a h.
      subst (λ (o : Option NodeSent). InStep t o a.inbox (aim_at a.executors)) (sym (same a.node (outside a h)))
      (all-in-moves w.tables t w.sent w.agents moves is.1 a h),
)

pulled-in : (w : World) (id : ℕ) (o : Option Message) → IsOutside w id → Together w →
    TablesMove w.tables (pulled w id o).tables →
    Together (pulled w id o)
pulled-in w id None outside is = λ moves. is
pulled-in w id (Some m) outside is =
    outside-in w w.tables (with_sent w id m).sent id outside
    (λ k away.
    let other : eqb id k ≡ false = grind (arith, nat_tests, away) in
    row_at-with_row sent_node k new w.sent
    ∙ ap (λ (b : Bool). cond b (Some new) (row_at sent_node k w.sent)) other) refl is
  where
    new : NodeSent
    new = record { node = id; count = m.results_in; tasks = due_set w.tables id }

pub call-in : (n : ℕ) (w : World) (c : Call) → IsOrderly w → Together w → CallIn w (answer n w c)
call-in n w (call.Txn ops) orderly is = txn-in n w ops (orderly, is)
call-in n w (call.View asked) orderly is = view-in w (shows w.tables asked) is
call-in n w (call.WatchBegin f) orderly is =
    given-unless (AfterCall w) _ _ (λ e. still-in w _ refl is)
call-in n w (call.WatchPoll id) orderly is = poll-in n w id (row_at watcher_id id w.watchers) is
call-in n w (call.WatchFinish id) orderly is = finish-in w id (row_at watcher_id id w.watchers) is
call-in n w (call.Tick ms) orderly is =
    given-unless (AfterCall w) _ _ (λ e. still-in w _ refl is)
call-in n w (call.Settle budget) orderly is = still-in w _ refl is
call-in n w (call.NodeFail name) orderly is =
    agent-in w name (failed_agent w.tables.clock) (λ a. refl) (λ a. refl)
    (λ a x. aims-map (lost w.tables.clock) a.executors x (lost-aim w.tables.clock)) is
call-in n w (call.NodeStart name) orderly is = agent-in w name _ (λ a. refl) (λ a. refl) (λ a x. refl) is
call-in n w (call.AgentStop name) orderly is = agent-in w name _ (λ a. refl) (λ a. refl) (λ a x. refl) is
call-in n w (call.AgentStart name) orderly is = agent-in w name _ (λ a. refl) (λ a. refl) (λ a x. refl) is
call-in n w (call.RemoteBegin name cpu mem) orderly is =
    remote-in w name (λ m. begin_with n w m.id (given_or cpu m.cpu) (given_or mem m.mem))
    (λ m h k. given-unless (AfterCall w) _ _
    (λ e.
    outside-in w _ (drop_row sent_node m.id w.sent) m.id (remote-outside w m orderly is.0 h k)
    (λ j away. row_at-drop_other sent_node m.id j w.sent away)
    (numbers-change m.id (with_resources n (given_or cpu m.cpu) (given_or mem m.mem)) w.tables.nodes
    (λ j i same. (refl, refl))) is))
call-in n w (call.RemoteBeat name session) orderly is =
    session-in w name session _ (λ m h k. still-in w _ refl is)
call-in n w (call.RemotePull name session) orderly is =
    session-in w name session _
    (λ m h k. pulled-in w m.id (message_for w m.id) (remote-outside w m orderly is.0 h k) is)
call-in n w (call.RemoteStatus name session task s) orderly is =
    session-in w name session
    (λ m. found_row kind.Task (wanted_by.Id task) (row_at task_id task w.tables.tasks) (report n w m.id s))
    (λ m h k. given-found (AfterCall w) kind.Task (wanted_by.Id task)
    (row_at task_id task w.tables.tasks) (report n w m.id s)
    (λ (x : Task) e. given-unless (AfterCall w) _ _
    (λ ok. still-in w _ refl is)))
call-in n w call.Halt orderly is = still-in w _ refl is

answered-in : (w : World) (given : Answered) → TablesMove w.tables (answered w given).after.tables →
    CallIn w given → Together w →
    Together (answered w given).after
answered-in w (Ok d) moves in_step is = in_step moves
answered-in w (Err r) moves in_step is = is

step-in : (w : World) (e : What) → Known w → may_follow w e ≡ true → Together w → Together (step w e).after
step-in w (what.Call c) known may is =
    answered-in w (answer (w.entries + 1) w c) (step-moves w (what.Call c) known.orderly may).tables
    (call-in (w.entries + 1) w c known.orderly is) is
step-in w (what.Duty d) known may is =
    let of = IsDuty-due w d (room_duty w d may).2 in (
      duty-agents (w.entries + 1) w d ∙ is.0 ∙ sym (duty-numbers (w.entries + 1) w d),
      duty-in (w.entries + 1) w d known.orderly known.gives of
          (duty-moves (w.entries + 1) w d known.orderly of) is.1,
    )

pub together-replay : (h : List Entry) → IsLegal h → Together (replay h)
together-replay h legal =
    by-last (λ g. Together (replay g)) (refl, λ a k. absurd k)
    (λ g e ok may is.
    subst Together (sym (replay-snoc empty_world g e)) (step-in (replay g) e.what (known-replay g ok) may is))
    h legal
