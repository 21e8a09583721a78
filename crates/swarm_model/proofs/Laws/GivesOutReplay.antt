-- In every world of a legal history what nodes were sent, and their executors, are of their tasks; all stands in order.
use Rattle.std.proofs.Common.{Bool, Err, List, None, Ok, Option, Result, Some, [], arith, cond, false, inl, inr, length, nat_lt, refl, subst, true, ℕ, ◌+◌, ◌∷◌, ◌≡◌, ◌⊎◌}
use Rattle.std.specs.Prelude.{not, ◌==◌}
use Rattle.swarm_model.proofs.Base.Answers.{OnDone, OnGiven, given-found, given-if, given-if_not, given-unless, given-unless_some, ops-keep}
use Rattle.swarm_model.proofs.Base.FromLists.{IsDuty-due}
use Rattle.swarm_model.proofs.Base.Histories.{replay-keeps, room_duty}
use Rattle.swarm_model.proofs.Base.IsDuty.{IsDuty}
use Rattle.swarm_model.proofs.Laws.GivesOut.{AreGivenAgents, GivesOut, IsGivenAgent, agents-change, agents-given, duty-gives, gives-still, lost-task, mapped, sent-given, with-sent-given, without-sent-given}
use Rattle.swarm_model.proofs.Laws.Orderly.{orderly-empty, orderly-step}
use Rattle.swarm_model.proofs.Base.Pairs.{all-has}
use Rattle.swarm_model.proofs.Laws.Sound.{rises-between, sound, watchers-rise}
use Rattle.swarm_model.proofs.Moves.Calls.{call-answers}
use Rattle.swarm_model.proofs.Moves.Operations.{op-moves}
use Rattle.swarm_model.proofs.Moves.Worlds.{IsOrderly, Moves, orderly-moves}
use Rattle.swarm_objects.specs.Agents.NodeAgents.{failed_agent, lost}
use Rattle.swarm_model.specs.Calls.Faults.{on_agent}
use Rattle.swarm_model.specs.Calls.Networks.{remove_network}
use Rattle.swarm_objects.specs.Agents.NodeAgents.{new_agent}
use Rattle.swarm_objects.specs.NewRows.{new_node, respecified_node}
use Rattle.swarm_model.specs.Calls.Nodes.{remove_node, tables_without_node, update_node, with_agent_if, with_node, without_node}
use Rattle.swarm_model.specs.Calls.Operations.{apply_op, apply_ops}
use Rattle.swarm_model.specs.Calls.Refusals.{conflict, found, network_by, node_by, service_by}
use Rattle.swarm_model.specs.Calls.Remote.{begin_with, begun_tables, given_or, on_remote, on_session, pulled, remote_begin, remote_status, report}
use Rattle.swarm_objects.specs.Nodes.Admission.{not_admitted}
use Rattle.swarm_model.specs.Calls.Services.{go_back, remove_service, rollback_service, update_service}
use Rattle.swarm_model.specs.Calls.Views.{View, shows}
use Rattle.swarm_model.specs.Calls.Watches.{polled, told_at, waiting_events, watch_finish, watch_poll, without_watcher}
use Rattle.swarm_model.specs.Calls.{answer, answered, call_outcome, txn_answer, viewed}
use Rattle.swarm_model.specs.History.{IsLegal, effect, may_follow, replay, step}
use Rattle.swarm_model.specs.Outcome.{Answered}
use Rattle.swarm_objects.proofs.RowLemmas.{Has-append_cases, Has-filter_cases}
use Rattle.swarm_objects.specs.Agents.Messages.{message_for}
use Rattle.swarm_objects.specs.Limits.{most_events, most_ops}
use Rattle.swarm_objects.specs.Loops.Agents.{change_agent}
use Rattle.swarm_objects.specs.Nodes.Sessions.{session_of}
use Rattle.swarm_objects.specs.Rows.{Has, RisesFrom, agent_node, executor_task, row_at, sent_node, task_id, watcher_id}
use Rattle.swarm_objects.specs.Sound.{IsOrderedBeside, IsSound}
use Rattle.swarm_objects.specs.World.{Tables, World, empty_world}
use Rattle.swarm_objects.specs.declared.agents.AgentMode.{AgentMode}
use Rattle.swarm_objects.specs.declared.agents.NodeAgent.{NodeAgent}
use Rattle.swarm_objects.specs.declared.calls.Call.TheVariants as call
use Rattle.swarm_objects.specs.declared.calls.Call.{Call}
use Rattle.swarm_objects.specs.declared.calls.Entry.{Entry}
use Rattle.swarm_objects.specs.declared.calls.Op.TheVariants as op
use Rattle.swarm_objects.specs.declared.calls.Op.{Op}
use Rattle.swarm_objects.specs.declared.calls.What.TheVariants as what
use Rattle.swarm_objects.specs.declared.calls.What.{What}
use Rattle.swarm_objects.specs.declared.duties.Duty.{Duty}
use Rattle.swarm_objects.specs.declared.ids.Kind.TheVariants as kind
use Rattle.swarm_objects.specs.declared.messages.Message.{Message}
use Rattle.swarm_objects.specs.declared.networks.Network.{Network}
use Rattle.swarm_objects.specs.declared.nodes.Node.{Node}
use Rattle.swarm_objects.specs.declared.replies.Refusal.TheVariants as refusal
use Rattle.swarm_objects.specs.declared.replies.Refusal.{Refusal}
use Rattle.swarm_objects.specs.declared.replies.Reply.TheVariants as reply
use Rattle.swarm_objects.specs.declared.replies.Reply.{Reply}
use Rattle.swarm_objects.specs.declared.replies.Wanted.TheVariants as wanted_by
use Rattle.swarm_objects.specs.declared.services.Service.{Service}
use Rattle.swarm_objects.specs.declared.services.ServiceSpec.{ServiceSpec}
use Rattle.swarm_objects.specs.declared.tasks.Task.{Task}
use Rattle.swarm_objects.specs.declared.tasks.TaskState.{TaskState}
use Rattle.swarm_objects.specs.declared.watches.Event.{Event}
use Rattle.swarm_objects.specs.declared.watches.Watcher.{Watcher}

-- what a move keeps
abbrev Keeps : World → World → Type 0
Keeps w v = Moves w v → GivesOut w → GivesOut v

still : (w v : World) → v.sent ≡ w.sent → v.agents ≡ w.agents → Keeps w v
still w v sent agents m g = gives-still w v m.tables sent agents g

pub both-hold : {X : Type 0} (P Q R : X → Type 0) (given : Result X Refusal) → ((x : X) → P x → Q x → R x) →
    OnGiven P given →
    OnGiven Q given → OnGiven R given
both-hold P Q R (Ok x) join p q = join x p q
both-hold P Q R (Err r) join p q = tt

-- Operations.

agent-new : (b : Bool) (t : Tables) (node : ℕ) (agents : List NodeAgent) → AreGivenAgents t agents →
    AreGivenAgents t (with_agent_if b node agents)
agent-new false t node agents g = g
agent-new true t node agents g = λ a h. go a (Has-append_cases agents (new_agent node ∷ []) a h)
  where
    go : (a : NodeAgent) → Has agents a ⊎ Has (new_agent node ∷ []) a → IsGivenAgent t a
    go a (inl k) = g a k
    go a (inr (inl e)) =
        subst (IsGivenAgent t) e (record { executors = record { rises = tt; given = λ x j. absurd j }; inbox = tt })
    go a (inr (inr k)) = absurd k

node-gives : (w : World) (n : Node) → Keeps w (with_node w n)
node-gives w n m g = record {
  sent = sent-given w.tables (with_node w n).tables w.sent m.tables g.sent;
  agents =
      agent-new (not n.remote) (with_node w n).tables n.id w.agents
      (agents-given w.tables (with_node w n).tables w.agents m.tables g.agents);
}

gone-gives : (version : ℕ) (w : World) (id : ℕ) → Keeps w (without_node version w id)
gone-gives version w id m g =
    let t = tables_without_node version w.tables id in
    record {
      sent = without-sent-given t id w.sent (sent-given w.tables t w.sent m.tables g.sent);
      agents = λ a h.
          agents-given w.tables t w.agents m.tables g.agents a
          (Has-filter_cases (λ x. not (agent_node x == id)) w.agents a h).0;
    }

back-keeps : (version : ℕ) (w : World) (s : Service) (spec : Option ServiceSpec) → OnDone (Keeps w)
    (go_back version w s spec)
back-keeps version w s None = tt
back-keeps version w s (Some spec) = still w _ refl refl

op-keeps : (version : ℕ) (w : World) (o : Op) → OnDone (Keeps w) (apply_op version w o)
op-keeps version w (op.CreateNode name draft) =
    given-unless (λ (d : World × ℕ). Keeps w d.0) _ _ (λ e. node-gives w (new_node version w.tables.next_id name draft))
op-keeps version w (op.UpdateNode name asked labels r a) =
    given-found (λ (d : World × ℕ). Keeps w d.0) kind.Node (wanted_by.Name name) (node_by w.tables name)
    (λ n. update_node w asked n (respecified_node version labels r a n))
    (λ (n : Node) e. given-unless (λ (d : World × ℕ). Keeps w d.0) _ _ (λ ok. still w _ refl refl))
op-keeps version w (op.RemoveNode name force) =
    given-found (λ (d : World × ℕ). Keeps w d.0) kind.Node (wanted_by.Name name) (node_by w.tables name)
    (remove_node version w force)
    (λ (n : Node) e. given-unless (λ (d : World × ℕ). Keeps w d.0) _ _ (λ ok. gone-gives version w n.id))
op-keeps version w (op.CreateService name d) =
    given-unless (λ (d : World × ℕ). Keeps w d.0) _ _ (λ e. still w _ refl refl)
op-keeps version w (op.UpdateService name asked d) =
    given-found (λ (d : World × ℕ). Keeps w d.0) kind.Service (wanted_by.Name name) (service_by w.tables name)
    (update_service version w asked d)
    (λ (s : Service) e. given-unless (λ (d : World × ℕ). Keeps w d.0) _ _ (λ ok. still w _ refl refl))
op-keeps version w (op.RemoveService name) =
    given-found (λ (d : World × ℕ). Keeps w d.0) kind.Service (wanted_by.Name name) (service_by w.tables name)
    (remove_service w) (λ (s : Service) e. still w _ refl refl)
op-keeps version w (op.RollbackService name asked) =
    given-found (λ (d : World × ℕ). Keeps w d.0) kind.Service (wanted_by.Name name) (service_by w.tables name)
    (rollback_service version w asked)
    (λ (s : Service) e. given-unless_some (λ (d : World × ℕ). Keeps w d.0) (conflict asked s.version) _
    (λ ok. back-keeps version w s s.previous))
op-keeps version w (op.CreateNetwork name base bits) =
    given-unless (λ (d : World × ℕ). Keeps w d.0) _ _ (λ e. still w _ refl refl)
op-keeps version w (op.RemoveNetwork name) =
    given-found (λ (d : World × ℕ). Keeps w d.0) kind.Network (wanted_by.Name name) (network_by w.tables name)
    (remove_network w)
    (λ (n : Network) e. given-unless (λ (d : World × ℕ). Keeps w d.0) _ _ (λ ok. still w _ refl refl))
op-keeps version w (op.SetCluster settings) =
    given-unless (λ (d : World × ℕ). Keeps w d.0) _ _ (λ e. still w _ refl refl)

abbrev IsWhole : World → Type 0
IsWhole w = IsOrderly w × GivesOut w

op-whole : (version : ℕ) (w : World) (o : Op) → IsWhole w → OnDone IsWhole (apply_op version w o)
op-whole version w o is =
    both-hold (λ (d : World × ℕ). Moves w d.0) (λ (d : World × ℕ). Keeps w d.0) (λ (d : World × ℕ). IsWhole d.0)
    (apply_op version w o) (λ d m k. (orderly-moves w d.0 is.0 m, k m is.1)) (op-moves version w o is.0)
    (op-keeps version w o)

ops-whole : (version : ℕ) (w : World) (ops : List Op) → IsWhole w →
    OnGiven (λ (d : World × List ℕ). IsWhole d.0) (apply_ops version ops w [])
ops-whole version w ops is = ops-keep IsWhole version (λ v o v_is. op-whole version v o v_is) ops w [] is

-- Calls.

abbrev Answers : World → Answered → Type 0
Answers w given = OnGiven (λ (d : Reply × World). Keeps w d.1) given

txn-keeps : (w : World) (r : Result (World × List ℕ) Refusal) → OnGiven (λ (d : World × List ℕ). IsWhole d.0) r →
    Answers w (txn_answer r)
txn-keeps w (Ok done) whole = λ m g. whole.1
txn-keeps w (Err r) whole = tt

view-keeps : (w : World) (v : View) → Answers w (viewed w v)
view-keeps w (Ok v) = still w w refl refl
view-keeps w (Err r) = tt

polled-keeps : (entry : ℕ) (w : World) (id : ℕ) (events : List Event) → Keeps w (polled entry w id events).1
polled-keeps entry w id events = go (nat_lt most_events (length events))
  where
    go : (lagged : Bool) → Keeps w (cond {A = Reply × World} lagged
        (reply.Refused (refusal.Lagged (length events)), without_watcher id w)
        (reply.Events events, told_at entry id w)).1
    go true = still w _ refl refl
    go false = still w _ refl refl

poll-keeps : (entry : ℕ) (w : World) (id : ℕ) (x : Option Watcher) → Answers w (watch_poll entry w id x)
poll-keeps entry w id None = tt
poll-keeps entry w id (Some x) = polled-keeps entry w id (waiting_events w x)

finish-keeps : (w : World) (id : ℕ) (x : Option Watcher) → Answers w (watch_finish w id x)
finish-keeps w id None = tt
finish-keeps w id (Some x) = still w _ refl refl

agent-keeps : (w : World) (name : List ℕ) (f : NodeAgent → NodeAgent) →
    ((a : NodeAgent) → IsGivenAgent w.tables a → IsGivenAgent w.tables (f a)) → Answers w (on_agent w name f)
agent-keeps w name f each =
    given-found (λ (d : Reply × World). Keeps w d.1) kind.Node (wanted_by.Name name) (node_by w.tables name)
    (λ n. cond n.remote (Err (refusal.WrongKind n.id)) (Ok (reply.AgentDone n.id, change_agent n.id f w)))
    (λ (n : Node) e. given-if_not (λ (d : Reply × World). Keeps w d.1) n.remote
    (Ok (reply.AgentDone n.id, change_agent n.id f w)) (refusal.WrongKind n.id)
    (λ k m g. record {
      sent = g.sent;
      agents = agents-change w.tables n.id f w.agents
          (λ a on is. each a is) g.agents;
    }))

failed-given : (t : Tables) (clock : ℕ) (a : NodeAgent) → IsGivenAgent t a → IsGivenAgent t (failed_agent clock a)
failed-given t clock a g = record {
  executors = mapped t a.node (lost clock) a.executors
      (lost-task clock) g.executors;
  inbox = g.inbox;
}

mode-given : (t : Tables) (a : NodeAgent) (mode : AgentMode) → IsGivenAgent t a → IsGivenAgent t
    (record a { mode = mode })
mode-given t a mode g = record { executors = g.executors; inbox = g.inbox }

remote-keeps : (w : World) (name : List ℕ) (next : Node → Answered) → ((n : Node) → Answers w (next n)) →
    Answers w (on_remote w.tables name next)
remote-keeps w name next each =
    given-found (λ (d : Reply × World). Keeps w d.1) kind.Node (wanted_by.Name name) (node_by w.tables name)
    (λ n. cond n.remote (next n) (Err (refusal.WrongKind n.id)))
    (λ (n : Node) e. given-if (λ (d : Reply × World). Keeps w d.1) n.remote (next n) (refusal.WrongKind n.id)
    (λ k. each n))

session-keeps : (w : World) (name : List ℕ) (session : ℕ) (next : Node → Answered) → ((n : Node) → Answers w (next n)) →
    Answers w (on_session w.tables name session next)
session-keeps w name session next each =
    remote-keeps w name
    (λ n. elim (not_admitted w.tables.clock session (session_of w.tables n.id)) [ Some r ↦ Err r | None ↦ next n ])
    (λ n. given-unless_some (λ (d : Reply × World). Keeps w d.1)
    (not_admitted w.tables.clock session (session_of w.tables n.id)) (next n) (λ e. each n))

begin-keeps : (version : ℕ) (w : World) (name : List ℕ) (cpu mem : Option ℕ) → Answers w
    (remote_begin version w name cpu mem)
begin-keeps version w name cpu mem =
    remote-keeps w name (λ n. begin_with version w n.id (given_or cpu n.cpu) (given_or mem n.mem))
    (λ n. given-unless (λ (d : Reply × World). Keeps w d.1) _ _
    (λ e m g.
    let t = begun_tables version w.tables n.id (given_or cpu n.cpu) (given_or mem n.mem) in
    record {
      sent = without-sent-given t n.id w.sent (sent-given w.tables t w.sent m.tables g.sent);
      agents = agents-given w.tables t w.agents m.tables g.agents;
    }))

pulled-keeps : (w : World) (node : ℕ) (m : Option Message) → IsOrderly w → Keeps w (pulled w node m)
pulled-keeps w node None is = still w w refl refl
pulled-keeps w node (Some m) is = λ moves g. record { sent = with-sent-given w node m is g.sent; agents = g.agents }

status-keeps : (version : ℕ) (w : World) (name : List ℕ) (session task : ℕ) (s : TaskState) →
    Answers w (remote_status version w name session task s)
status-keeps version w name session task s =
    session-keeps w name session
    (λ n. found kind.Task (wanted_by.Id task) (row_at task_id task w.tables.tasks) (report version w n.id s))
    (λ n. given-found (λ (d : Reply × World). Keeps w d.1) kind.Task (wanted_by.Id task)
    (row_at task_id task w.tables.tasks) (report version w n.id s)
    (λ (x : Task) e. given-unless (λ (d : Reply × World). Keeps w d.1) _ _ (λ ok. still w _ refl refl)))

call-keeps : (version : ℕ) (w : World) (c : Call) → IsWhole w → Answers w (answer version w c)
call-keeps version w (call.Txn ops) is =
    given-if_not (λ (d : Reply × World). Keeps w d.1) (nat_lt most_ops (length ops)) _ _
    (λ e. txn-keeps w _ (ops-whole version w ops is))
call-keeps version w (call.View asked) is = view-keeps w (shows w.tables asked)
call-keeps version w (call.WatchBegin f) is =
    given-unless (λ (d : Reply × World). Keeps w d.1) _ _ (λ e. still w _ refl refl)
call-keeps version w (call.WatchPoll id) is = poll-keeps version w id (row_at watcher_id id w.watchers)
call-keeps version w (call.WatchFinish id) is = finish-keeps w id (row_at watcher_id id w.watchers)
call-keeps version w (call.Tick ms) is =
    given-unless (λ (d : Reply × World). Keeps w d.1) _ _ (λ e. still w _ refl refl)
call-keeps version w (call.Settle budget) is = still w w refl refl
call-keeps version w (call.NodeFail name) is =
    agent-keeps w name (failed_agent w.tables.clock) (λ a g. failed-given w.tables w.tables.clock a g)
call-keeps version w (call.NodeStart name) is = agent-keeps w name _ (λ a g. mode-given w.tables a _ g)
call-keeps version w (call.AgentStop name) is = agent-keeps w name _ (λ a g. mode-given w.tables a _ g)
call-keeps version w (call.AgentStart name) is = agent-keeps w name _ (λ a g. mode-given w.tables a _ g)
call-keeps version w (call.RemoteBegin name cpu mem) is = begin-keeps version w name cpu mem
call-keeps version w (call.RemoteBeat name session) is = session-keeps w name session _ (λ n. still w _ refl refl)
call-keeps version w (call.RemotePull name session) is =
    session-keeps w name session _ (λ n. pulled-keeps w n.id (message_for w n.id) is.0)
call-keeps version w (call.RemoteStatus name session task s) is = status-keeps version w name session task s
call-keeps version w call.Halt is = still w _ refl refl

answered-gives : (w : World) (given : Answered) → OnGiven (λ (d : Reply × World). GivesOut d.1) given → GivesOut w →
    GivesOut (answered w given).after
answered-gives w (Ok done) gives g = record { sent = gives.sent; agents = gives.agents }
answered-gives w (Err r) gives g = record { sent = g.sent; agents = g.agents }

call-gives : (w : World) (c : Call) → IsWhole w → GivesOut (call_outcome w c).after
call-gives w c is =
    let version = w.entries + 1 in
    answered-gives w (answer version w c)
    (both-hold (λ (d : Reply × World). Moves w d.1) (λ (d : Reply × World). Keeps w d.1)
    (λ (d : Reply × World). GivesOut d.1)
    (answer version w c) (λ d m k. k m is.1) (call-answers version w c is.0) (call-keeps version w c is)) is.1

duty-out : (w : World) (d : Duty) → IsWhole w → IsDuty w d → GivesOut (effect w d)
duty-out w d is of =
    let g = duty-gives (w.entries + 1) w d is.0 of is.1 in record { sent = g.sent; agents = g.agents }

gives-step : (w : World) (e : What) → IsWhole w → may_follow w e ≡ true → GivesOut (step w e).after
gives-step w (what.Call c) is may = call-gives w c is
gives-step w (what.Duty d) is may = duty-out w d is (IsDuty-due w d (room_duty w d may).2)

pub gives-empty : GivesOut empty_world
gives-empty = record { sent = λ s h. absurd h; agents = λ a h. absurd h }

pub whole-step : (w : World) (e : What) → IsOrderly w × GivesOut w → may_follow w e ≡ true →
    IsOrderly (step w e).after × GivesOut (step w e).after
whole-step w e is may = (orderly-step w e is.0 may, gives-step w e is may)

pub whole-replay : (h : List Entry) → IsLegal h → IsOrderly (replay h) × GivesOut (replay h)
whole-replay h legal = replay-keeps IsWhole whole-step empty_world h (orderly-empty, gives-empty) legal

-- All stands in order.

pub ordered-beside : (w : World) → IsOrderly w → GivesOut w → IsOrderedBeside w
ordered-beside w is g = record {
  sent = rises-between sent_node 0 1 w.tables.next_id w.sent (omega arith) is.sent;
  agents = rises-between agent_node 0 1 w.tables.next_id w.agents (omega arith) is.agents;
  watchers = (watchers-rise w is).0;
  executors =
      all-has (λ (a : NodeAgent). RisesFrom executor_task 0 a.executors) w.agents
      (λ a h. rises-between executor_task 0 1 w.tables.next_id a.executors (omega arith)
      (g.agents a h).executors.rises);
  below = (watchers-rise w is).1;
}

pub IsSound-replay : (h : List Entry) → IsLegal h → IsSound (replay h).tables
IsSound-replay h legal = sound (replay h) (whole-replay h legal).0

pub IsOrderedBeside-replay : (h : List Entry) → IsLegal h → IsOrderedBeside (replay h)
IsOrderedBeside-replay h legal =
    let is = whole-replay h legal in ordered-beside (replay h) is.0 is.1
