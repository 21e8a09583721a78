-- The numbers of every world of a legal history are far from the ends of their types.
use Rattle.std.proofs.Common.{Bool, Err, List, None, Ok, Option, Result, Some, [], arith, cond, false, length, nat_lt, refl, subst, sym, true, ℕ, ◌+◌, ◌≡◌, ◌≤◌}
use Rattle.std.proofs.lemmas.Bool.Decides.{nat_tests}
use Rattle.std.specs.List.{list_all}
use Rattle.std.specs.Prelude.{not, ◌&&◌, ◌==◌}
use Rattle.swarm_model.proofs.Base.Answers.{OnDone, OnGiven, given-found, given-if, given-if_not, given-unless, given-unless_some, ops-keep}
use Rattle.swarm_model.proofs.Base.Halting.{entries-legal}
use Rattle.swarm_model.proofs.Base.Histories.{entries-replay, entries-step, replay-keeps}
use Rattle.swarm_model.proofs.Laws.GivesOut.{GivesOut}
use Rattle.swarm_model.proofs.Laws.Kept.{Keeps}
use Rattle.swarm_model.proofs.Laws.KeptCalls.{IsKept, kept-empty, kept-step}
use Rattle.swarm_model.proofs.Laws.Numbers.{replay-counts}
use Rattle.swarm_model.proofs.Laws.Timely.{IsShortEnd, IsShortSpec, IsShortTemplate, IsShortWork, IsTimelyService, IsTimelySession, IsTimelyTask, Timely, Where, day, each-pushed, timely-empty, timely-keeps, timely-replay}
use Rattle.swarm_model.proofs.Laws.TimelyAgents.{IsBeside, IsCountedMessage, IsCountedSent, IsShortChange, IsTimelyAgent, IsTimelyExecutor, TimelyBeside, agent-timely, duty-beside, lost-timely, message-counted, more, moved-on, sent-dropped, sent-timely}
use Rattle.swarm_model.proofs.Moves.Worlds.{IsOrderly}
use Rattle.swarm_objects.specs.Agents.NodeAgents.{failed_agent, lost}
use Rattle.swarm_model.specs.Calls.Faults.{on_agent}
use Rattle.swarm_model.specs.Calls.Networks.{remove_network}
use Rattle.swarm_objects.specs.Agents.NodeAgents.{new_agent}
use Rattle.swarm_model.specs.Calls.Nodes.{remove_node, update_node, with_agent_if}
use Rattle.swarm_objects.specs.NewRows.{respecified_node}
use Rattle.swarm_model.specs.Calls.Operations.{apply_op}
use Rattle.swarm_model.specs.Calls.Refusals.{conflict, found, network_by, node_by, service_by}
use Rattle.swarm_model.specs.Calls.Remote.{begin_with, given_or, on_remote, on_session, pulled, remote_status, report}
use Rattle.swarm_objects.specs.Nodes.Admission.{not_admitted}
use Rattle.swarm_model.specs.Calls.Services.{go_back, remove_service, rollback_service, update_service}
use Rattle.swarm_model.specs.Calls.Views.{View, shows}
use Rattle.swarm_model.specs.Calls.Watches.{polled, told_at, waiting_events, watch_finish, watch_poll, without_watcher}
use Rattle.swarm_model.specs.Calls.{answer, answered, ticked, txn_answer, viewed}
use Rattle.swarm_model.specs.History.{IsLegal, may_follow, replay, step}
use Rattle.swarm_model.specs.Outcome.{Answered}
use Rattle.swarm_objects.proofs.RowLemmas.{Has-filter_cases, Has-map_cases}
use Rattle.swarm_objects.proofs.Tests.{all-pass, both}
use Rattle.swarm_objects.specs.Agents.Messages.{message_for}
use Rattle.swarm_objects.specs.Bounds.{HasNearTimes, IsSmall, is_near, is_near_agent, is_near_assigned, is_near_change, is_near_end, is_near_executor, is_near_message, is_near_node, is_near_run, is_near_sent, is_near_service, is_near_session, is_near_spec, is_near_task, is_near_template, is_near_workload}
use Rattle.swarm_objects.specs.Limits.{most_events, most_ops}
use Rattle.swarm_objects.specs.Loops.Agents.{change_agent}
use Rattle.swarm_objects.specs.Nodes.Sessions.{session_of}
use Rattle.swarm_objects.specs.Rows.{agent_node, drop_row, on_row, row_at, sent_node, task_id, watcher_id}
use Rattle.swarm_objects.specs.World.{Tables, World, empty_world}
use Rattle.swarm_objects.specs.declared.agents.AgentMode.{AgentMode}
use Rattle.swarm_objects.specs.declared.agents.Executor.{Executor}
use Rattle.swarm_objects.specs.declared.agents.NodeAgent.{NodeAgent}
use Rattle.swarm_objects.specs.declared.calls.Call.TheVariants as call
use Rattle.swarm_objects.specs.declared.calls.Call.{Call}
use Rattle.swarm_objects.specs.declared.calls.Entry.{Entry}
use Rattle.swarm_objects.specs.declared.calls.Op.TheVariants as op
use Rattle.swarm_objects.specs.declared.calls.Op.{Op}
use Rattle.swarm_objects.specs.declared.calls.What.TheVariants as what
use Rattle.swarm_objects.specs.declared.calls.What.{What}
use Rattle.swarm_objects.specs.declared.ids.Kind.TheVariants as kind
use Rattle.swarm_objects.specs.declared.messages.AssignChange.TheVariants as assign
use Rattle.swarm_objects.specs.declared.messages.AssignChange.{AssignChange}
use Rattle.swarm_objects.specs.declared.messages.Message.{Message}
use Rattle.swarm_objects.specs.declared.messages.NodeSent.{NodeSent}
use Rattle.swarm_objects.specs.declared.networks.Network.{Network}
use Rattle.swarm_objects.specs.declared.nodes.Node.{Node}
use Rattle.swarm_objects.specs.declared.replies.Refusal.TheVariants as refusal
use Rattle.swarm_objects.specs.declared.replies.Refusal.{Refusal}
use Rattle.swarm_objects.specs.declared.replies.Reply.TheVariants as reply
use Rattle.swarm_objects.specs.declared.replies.Reply.{Reply}
use Rattle.swarm_objects.specs.declared.replies.Wanted.TheVariants as wanted_by
use Rattle.swarm_objects.specs.declared.services.Replaced.{Replaced}
use Rattle.swarm_objects.specs.declared.services.Service.{Service}
use Rattle.swarm_objects.specs.declared.services.ServiceSpec.{ServiceSpec}
use Rattle.swarm_objects.specs.declared.services.UpdateRun.{UpdateRun}
use Rattle.swarm_objects.specs.declared.sessions.NodeSession.{NodeSession}
use Rattle.swarm_objects.specs.declared.tasks.Attempt.{Attempt}
use Rattle.swarm_objects.specs.declared.tasks.Task.{Task}
use Rattle.swarm_objects.specs.declared.tasks.TaskState.{TaskState}
use Rattle.swarm_objects.specs.declared.templates.End.TheVariants as end
use Rattle.swarm_objects.specs.declared.templates.End.{End}
use Rattle.swarm_objects.specs.declared.templates.Template.{Template}
use Rattle.swarm_objects.specs.declared.templates.Workload.{Workload}
use Rattle.swarm_objects.specs.declared.watches.Event.{Event}
use Rattle.swarm_objects.specs.declared.watches.Watcher.{Watcher}

-- The clock doesn't go back.

clock-keeps : (c : ℕ) → Keeps (λ t. c ≤ t.clock)
clock-keeps c = record {
  tasks = λ t new order q rows. q;
  address = λ version t x order q there e. q;
  place = λ version t x m order q there e best. q;
  comes = λ t s x order q there new. q;
  runs = λ t new order q rows. q;
  port = λ version t s target udp number order q e. q;
  fails = λ version t s spec order q there e. q;
  updates = λ version t s d order q there same taken. q;
  rolls_back = λ version t s spec order q there e. q;
  service_comes = λ version t name d order q taken. q;
  attempts = λ t new q each. q;
  nodes = λ t f order q each. q;
  node_comes = λ t n order q id since. q;
  node_goes = λ version t id order q. q;
  begins = λ version t n cpu mem order q there. q;
  registers = λ version t node order q. q;
  beats = λ t node q. q;
  networks = λ t new q. q;
  ids = λ t order q. q;
  ticks = λ t ms q. omega (arith, q);
  settings = λ t s e q. q;
}

clock-rises : (w : World) (e : What) → IsOrderly w → GivesOut w → may_follow w e ≡ true → w.tables.clock ≤
    (step w e).after.tables.clock
clock-rises w e is gives may =
    (kept-step (λ t. w.tables.clock ≤ t.clock) (clock-keeps w.tables.clock) w e ((is, gives), omega arith) may).1

-- Operations.

agent-new : (b : Bool) (clock n node : ℕ) (sent : List NodeSent) (agents : List NodeAgent) →
    TimelyBeside clock n sent agents →
    TimelyBeside clock n sent (with_agent_if b node agents)
agent-new false clock n node sent agents is = is
agent-new true clock n node sent agents is = record {
  sent = is.sent;
  agents =
      each-pushed (IsTimelyAgent clock n) agents (new_agent node) is.agents
      (record { applied = omega arith; executors = λ e h. absurd h; inbox = tt });
}

agent-gone : (clock n node : ℕ) (sent : List NodeSent) (agents : List NodeAgent) → TimelyBeside clock n sent agents →
    TimelyBeside clock n (drop_row sent_node node sent) (drop_row agent_node node agents)
agent-gone clock n node sent agents is = record {
  sent = λ s h. is.sent s (Has-filter_cases (λ r. not (sent_node r == node)) sent s h).0;
  agents = λ a h. is.agents a (Has-filter_cases (λ x. not (agent_node x == node)) agents a h).0;
}

back-beside : (n version : ℕ) (w : World) (s : Service) (spec : Option ServiceSpec) → IsBeside n w →
    OnDone (IsBeside n) (go_back version w s spec)
back-beside n version w s None is = tt
back-beside n version w s (Some spec) is = is

op-beside : (n version : ℕ) (w : World) (o : Op) → IsBeside n w → OnDone (IsBeside n) (apply_op version w o)
op-beside n version w (op.CreateNode name draft) is =
    given-unless (λ (d : World × ℕ). IsBeside n d.0) _ _
    (λ e. agent-new (not draft.remote) w.tables.clock n w.tables.next_id w.sent w.agents is)
op-beside n version w (op.UpdateNode name asked labels r a) is =
    given-found (λ (d : World × ℕ). IsBeside n d.0) kind.Node (wanted_by.Name name) (node_by w.tables name)
    (λ x. update_node w asked x (respecified_node version labels r a x))
    (λ (x : Node) e. given-unless (λ (d : World × ℕ). IsBeside n d.0) _ _ (λ ok. is))
op-beside n version w (op.RemoveNode name force) is =
    given-found (λ (d : World × ℕ). IsBeside n d.0) kind.Node (wanted_by.Name name) (node_by w.tables name)
    (remove_node version w force)
    (λ (x : Node) e. given-unless (λ (d : World × ℕ). IsBeside n d.0) _ _
    (λ ok. agent-gone w.tables.clock n x.id w.sent w.agents is))
op-beside n version w (op.CreateService name d) is = given-unless (λ (d : World × ℕ). IsBeside n d.0) _ _ (λ e. is)
op-beside n version w (op.UpdateService name asked d) is =
    given-found (λ (d : World × ℕ). IsBeside n d.0) kind.Service (wanted_by.Name name) (service_by w.tables name)
    (update_service version w asked d)
    (λ (s : Service) e. given-unless (λ (d : World × ℕ). IsBeside n d.0) _ _ (λ ok. is))
op-beside n version w (op.RemoveService name) is =
    given-found (λ (d : World × ℕ). IsBeside n d.0) kind.Service (wanted_by.Name name) (service_by w.tables name)
    (remove_service w) (λ (s : Service) e. is)
op-beside n version w (op.RollbackService name asked) is =
    given-found (λ (d : World × ℕ). IsBeside n d.0) kind.Service (wanted_by.Name name) (service_by w.tables name)
    (rollback_service version w asked)
    (λ (s : Service) e. given-unless_some (λ (d : World × ℕ). IsBeside n d.0) (conflict asked s.version) _
    (λ ok. back-beside n version w s s.previous is))
op-beside n version w (op.CreateNetwork name base bits) is = given-unless (λ (d : World × ℕ). IsBeside n d.0) _ _
    (λ e. is)
op-beside n version w (op.RemoveNetwork name) is =
    given-found (λ (d : World × ℕ). IsBeside n d.0) kind.Network (wanted_by.Name name) (network_by w.tables name)
    (remove_network w)
    (λ (x : Network) e. given-unless (λ (d : World × ℕ). IsBeside n d.0) _ _ (λ ok. is))
op-beside n version w (op.SetCluster settings) is = given-unless (λ (d : World × ℕ). IsBeside n d.0) _ _ (λ e. is)

-- Calls.

abbrev Answers : ℕ → Answered → Type 0
Answers n given = OnGiven (λ (d : Reply × World). IsBeside n d.1) given

txn-beside : (n : ℕ) (r : Result (World × List ℕ) Refusal) → OnGiven (λ (d : World × List ℕ). IsBeside n d.0) r →
    Answers n (txn_answer r)
txn-beside n (Ok done) is = is
txn-beside n (Err r) is = tt

view-beside : (n : ℕ) (w : World) (v : View) → IsBeside n w → Answers n (viewed w v)
view-beside n w (Ok v) is = is
view-beside n w (Err r) is = tt

polled-beside : (n entry : ℕ) (w : World) (id : ℕ) (events : List Event) → IsBeside n w → IsBeside n
    (polled entry w id events).1
polled-beside n entry w id events is = go (nat_lt most_events (length events))
  where
    go : (lagged : Bool) → IsBeside n (cond {A = Reply × World} lagged
        (reply.Refused (refusal.Lagged (length events)), without_watcher id w)
        (reply.Events events, told_at entry id w)).1
    go true = is
    go false = is

poll-beside : (n entry : ℕ) (w : World) (id : ℕ) (x : Option Watcher) → IsBeside n w → Answers n
    (watch_poll entry w id x)
poll-beside n entry w id None is = tt
poll-beside n entry w id (Some x) is = polled-beside n entry w id (waiting_events w x) is

finish-beside : (n : ℕ) (w : World) (id : ℕ) (x : Option Watcher) → IsBeside n w → Answers n (watch_finish w id x)
finish-beside n w id None is = tt
finish-beside n w id (Some x) is = is

agent-beside : (n : ℕ) (w : World) (name : List ℕ) (f : NodeAgent → NodeAgent) →
    ((a : NodeAgent) → IsTimelyAgent w.tables.clock n a → IsTimelyAgent w.tables.clock n (f a)) → IsBeside n w →
    Answers n (on_agent w name f)
agent-beside n w name f each is =
    given-found (λ (d : Reply × World). IsBeside n d.1) kind.Node (wanted_by.Name name) (node_by w.tables name)
    (λ x. cond x.remote (Err (refusal.WrongKind x.id)) (Ok (reply.AgentDone x.id, change_agent x.id f w)))
    (λ (x : Node) e. given-if_not (λ (d : Reply × World). IsBeside n d.1) x.remote
    (Ok (reply.AgentDone x.id, change_agent x.id f w)) (refusal.WrongKind x.id)
    (λ k. agent-timely w.tables.clock n x.id f w.sent w.agents each is))

failed-beside : (clock n : ℕ) (a : NodeAgent) → IsTimelyAgent clock n a → IsTimelyAgent clock n (failed_agent clock a)
failed-beside clock n a is = record {
  applied = is.applied;
  executors = λ e h.
      let from = Has-map_cases (lost clock) a.executors e h in
      subst (IsTimelyExecutor clock) from.2 (lost-timely clock from.0 (is.executors from.0 from.1));
  inbox = is.inbox;
}

mode-beside : (clock n : ℕ) (a : NodeAgent) (mode : AgentMode) → IsTimelyAgent clock n a → IsTimelyAgent clock n
    (record a { mode = mode })
mode-beside clock n a mode is = record { applied = is.applied; executors = is.executors; inbox = is.inbox }

remote-beside : (n : ℕ) (t : Tables) (name : List ℕ) (next : Node → Answered) → ((x : Node) → Answers n (next x)) →
    Answers n (on_remote t name next)
remote-beside n t name next each =
    given-found (λ (d : Reply × World). IsBeside n d.1) kind.Node (wanted_by.Name name) (node_by t name)
    (λ x. cond x.remote (next x) (Err (refusal.WrongKind x.id)))
    (λ (x : Node) e. given-if (λ (d : Reply × World). IsBeside n d.1) x.remote (next x) (refusal.WrongKind x.id)
    (λ k. each x))

session-beside : (n : ℕ) (t : Tables) (name : List ℕ) (session : ℕ) (next : Node → Answered) →
    ((x : Node) → Answers n (next x)) →
    Answers n (on_session t name session next)
session-beside n t name session next each =
    remote-beside n t name
    (λ x. elim (not_admitted t.clock session (session_of t x.id)) [ Some r ↦ Err r | None ↦ next x ])
    (λ x. given-unless_some (λ (d : Reply × World). IsBeside n d.1) (not_admitted t.clock session (session_of t x.id))
    (next x)
    (λ e. each x))

pulled-beside : (n : ℕ) (w : World) (node : ℕ) (m : Option Message) → Timely w.tables → Where
    (IsCountedMessage (n + 1)) m →
    IsBeside n w → IsBeside (n + 1) (pulled w node m)
pulled-beside n w node None is message beside = more n w beside
pulled-beside n w node (Some m) is message beside =
    sent-timely w.tables.clock (n + 1) w node m is message.results_in (more n w beside)

status-beside : (n version : ℕ) (w : World) (name : List ℕ) (session task : ℕ) (s : TaskState) → IsBeside n w →
    Answers n (remote_status version w name session task s)
status-beside n version w name session task s is =
    session-beside n w.tables name session
    (λ x. found kind.Task (wanted_by.Id task) (row_at task_id task w.tables.tasks) (report version w x.id s))
    (λ x. given-found (λ (d : Reply × World). IsBeside n d.1) kind.Task (wanted_by.Id task)
    (row_at task_id task w.tables.tasks) (report version w x.id s)
    (λ (y : Task) e. given-unless (λ (d : Reply × World). IsBeside n d.1) _ _ (λ ok. is)))

call-beside : (n version : ℕ) (w : World) (c : Call) → Timely w.tables → IsBeside n w → Answers (n + 1)
    (answer version w c)
call-beside n version w (call.Txn ops) is beside =
    given-if_not (λ (d : Reply × World). IsBeside (n + 1) d.1) (nat_lt most_ops (length ops)) _ _
    (λ e. txn-beside (n + 1) _
    (ops-keep (IsBeside (n + 1)) version (λ v o holds. op-beside (n + 1) version v o holds) ops w [] (more n w beside)))
call-beside n version w (call.View asked) is beside = view-beside (n + 1) w (shows w.tables asked) (more n w beside)
call-beside n version w (call.WatchBegin f) is beside =
    given-unless (λ (d : Reply × World). IsBeside (n + 1) d.1) _ _ (λ e. more n w beside)
call-beside n version w (call.WatchPoll id) is beside =
    poll-beside (n + 1) version w id (row_at watcher_id id w.watchers) (more n w beside)
call-beside n version w (call.WatchFinish id) is beside =
    finish-beside (n + 1) w id (row_at watcher_id id w.watchers) (more n w beside)
call-beside n version w (call.Tick ms) is beside =
    given-unless (λ (d : Reply × World). IsBeside (n + 1) d.1) _ _
    (λ e. moved-on n w (ticked w ms) (omega arith) refl refl beside)
call-beside n version w (call.Settle budget) is beside = more n w beside
call-beside n version w (call.NodeFail name) is beside =
    agent-beside (n + 1) w name (failed_agent w.tables.clock) (λ a of. failed-beside w.tables.clock (n + 1) a of)
    (more n w beside)
call-beside n version w (call.NodeStart name) is beside =
    agent-beside (n + 1) w name _ (λ a of. mode-beside w.tables.clock (n + 1) a _ of) (more n w beside)
call-beside n version w (call.AgentStop name) is beside =
    agent-beside (n + 1) w name _ (λ a of. mode-beside w.tables.clock (n + 1) a _ of) (more n w beside)
call-beside n version w (call.AgentStart name) is beside =
    agent-beside (n + 1) w name _ (λ a of. mode-beside w.tables.clock (n + 1) a _ of) (more n w beside)
call-beside n version w (call.RemoteBegin name cpu mem) is beside =
    remote-beside (n + 1) w.tables name (λ x. begin_with version w x.id (given_or cpu x.cpu) (given_or mem x.mem))
    (λ x. given-unless (λ (d : Reply × World). IsBeside (n + 1) d.1) _ _
    (λ e. sent-dropped w.tables.clock (n + 1) x.id w.sent w.agents (more n w beside)))
call-beside n version w (call.RemoteBeat name session) is beside =
    session-beside (n + 1) w.tables name session _ (λ x. more n w beside)
call-beside n version w (call.RemotePull name session) is beside =
    session-beside (n + 1) w.tables name session _
    (λ x. pulled-beside n w x.id (message_for w x.id) is (message-counted w.tables.clock n w x.id is beside) beside)
call-beside n version w (call.RemoteStatus name session task s) is beside =
    status-beside (n + 1) version w name session task s (more n w beside)
call-beside n version w call.Halt is beside = more n w beside

answered-beside : (n : ℕ) (w : World) (given : Answered) → Answers (n + 1) given → IsBeside n w →
    IsBeside (n + 1) (answered w given).after
answered-beside n w (Ok done) is before = is
answered-beside n w (Err r) is before = more n w before

-- Histories.

abbrev IsInTime : World → Type 0
IsInTime w = IsKept Timely w × IsBeside w.entries w

beside-step : (n : ℕ) (w : World) (e : What) → IsKept Timely w → IsBeside n w → may_follow w e ≡ true → IsBeside
    (n + 1) (step w e).after
beside-step n w (what.Call c) is beside may =
    answered-beside n w (answer (w.entries + 1) w c) (call-beside n (w.entries + 1) w c is.1 beside) beside
beside-step n w (what.Duty d) is beside may =
    duty-beside (w.entries + 1) n w d is.1 (clock-rises w (what.Duty d) is.0.0 is.0.1 may) beside

in-time-step : (w : World) (e : What) → IsInTime w → may_follow w e ≡ true → IsInTime (step w e).after
in-time-step w e is may = (
  kept-step Timely timely-keeps w e is.0 may,
  subst (λ (k : ℕ). IsBeside k (step w e).after) (sym (entries-step w e)) (beside-step w.entries w e is.0 is.1 may),
)

pub in-time-replay : (h : List Entry) → IsLegal h → IsBeside (replay h).entries (replay h)
in-time-replay h legal =
    (replay-keeps IsInTime in-time-step empty_world h
    (kept-empty Timely timely-empty, record { sent = λ s k. absurd k; agents = λ a k. absurd k }) legal).1

-- Numbers far from the ends of their types.

near : (n : ℕ) → n ≤ 1000000000 → is_near n ≡ true
near n le = grind (arith, nat_tests, le)

near-end : (x : End) → IsShortEnd x → is_near_end x ≡ true
near-end end.Never is = refl
near-end (end.Exit time code) is = near time (omega (arith, is))
near-end end.Reject is = refl

near-work : (w : Workload) → IsShortWork w → is_near_workload w ≡ true
near-work w is =
    both (is_near w.prepare && is_near w.start && is_near w.stop) (is_near_end w.end)
    (both (is_near w.prepare && is_near w.start) (is_near w.stop)
    (both (is_near w.prepare) (is_near w.start) (near w.prepare (omega (arith, is.prepare)))
    (near w.start (omega (arith, is.start))))
    (near w.stop (omega (arith, is.stop)))) (near-end w.end is.end)

near-template : (x : Template) → IsShortTemplate x → is_near_template x ≡ true
near-template x is =
    both (is_near_workload x.workload && is_near x.restart.delay) (is_near x.restart.window)
    (both (is_near_workload x.workload) (is_near x.restart.delay) (near-work x.workload is.workload)
    (near x.restart.delay (omega (arith, is.delay))))
    (near x.restart.window (omega (arith, is.window)))

near-spec : (s : ServiceSpec) → IsShortSpec s → is_near_spec s ≡ true
near-spec s is =
    both (is_near_template s.template && is_near s.update.delay) (is_near s.update.monitor)
    (both (is_near_template s.template) (is_near s.update.delay) (near-template s.template is.template)
    (near s.update.delay (omega (arith, is.delay))))
    (near s.update.monitor (omega (arith, is.monitor)))

near-previous : (o : Option ServiceSpec) → Where IsShortSpec o → on_row true is_near_spec o ≡ true
near-previous None is = refl
near-previous (Some s) is = near-spec s is

near-run : (clock : ℕ) (s : Service) (o : Option UpdateRun) → s.run ≡ o → clock ≤ 900000000 → IsTimelyService clock s →
    on_row true is_near_run o ≡ true
near-run clock s None e few is = refl
near-run clock s (Some r) e few is =
    all-pass (λ (i : Replaced). is_near i.created) r.replaced (λ i h. near i.created
    (omega (arith, few, is.run r e i h)))

near-service : (clock : ℕ) (s : Service) → clock ≤ 900000000 → IsTimelyService clock s → is_near_service s ≡ true
near-service clock s few is =
    both (is_near_spec s.spec && on_row true is_near_spec s.previous) (on_row true is_near_run s.run)
    (both (is_near_spec s.spec) (on_row true is_near_spec s.previous) (near-spec s.spec is.spec)
    (near-previous s.previous is.previous))
    (near-run clock s s.run refl few is)

near-task : (clock : ℕ) (x : Task) → clock ≤ 900000000 → IsTimelyTask clock x → is_near_task x ≡ true
near-task clock x few is =
    both (is_near_template x.template && is_near x.since && is_near x.created) (is_near x.raise_at)
    (both (is_near_template x.template && is_near x.since) (is_near x.created)
    (both (is_near_template x.template) (is_near x.since) (near-template x.template is.template)
    (near x.since (omega (arith, few, is.since))))
    (near x.created (omega (arith, few, is.created)))) (near x.raise_at (omega (arith, few, is.raise_at)))

near-session : (clock : ℕ) (s : NodeSession) → clock ≤ 900000000 → IsTimelySession clock s → is_near_session s ≡ true
near-session clock s few is =
    both (is_near s.session.deadline) (is_near s.session.beat) (near s.session.deadline
    (omega (arith, few, is.deadline)))
    (near s.session.beat (omega (arith, few, is.beat)))

near-times : (t : Tables) → t.clock ≤ 900000000 → Timely t → HasNearTimes t
near-times t few is = record {
  nodes = all-pass is_near_node t.nodes (λ n h. near n.down_since (omega (arith, few, is.nodes n h)));
  services = all-pass is_near_service t.services (λ s h. near-service t.clock s few (is.services s h));
  tasks = all-pass is_near_task t.tasks (λ x h. near-task t.clock x few (is.tasks x h));
  attempts = all-pass (λ (a : Attempt). is_near a.at) t.attempts (λ a h. near a.at
      (omega (arith, few, is.attempts a h)));
  sessions = all-pass is_near_session t.sessions (λ s h. near-session t.clock s few (is.sessions s h));
  orphan = near t.settings.orphan (omega (arith, is.orphan));
}

near-change : (c : AssignChange) → IsShortChange c → is_near_change c ≡ true
near-change (assign.Update a) is = near-work a.workload is
near-change (assign.Remove task) is = refl

near-inbox : (n : ℕ) (o : Option Message) → n ≤ 900000000 → Where (IsCountedMessage n) o →
    on_row true is_near_message o ≡ true
near-inbox n None few is = refl
near-inbox n (Some m) few is =
    both (is_near m.results_in) (list_all is_near_change m.changes) (near m.results_in
    (omega (arith, few, is.results_in)))
    (all-pass is_near_change m.changes (λ c h. near-change c (is.changes c h)))

near-stopping : (clock : ℕ) (o : Option ℕ) → clock ≤ 900000000 → Where (λ k. k ≤ clock + day) o →
    on_row true is_near o ≡ true
near-stopping clock None few is = refl
near-stopping clock (Some k) few is = near k (omega (arith, few, is))

near-executor : (clock : ℕ) (e : Executor) → clock ≤ 900000000 → IsTimelyExecutor clock e → is_near_executor e ≡ true
near-executor clock e few is =
    both (is_near_workload e.workload && is_near e.since) (on_row true is_near e.stopping)
    (both (is_near_workload e.workload) (is_near e.since) (near-work e.workload is.workload)
    (near e.since (omega (arith, few, is.since))))
    (near-stopping clock e.stopping few is.stopping)

near-agent : (clock n : ℕ) (a : NodeAgent) → clock ≤ 900000000 → n ≤ 900000000 → IsTimelyAgent clock n a →
    is_near_agent a ≡ true
near-agent clock n a few most is =
    both (is_near a.applied && list_all is_near_executor a.executors) (on_row true is_near_message a.inbox)
    (both (is_near a.applied) (list_all is_near_executor a.executors) (near a.applied (omega (arith, most, is.applied)))
    (all-pass is_near_executor a.executors (λ e h. near-executor clock e few (is.executors e h))))
    (near-inbox n a.inbox most is.inbox)

near-sent : (n : ℕ) (s : NodeSent) → n ≤ 900000000 → IsCountedSent n s → is_near_sent s ≡ true
near-sent n s most is =
    both (is_near s.count) (list_all is_near_assigned s.tasks) (near s.count (omega (arith, most, is.count)))
    (all-pass is_near_assigned s.tasks (λ a h. near-work a.workload (is.tasks a h)))

pub IsSmall-replay : (h : List Entry) → IsLegal h → IsSmall (replay h)
IsSmall-replay h legal =
    let timely = timely-replay h legal in
    let beside = in-time-replay h legal in
    let counts = replay-counts empty_world h in
    let few = entries-legal h legal in
    let clock : (replay h).tables.clock ≤ 900000000 = omega (arith, counts.clock, few) in
    let entries : (replay h).entries ≤ 900000000 = omega (arith, entries-replay h, few) in
    record {
      entries = omega (arith, entries);
      clock = omega (arith, clock);
      next_id = omega (arith, counts.next, few);
      heartbeat = omega (arith, timely.heartbeat);
      times = near-times (replay h).tables clock timely;
      agents =
          all-pass is_near_agent (replay h).agents
          (λ a k. near-agent (replay h).tables.clock (replay h).entries a clock entries (beside.agents a k));
      sent = all-pass is_near_sent (replay h).sent (λ s k. near-sent (replay h).entries s entries (beside.sent s k));
    }
