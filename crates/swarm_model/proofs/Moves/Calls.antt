-- Every call is a move.
use Rattle.std.proofs.Common.{Bool, Err, List, None, Ok, Option, Result, Some, arith, cond, false, find, inl, inr, length, nat_lt, refl, true, ℕ, ◌*◌, ◌+◌, ◌<◌, ◌∷◌, ◌≡◌, ◌≤◌}
use Rattle.std.specs.Prelude.{[], not, ◌==◌}
use Rattle.swarm_model.proofs.Base.Answers.{OnGiven, given-found, given-if, given-if_not, given-unless, given-unless_some}
use Rattle.swarm_model.proofs.Moves.EachDuty.{agent-moves, begun-moves, entered-moves, sent-moves, tables-moves, with-tables}
use Rattle.swarm_model.proofs.Moves.Opening.{opening-moves}
use Rattle.swarm_model.proofs.Moves.Operations.{ops-moves}
use Rattle.swarm_model.proofs.Moves.Ids.{comes-next, times-becomes, times-push}
use Rattle.swarm_model.proofs.Moves.Rows.{Becomes, becomes-change_any, becomes-filter, becomes-same, between-has, rows-stay}
use Rattle.swarm_model.proofs.Moves.Sessions.{beat-moves}
use Rattle.swarm_model.proofs.Moves.Tables.{move-any_task, moves-raised_to}
use Rattle.swarm_model.proofs.Moves.Worlds.{Any, IsOrderly, Moves, SameId, TaskMoves, networks-stay, sessions-same, tables-same, task-same, turns-by, turns-ids, turns-more}
use Rattle.swarm_model.specs.Calls.{answer, answered, call_outcome, ticked, txn_answer, viewed}
use Rattle.swarm_model.specs.Calls.Remote.{begin_with, given_or, on_remote, on_session, pulled, remote_beat, remote_begin, remote_pull, remote_status, report}
use Rattle.swarm_objects.specs.Nodes.Admission.{not_admitted}
use Rattle.swarm_model.specs.Calls.Faults.{on_agent}
use Rattle.swarm_model.specs.Calls.Refusals.{found, has_name, node_by, node_name}
use Rattle.swarm_model.specs.Calls.Views.{View, shows}
use Rattle.swarm_model.specs.Calls.Watches.{new_watcher, polled, told_all, told_at, waiting_events, watch_finish, watch_poll, with_watcher, without_watcher}
use Rattle.swarm_model.specs.Outcome.{Answered}
use Rattle.swarm_objects.specs.Agents.Messages.{message_for}
use Rattle.swarm_objects.specs.Changes.{with_tables}
use Rattle.swarm_objects.specs.Limits.{most_events, most_ops}
use Rattle.swarm_objects.specs.Loops.Agents.{after_beat, change_agent}
use Rattle.swarm_objects.specs.Nodes.Sessions.{session_of}
use Rattle.swarm_objects.specs.Rows.{Has, agent_node, node_id, row_at, sent_node, session_node, task_id, watcher_id}
use Rattle.swarm_objects.specs.World.{World}
use Rattle.swarm_objects.specs.declared.agents.NodeAgent.{NodeAgent}
use Rattle.swarm_objects.specs.declared.calls.Call.{Call}
use Rattle.swarm_objects.specs.declared.calls.Call.TheVariants as call
use Rattle.swarm_objects.specs.declared.ids.Kind.TheVariants as kind
use Rattle.swarm_objects.specs.declared.messages.Message.{Message}
use Rattle.swarm_objects.specs.declared.nodes.Node.{Node}
use Rattle.swarm_objects.specs.declared.replies.Refusal.{Refusal}
use Rattle.swarm_objects.specs.declared.replies.Refusal.TheVariants as refusal
use Rattle.swarm_objects.specs.declared.replies.Reply.{Reply}
use Rattle.swarm_objects.specs.declared.replies.Reply.TheVariants as reply
use Rattle.swarm_objects.specs.declared.replies.Wanted.TheVariants as wanted_by
use Rattle.swarm_objects.specs.declared.tasks.Task.{Task}
use Rattle.swarm_objects.specs.declared.tasks.TaskState.{TaskState}
use Rattle.swarm_objects.specs.declared.watches.Event.{Event}
use Rattle.swarm_objects.specs.declared.watches.Filter.{Filter}
use Rattle.swarm_objects.specs.declared.watches.Watcher.{Watcher}

-- where the call is answered, its world is a move
abbrev Answers : World → Answered → Type 0
Answers w given = OnGiven (λ (d : Reply × World). Moves w d.1) given

same : (w : World) → Moves w w
same w = tables-moves w w (tables-same w.tables) refl refl refl

txn-answers : (w : World) (r : Result (World × List ℕ) Refusal) → OnGiven (λ (d : World × List ℕ). Moves w d.0) r →
    Answers w (txn_answer r)
txn-answers w (Ok done) moves = moves
txn-answers w (Err r) moves = tt

view-answers : (w : World) (v : View) → Answers w (viewed w v)
view-answers w (Ok v) = same w
view-answers w (Err r) = tt

-- Watchers.

watcher-comes : (entry : ℕ) (w : World) (f : Filter) → Moves w (with_watcher entry w f)
watcher-comes entry w f = record {
  tables = record {
    next = omega arith;
    nodes = turns-ids w.tables.nodes;
    services = turns-ids w.tables.services;
    tasks = turns-by (becomes-same TaskMoves task-same w.tables.tasks);
    networks = networks-stay w.tables.networks;
    sessions = sessions-same w.tables.sessions w.tables.next_id (w.tables.next_id + 1);
    opens = rows-stay session_node w.tables.next_id (w.tables.next_id + 1) w.tables.sessions (omega arith);
    ids = λ i. inl (omega arith);
  };
  watchers =
      turns-more watcher_id (SameId watcher_id) Any w.tables.next_id w.watchers w.watchers
      (new_watcher entry w.tables.next_id f) (becomes-same (SameId watcher_id) (λ x. refl) w.watchers) refl tt;
  sent = rows-stay sent_node w.tables.next_id (w.tables.next_id + 1) w.sent (omega arith);
  agents = rows-stay agent_node w.tables.next_id (w.tables.next_id + 1) w.agents (omega arith);
  ids = λ i.
      comes-next w.tables.next_id i w.tables.next_id _ _ refl
      (omega (arith, times-push watcher_id i w.watchers (new_watcher entry w.tables.next_id f)));
}

watcher-dropped : (id : ℕ) (w : World) → Becomes (SameId watcher_id) [] w.watchers (without_watcher id w).watchers
watcher-dropped id w = becomes-filter (SameId watcher_id) (λ x. not (watcher_id x == id)) (λ x. refl) w.watchers

watcher-goes : (id : ℕ) (w : World) → Moves w (without_watcher id w)
watcher-goes id w = record {
  tables = tables-same w.tables;
  watchers = turns-by (watcher-dropped id w);
  sent = λ rises. rises;
  agents = λ rises. rises;
  ids = λ i. inl (omega (arith, times-becomes watcher_id (SameId watcher_id) (λ x y e. e) i w.watchers _ (watcher-dropped id w)));
}

watcher-marked : (entry id : ℕ) (w : World) → Becomes (SameId watcher_id) [] w.watchers (told_at entry id w).watchers
watcher-marked entry id w =
    becomes-change_any (SameId watcher_id) watcher_id id (told_all entry) w.watchers (λ x. refl) (λ x h. refl)

watcher-told : (entry id : ℕ) (w : World) → Moves w (told_at entry id w)
watcher-told entry id w = record {
  tables = tables-same w.tables;
  watchers = turns-by (watcher-marked entry id w);
  sent = λ rises. rises;
  agents = λ rises. rises;
  ids = λ i.
      inl (omega (arith, times-becomes watcher_id (SameId watcher_id) (λ x y e. e) i w.watchers _ (watcher-marked entry id w)));
}

polled-moves : (entry : ℕ) (w : World) (id : ℕ) (events : List Event) → Moves w (polled entry w id events).1
polled-moves entry w id events = go (nat_lt most_events (length events))
  where
    go : (lagged : Bool) → Moves w (cond {A = Reply × World} lagged (reply.Refused (refusal.Lagged (length events)), without_watcher id w) (reply.Events events, told_at entry id w)).1
    go true = watcher-goes id w
    go false = watcher-told entry id w

poll-answers : (entry : ℕ) (w : World) (id : ℕ) (x : Option Watcher) → Answers w (watch_poll entry w id x)
poll-answers entry w id None = tt
poll-answers entry w id (Some x) = polled-moves entry w id (waiting_events w x)

finish-answers : (w : World) (id : ℕ) (x : Option Watcher) → Answers w (watch_finish w id x)
finish-answers w id None = tt
finish-answers w id (Some x) = watcher-goes id w

-- Time and agents.

tick-moves : (w : World) (ms : ℕ) → Moves w (ticked w ms)
tick-moves w ms =
    tables-moves w (ticked w ms) (record {
      next = omega arith;
      nodes = turns-ids w.tables.nodes;
      services = turns-ids w.tables.services;
      tasks = turns-by (becomes-same TaskMoves task-same w.tables.tasks);
      networks = networks-stay w.tables.networks;
      sessions = sessions-same w.tables.sessions w.tables.next_id w.tables.next_id;
      opens = rows-stay session_node w.tables.next_id w.tables.next_id w.tables.sessions (omega arith);
      ids = λ i. inl (omega arith);
    }) refl refl refl

agent-answers : (w : World) (name : List ℕ) (change : NodeAgent → NodeAgent) → ((a : NodeAgent) → (change a).node ≡ a.node) →
    Answers w (on_agent w name change)
agent-answers w name change same =
    given-found (λ (d : Reply × World). Moves w d.1) kind.Node (wanted_by.Name name) (node_by w.tables name)
    (λ n. cond n.remote (Err (refusal.WrongKind n.id)) (Ok (reply.AgentDone n.id, change_agent n.id change w)))
    (λ (n : Node) e. given-if_not (λ (d : Reply × World). Moves w d.1) n.remote
    (Ok (reply.AgentDone n.id, change_agent n.id change w)) (refusal.WrongKind n.id)
    (λ k. agent-moves w w.tables n.id change (tables-same w.tables) (λ a. same a)))

-- Remote nodes.

-- the first that passes is there
pub find-has : {X : Type 0} (test : X → Bool) (xs : List X) (x : X) → find test xs ≡ Some x → Has xs x
find-has test [] x e = absurd cc
find-has test (y ∷ ys) x e = go (test y) e (find-has test ys x)
  where
    go : (b : Bool) → cond b (Some y) (find test ys) ≡ Some x → (find test ys ≡ Some x → Has ys x) → Has (y ∷ ys) x
    go true k rest = let same : y ≡ x = cc in inl same
    go false k rest = inr (rest k)

node-number : (w : World) (name : List ℕ) (n : Node) → IsOrderly w → node_by w.tables name ≡ Some n →
    (1 ≤ n.id) × (n.id < w.tables.next_id)
node-number w name n is e =
    between-has node_id 1 w.tables.next_id w.tables.nodes n is.nodes (find-has (has_name node_name name) w.tables.nodes n e)

remote-answers : (w : World) (name : List ℕ) (next : Node → Answered) →
    ((n : Node) → node_by w.tables name ≡ Some n → Answers w (next n)) →
    Answers w (on_remote w.tables name next)
remote-answers w name next each =
    given-found (λ (d : Reply × World). Moves w d.1) kind.Node (wanted_by.Name name) (node_by w.tables name)
    (λ n. cond n.remote (next n) (Err (refusal.WrongKind n.id)))
    (λ (n : Node) e. given-if (λ (d : Reply × World). Moves w d.1) n.remote (next n) (refusal.WrongKind n.id) (λ k. each n e))

session-answers : (w : World) (name : List ℕ) (session : ℕ) (next : Node → Answered) →
    ((n : Node) → node_by w.tables name ≡ Some n → Answers w (next n)) →
    Answers w (on_session w.tables name session next)
session-answers w name session next each =
    remote-answers w name
    (λ n. elim (not_admitted w.tables.clock session (session_of w.tables n.id)) [ Some r ↦ Err r | None ↦ next n ])
    (λ n at. given-unless_some (λ (d : Reply × World). Moves w d.1)
    (not_admitted w.tables.clock session (session_of w.tables n.id)) (next n) (λ e. each n at))

begin-answers : (version : ℕ) (w : World) (name : List ℕ) (cpu mem : Option ℕ) → IsOrderly w →
    Answers w (remote_begin version w name cpu mem)
begin-answers version w name cpu mem is =
    remote-answers w name (λ n. begin_with version w n.id (given_or cpu n.cpu) (given_or mem n.mem))
    (λ n at. given-unless (λ (d : Reply × World). Moves w d.1) _ _
    (λ e. begun-moves w _ n.id
    (opening-moves version w.tables n.id (given_or cpu n.cpu) (given_or mem n.mem) (node-number w name n is at))))

beat-answers : (w : World) (name : List ℕ) (session : ℕ) → Answers w (remote_beat w name session)
beat-answers w name session =
    session-answers w name session
    (λ n. Ok (reply.Beat (w.tables.clock + 3 * w.tables.settings.heartbeat), with_tables w (after_beat w.tables n.id)))
    (λ n at. with-tables w _ (beat-moves w.tables n.id))

pulled-moves : (w : World) (node : ℕ) (m : Option Message) → (1 ≤ node) × (node < w.tables.next_id) → Moves w (pulled w node m)
pulled-moves w node None is = same w
pulled-moves w node (Some m) is = sent-moves w node m is

pull-answers : (w : World) (name : List ℕ) (session : ℕ) → IsOrderly w → Answers w (remote_pull w name session)
pull-answers w name session is = session-answers w name session
    (λ n. Ok (reply.Pulled (message_for w n.id), pulled w n.id (message_for w n.id)))
    (λ n at. pulled-moves w n.id (message_for w n.id) (node-number w name n is at))

status-answers : (version : ℕ) (w : World) (name : List ℕ) (session task : ℕ) (s : TaskState) →
    Answers w (remote_status version w name session task s)
status-answers version w name session task s =
    session-answers w name session
    (λ n. found kind.Task (wanted_by.Id task) (row_at task_id task w.tables.tasks) (report version w n.id s))
    (λ n at. given-found (λ (d : Reply × World). Moves w d.1) kind.Task (wanted_by.Id task)
    (row_at task_id task w.tables.tasks) (report version w n.id s)
    (λ (x : Task) e. given-unless (λ (d : Reply × World). Moves w d.1) _ _
    (λ ok. with-tables w _
    (move-any_task w.tables x.id _ (λ y h. moves-raised_to version w.tables.clock s y)))))

-- Any call.

pub call-answers : (version : ℕ) (w : World) (c : Call) → IsOrderly w → Answers w (answer version w c)
call-answers version w (call.Txn ops) is =
    given-if_not (λ (d : Reply × World). Moves w d.1) (nat_lt most_ops (length ops)) _ _
    (λ e. txn-answers w _ (ops-moves version w ops is))
call-answers version w (call.View asked) is = view-answers w (shows w.tables asked)
call-answers version w (call.WatchBegin f) is =
    given-unless (λ (d : Reply × World). Moves w d.1) _ _ (λ e. watcher-comes version w f)
call-answers version w (call.WatchPoll id) is = poll-answers version w id (row_at watcher_id id w.watchers)
call-answers version w (call.WatchFinish id) is = finish-answers w id (row_at watcher_id id w.watchers)
call-answers version w (call.Tick ms) is =
    given-unless (λ (d : Reply × World). Moves w d.1) _ _ (λ e. tick-moves w ms)
call-answers version w (call.Settle budget) is = same w
call-answers version w (call.NodeFail name) is = agent-answers w name _ (λ a. refl)
call-answers version w (call.NodeStart name) is = agent-answers w name _ (λ a. refl)
call-answers version w (call.AgentStop name) is = agent-answers w name _ (λ a. refl)
call-answers version w (call.AgentStart name) is = agent-answers w name _ (λ a. refl)
call-answers version w (call.RemoteBegin name cpu mem) is = begin-answers version w name cpu mem is
call-answers version w (call.RemoteBeat name session) is = beat-answers w name session
call-answers version w (call.RemotePull name session) is = pull-answers w name session is
call-answers version w (call.RemoteStatus name session task s) is = status-answers version w name session task s
call-answers version w call.Halt is = tables-moves w _ (tables-same w.tables) refl refl refl

answered-moves : (w : World) (given : Answered) → Answers w given → Moves w (answered w given).after
answered-moves w (Ok done) moves = entered-moves w done.1 moves
answered-moves w (Err r) moves = tables-moves w _ (tables-same w.tables) refl refl refl

pub call-moves : (w : World) (c : Call) → IsOrderly w → Moves w (call_outcome w c).after
call-moves w c is = answered-moves w (answer (w.entries + 1) w c) (call-answers (w.entries + 1) w c is)
