-- Every duty that may be done is a move.
use Rattle.std.proofs.Common.{◌+◌, ◌≡◌, ℕ, ◌<◌, ◌≤◌, Bool, true, refl, sym, subst, Option, Some, None}
use Rattle.std.specs.Prelude.{not, ◌==◌}
use Rattle.swarm_model.proofs.Base.IsDuty.{GoesTo, IsDuty, OfAgent}
use Rattle.swarm_model.proofs.Moves.Duties.{addressed-moves, dropped-moves, fail-moves, noted-moves, of-task, raised-moves, rejected-moves, replace-moves, restart-moves, swap-moves}
use Rattle.swarm_model.proofs.Moves.Ids.{Comes, comes-beside, in_tables, in_world, times_of}
use Rattle.swarm_model.proofs.Moves.Placing.{placed-moves}
use Rattle.swarm_model.proofs.Moves.Rows.{RisesBetween, between-change, between-filter, between-has, between-with_row, rows-stay}
use Rattle.swarm_model.proofs.Moves.Sessions.{beat-moves, register-moves}
use Rattle.swarm_model.proofs.Moves.Tables.{desired-most, move-any_task, move-drop, move-new, move-node, move-on_service, move-place_gone, move-service, moves-in_state, moves-raised_to, moves-wanted, rank-most}
use Rattle.swarm_model.proofs.Moves.Worlds.{AgentsRise, Any, IsOrderly, Moves, SameId, SentRise, TablesMove, Turns, moves-then, tables-same, turns-ids}
use Rattle.swarm_model.specs.Calls.{entered}
use Rattle.swarm_model.specs.History.{effect}
use Rattle.swarm_objects.specs.Agents.Messages.{due_set, message_for, with_sent}
use Rattle.swarm_objects.specs.Changes.{change_task, noted, on_task, placed, with_tables}
use Rattle.swarm_objects.specs.Duties.{effect_by}
use Rattle.swarm_objects.specs.Loops.Agents.{after_pull, begun, change_agent, executor_at, received, reported_by, take_in, without_sent}
use Rattle.swarm_objects.specs.Loops.Allocator.{exhausted_for, gets_address, give_port, port_number, with_addresses, with_exhausted, with_port}
use Rattle.swarm_objects.specs.Loops.Enforcer.{is_misplaced}
use Rattle.swarm_objects.specs.Loops.Restart.{raised, wants_raise}
use Rattle.swarm_objects.specs.Loops.Scheduler.{is_to_drop}
use Rattle.swarm_objects.specs.Loops.Update.{may_roll_back}
use Rattle.swarm_objects.specs.Rows.{agent_node, on_row, row_at, sent_node, task_id, watcher_id}
use Rattle.swarm_objects.specs.Services.Ports.{free_port}
use Rattle.swarm_objects.specs.World.{Tables, World}
use Rattle.swarm_objects.specs.declared.agents.Executor.{Executor}
use Rattle.swarm_objects.specs.declared.agents.NodeAgent.{NodeAgent}
use Rattle.swarm_objects.specs.declared.duties.Duty.{Duty}
use Rattle.swarm_objects.specs.declared.duties.Duty.TheVariants as duty
use Rattle.swarm_objects.specs.declared.messages.Message.{Message}
use Rattle.swarm_objects.specs.declared.tasks.Desired.TheVariants as desired
use Rattle.swarm_objects.specs.declared.tasks.Note.{Note}
use Rattle.swarm_objects.specs.declared.tasks.Task.{Task}
use Rattle.swarm_objects.specs.declared.tasks.TaskState.TheVariants as state
use Rattle.swarm_objects.specs.Nodes.Sessions.{registered}

-- the tables move, and watchers stay
pub beside-moves : (w v : World) → TablesMove w.tables v.tables → v.watchers ≡ w.watchers → (SentRise w → SentRise v) →
    (AgentsRise w → AgentsRise v) → Moves w v
beside-moves w v tables same sent agents = record {
  tables = tables;
  watchers = subst (λ xs. Turns watcher_id (SameId watcher_id) Any w.tables.next_id v.tables.next_id w.watchers xs)
      (sym same) (turns-ids w.watchers);
  sent = sent;
  agents = agents;
  ids = λ i.
      subst (λ xs. Comes w.tables.next_id v.tables.next_id i (in_world i w) (in_tables i v.tables + times_of watcher_id i xs)) (sym same)
      (comes-beside w.tables.next_id v.tables.next_id i _ _ (times_of watcher_id i w.watchers) (tables.ids i));
}

-- and so does all that stands beside them
pub tables-moves : (w v : World) → TablesMove w.tables v.tables → v.watchers ≡ w.watchers → v.sent ≡ w.sent →
    v.agents ≡ w.agents → Moves w v
tables-moves w v tables watchers sent agents =
    beside-moves w v tables watchers
    (λ rises. subst (λ xs. RisesBetween sent_node 1 v.tables.next_id xs) (sym sent)
    (rows-stay sent_node w.tables.next_id v.tables.next_id w.sent tables.next rises))
    (λ rises. subst (λ xs. RisesBetween agent_node 1 v.tables.next_id xs) (sym agents)
    (rows-stay agent_node w.tables.next_id v.tables.next_id w.agents tables.next rises))

-- the agent of a node changes, and stays the node's
pub agent-moves : (w : World) (t : Tables) (node : ℕ) (f : NodeAgent → NodeAgent) → TablesMove w.tables t →
    ((a : NodeAgent) → (f a).node ≡ a.node) → Moves w (change_agent node f (with_tables w t))
agent-moves w t node f tables same =
    beside-moves w (change_agent node f (with_tables w t)) tables refl
    (rows-stay sent_node w.tables.next_id t.next_id w.sent tables.next)
    (λ rises. between-change agent_node 1 t.next_id node f w.agents same
    (rows-stay agent_node w.tables.next_id t.next_id w.agents tables.next rises))

-- a node is sent a message
pub sent-moves : (w : World) (node : ℕ) (m : Message) → (1 ≤ node) × (node < w.tables.next_id) → Moves w
    (with_sent w node m)
sent-moves w node m is =
    beside-moves w (with_sent w node m) (tables-same w.tables) refl
    (λ rises. between-with_row sent_node 1 w.tables.next_id
    (record { node = node; count = m.results_in; tasks = due_set w.tables node }) w.sent is.0 is.1 rises)
    (λ rises. rises)

-- nothing was sent in a new session
pub begun-moves : (w : World) (t : Tables) (node : ℕ) → TablesMove w.tables t → Moves w
    (without_sent node (with_tables w t))
begun-moves w t node tables =
    beside-moves w (without_sent node (with_tables w t)) tables refl
    (λ rises. between-filter sent_node 1 t.next_id (λ s. not (sent_node s == node)) w.sent
    (rows-stay sent_node w.tables.next_id t.next_id w.sent tables.next rises))
    (rows-stay agent_node w.tables.next_id t.next_id w.agents tables.next)

-- the node of an agent has a number
agent-node : (w : World) (n : ℕ) (Fact : NodeAgent → Type 0) → AgentsRise w → OfAgent w n Fact →
    (1 ≤ n) × (n < w.tables.next_id)
agent-node w n Fact rises of =
    let is = between-has agent_node 1 w.tables.next_id w.agents of.row rises of.there in
    subst (λ (k : ℕ). (1 ≤ k) × (k < w.tables.next_id)) of.id_is is

port-moves : (version : ℕ) (t : Tables) (s target : ℕ) (udp : Bool) (number : Option ℕ) →
    TablesMove t (give_port version t s target udp number)
port-moves version t s target udp None = tables-same t
port-moves version t s target udp (Some number) =
    move-service t s (with_port version (port_number target udp number)) (λ v e. refl)

note-moves : (version : ℕ) (t : Tables) (id : ℕ) → TablesMove t (on_task t id (with_exhausted version t))
note-moves version t id = go (row_at task_id id t.tasks)
  where
    with_note : (x : Task) (o : Option Note) →
        TablesMove t (on_row t (λ n. change_task x.id (noted version n) t) o)
    with_note x None = tables-same t
    with_note x (Some n) = move-any_task t x.id _ (λ y h. noted-moves version n y)

    go : (o : Option Task) → TablesMove t (on_row t (with_exhausted version t) o)
    go None = tables-same t
    go (Some x) = with_note x (exhausted_for t x)

report-moves : (version : ℕ) (w : World) (e : Option Executor) → TablesMove w.tables (reported_by version w e)
report-moves version w None = tables-same w.tables
report-moves version w (Some e) =
    move-any_task w.tables e.task _ (λ x h. moves-raised_to version w.tables.clock e.state x)

pull-moves : (w : World) (node : ℕ) (m : Option Message) → (1 ≤ node) × (node < w.tables.next_id) → Moves w
    (after_pull w node m)
pull-moves w node None is = tables-moves w w (tables-same w.tables) refl refl refl
pull-moves w node (Some m) is =
    moves-then w (with_sent w node m) _ (sent-moves w node m is)
    (agent-moves (with_sent w node m) w.tables node (received m) (tables-same w.tables) (λ a. refl))

-- a message that is taken in leaves the agent its node's
pub taken-in : (clock : ℕ) (m : Option Message) (a : NodeAgent) → (take_in clock m a).node ≡ a.node
taken-in clock None a = refl
taken-in clock (Some m) a = refl

pub with-tables : (w : World) (t : Tables) → TablesMove w.tables t → Moves w (with_tables w t)
with-tables w t tables = tables-moves w (with_tables w t) tables refl refl refl

pub duty-moves : (version : ℕ) (w : World) (d : Duty) → IsOrderly w → IsDuty w d → Moves w (effect_by version w d)
duty-moves version w (duty.Expire n) is of = with-tables w _ (move-node w.tables n _ (λ m. refl))
duty-moves version w (duty.Orphan x) is of =
    with-tables w _ (move-any_task w.tables x _ (λ y h. moves-in_state version w.tables.clock state.Orphaned y
    (rank-most y.state)))
duty-moves version w (duty.Reject x) is of =
    with-tables w _ (of-task w.tables x (λ y. is_misplaced w.tables y ≡ true) _ is.tasks of
    (λ y h. rejected-moves version w.tables y))
duty-moves version w (duty.Restart x) is of = with-tables w _ (restart-moves version w.tables x is.tasks is.good of)
duty-moves version w (duty.Raise x) is of =
    with-tables w _ (of-task w.tables x (λ y. wants_raise w.tables y ≡ true) (raised version) is.tasks of
    (λ y h. raised-moves version w.tables y))
duty-moves version w (duty.Start s) is of =
    with-tables w _ (move-on_service w.tables s _ (λ v. move-service w.tables v.id _ (λ u e. refl)))
duty-moves version w (duty.Fail s) is of =
    with-tables w _ (move-on_service w.tables s _ (λ v. fail-moves version w.tables v (may_roll_back v) v.previous))
duty-moves version w (duty.Swap s k) is of =
    with-tables w _ (move-on_service w.tables s _ (λ v. swap-moves version w.tables k v is.good))
duty-moves version w (duty.Replace s k) is of =
    with-tables w _ (move-on_service w.tables s _ (λ v. replace-moves version w.tables k v is.good))
duty-moves version w (duty.Finish s) is of =
    with-tables w _ (move-on_service w.tables s _ (λ v. move-service w.tables v.id _ (λ u e. refl)))
duty-moves version w (duty.Gone x) is of =
    with-tables w _ (move-any_task w.tables x _ (λ y h. moves-wanted version desired.Remove y (desired-most y.desired)))
duty-moves version w (duty.Down s k) is of =
    with-tables w _ (move-on_service w.tables s _ (λ v. move-place_gone version w.tables v k))
duty-moves version w (duty.ReplicatedCreate s k) is of =
    with-tables w _ (move-on_service w.tables s _ (λ v. move-new version desired.Running w.tables v k))
duty-moves version w (duty.Leave s n) is of =
    with-tables w _ (move-on_service w.tables s _ (λ v. move-place_gone version w.tables v n))
duty-moves version w (duty.GlobalCreate s n) is of =
    with-tables w _ (move-on_service w.tables s _ (λ v. move-new version desired.Running w.tables v n))
duty-moves version w (duty.Old x) is of =
    with-tables w _ (move-any_task w.tables x _ (λ y h. moves-wanted version desired.Remove y (desired-most y.desired)))
duty-moves version w (duty.JobCreate s k) is of =
    with-tables w _ (move-on_service w.tables s _ (λ v. move-new version desired.Complete w.tables v k))
duty-moves version w (duty.Port s target udp) is of =
    with-tables w _ (port-moves version w.tables s target udp (free_port w.tables udp))
duty-moves version w (duty.Address x) is of =
    with-tables w _ (of-task w.tables x (λ y. gets_address w.tables y ≡ true)
    (with_addresses version w.tables) is.tasks of
    (λ y h. addressed-moves version w.tables y))
duty-moves version w (duty.Note x) is of = with-tables w _ (note-moves version w.tables x)
duty-moves version w (duty.Drop x) is of =
    with-tables w _ (of-task w.tables x (λ y. is_to_drop y ≡ true) _ is.tasks of
    (λ y h. dropped-moves version w.tables.clock y))
duty-moves version w (duty.Place x n) is of =
    with-tables w _ (of-task w.tables x (GoesTo w.tables n) (placed version w.tables.clock n) is.tasks of
    (λ y h goes. placed-moves version w.tables n y (is.good y h) goes))
duty-moves version w (duty.Explain x) is of =
    with-tables w _ (move-any_task w.tables x _ (λ y h. noted-moves version _ y))
duty-moves version w (duty.Delete x) is of = with-tables w _ (move-drop w.tables x)
duty-moves version w (duty.Trim x) is of = with-tables w _ (move-drop w.tables x)
duty-moves version w (duty.Register n) is of =
    let left = without_sent n (with_tables w (registered version w.tables n)) in
    moves-then w left _
    (begun-moves w (registered version w.tables n) n (register-moves version w.tables n
    (agent-node w n _ is.agents of)))
    (agent-moves left left.tables n begun (tables-same left.tables) (λ a. refl))
duty-moves version w (duty.Beat n) is of = with-tables w _ (beat-moves w.tables n)
duty-moves version w (duty.Apply n) is of =
    agent-moves w w.tables n (λ a. take_in w.tables.clock a.inbox a) (tables-same w.tables)
    (λ a. taken-in w.tables.clock a.inbox a)
duty-moves version w (duty.Pull n) is of = pull-moves w n (message_for w n) (agent-node w n _ is.agents of)
duty-moves version w (duty.Exec n x) is of = agent-moves w w.tables n _ (tables-same w.tables) (λ a. refl)
duty-moves version w (duty.Report n x) is of =
    agent-moves w _ n _ (report-moves version w (executor_at w n x)) (λ a. refl)
duty-moves version w (duty.Forget n x) is of = agent-moves w w.tables n _ (tables-same w.tables) (λ a. refl)

-- the entry counts as one
pub entered-moves : (w v : World) → Moves w v → Moves w (entered w v)
entered-moves w v m = record { tables = m.tables; watchers = m.watchers; sent = m.sent; agents = m.agents; ids = m.ids }

pub effect-moves : (w : World) (d : Duty) → IsOrderly w → IsDuty w d → Moves w (effect w d)
effect-moves w d is of = entered-moves w (effect_by _ w d) (duty-moves _ w d is of)
