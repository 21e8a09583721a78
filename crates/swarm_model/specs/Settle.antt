-- The settle test: a duty, or what is waited for, held or paused, or else that all is settled.
use Rattle.std.specs.Prelude.{ℕ, Bool, List, [], false, true, ◌∷◌, None, Option, Some, nat_lt, ◌&&◌, filter, flat_map, map, ◌+◌, if◌then◌else◌, not, ◌++◌, find, option_to_list}
use Rattle.std.specs.List.{list_any}
use Rattle.std.specs.Option.{option_map}
use Rattle.std.specs.Ordering.{nat_cmp, ordering_then}
use Rattle.std.specs.declared.cmp.Ordering.{Ordering}
use Rattle.swarm_objects.specs.Agents.Executors.{phase_time}
use Rattle.swarm_objects.specs.Duties.{first_duty}
use Rattle.swarm_objects.specs.Kinds.{roles}
use Rattle.swarm_objects.specs.Loops.Agents.{is_mode_on}
use Rattle.swarm_objects.specs.Loops.Update.{is_to_replace, is_watched}
use Rattle.swarm_objects.specs.Nodes.Sessions.{session_of, is_session_live}
use Rattle.swarm_objects.specs.Nodes.Words.{is_ready, is_node_and}
use Rattle.swarm_objects.specs.Rows.{least_by, on_row, is_row_and, agent_node, is_some_and, first_of}
use Rattle.swarm_objects.specs.Services.Runs.{flying_tasks, has_room, is_under_way, has_open_run, is_of_version}
use Rattle.swarm_objects.specs.Services.Words.{is_live_clean}
use Rattle.swarm_objects.specs.Tasks.Places.{place_numbers, has_dirty_place}
use Rattle.swarm_objects.specs.Tasks.Words.{is_to_wait, is_live, is_running, is_placed, is_below_running, is_of}
use Rattle.swarm_objects.specs.Values.Ranks.{rank}
use Rattle.swarm_objects.specs.World.{Tables, World}
use Rattle.swarm_objects.specs.declared.agents.Executor.{Executor}
use Rattle.swarm_objects.specs.declared.agents.NodeAgent.{NodeAgent}
use Rattle.swarm_objects.specs.declared.duties.Cause.{Cause}
use Rattle.swarm_objects.specs.declared.duties.Cause.TheVariants as cause
use Rattle.swarm_objects.specs.declared.duties.Settle.{Settle}
use Rattle.swarm_objects.specs.declared.duties.Settle.TheVariants as settle
use Rattle.swarm_objects.specs.declared.nodes.Node.{Node}
use Rattle.swarm_objects.specs.declared.services.Replaced.{Replaced}
use Rattle.swarm_objects.specs.declared.services.RunStatus.{RunStatus}
use Rattle.swarm_objects.specs.declared.services.RunStatus.TheVariants as status
use Rattle.swarm_objects.specs.declared.services.Service.{Service}
use Rattle.swarm_objects.specs.declared.services.UpdateRun.{UpdateRun}
use Rattle.swarm_objects.specs.declared.sessions.NodeSession.{NodeSession}
use Rattle.swarm_objects.specs.declared.tasks.Desired.{Desired}
use Rattle.swarm_objects.specs.declared.tasks.Desired.TheVariants as desired
use Rattle.swarm_objects.specs.declared.tasks.Task.{Task}
use Rattle.swarm_objects.specs.declared.tasks.TaskState.{TaskState}
use Rattle.swarm_objects.specs.declared.tasks.TaskState.TheVariants as state

-- what is waited for, until when
pub record Wait : Type 0 where
  pub time : ℕ
  pub cause : Cause
  pub id : ℕ

abbrev pub cause_number : Cause → ℕ
cause_number cause.Start = 0
cause_number cause.Update = 1
cause_number cause.Executor = 2
cause_number cause.Session = 3
cause_number cause.Remote = 4

-- by time, then cause, then id
abbrev pub wait_cmp : Wait → Wait → Ordering
wait_cmp a b =
    ordering_then (nat_cmp a.time b.time)
    (ordering_then (nat_cmp (cause_number a.cause) (cause_number b.cause)) (nat_cmp a.id b.id))

abbrev pub wait : Cause → ℕ → ℕ → Wait
wait why id time = record { time = time; cause = why; id = id }

abbrev pub wait_where : Bool → Cause → ℕ → ℕ → List Wait
wait_where true why id time = wait why id time ∷ []
wait_where false why id time = []

-- the least of the times
abbrev pub least_time : List ℕ → Option ℕ
least_time times = least_by nat_cmp None times

abbrev pub wait_till : Cause → ℕ → Option ℕ → List Wait
wait_till why id None = []
wait_till why id (Some time) = wait why id time ∷ []

-- Tasks that wait to be raised.

abbrev pub start_wait : Tables → Task → List Wait
start_wait t x = wait_where (is_live x && is_to_wait x && nat_lt t.clock x.raise_at) cause.Start x.id x.raise_at

-- Updates.

abbrev pub has_waiting_place : Tables → Service → Bool
has_waiting_place t s = list_any (is_to_replace t s) (place_numbers t s)

-- when the places in flight whose task runs cease to be that
abbrev pub flight_times : Tables → Service → UpdateRun → List ℕ
flight_times t s run =
    map (λ x. x.since + s.spec.update.delay) (filter is_running (flat_map (flying_tasks t s) run.replaced))

-- a place that is to be replaced is held back by parallelism
abbrev pub flight_wait : Tables → Service → UpdateRun → List Wait
flight_wait t s run =
    if has_waiting_place t s && not (has_room t s run)
    then wait_till cause.Update s.id (least_time (flight_times t s run)) else []

-- when the watching of new tasks ends, of those for which that isn't reached
abbrev pub watch_times : Tables → Service → UpdateRun → List ℕ
watch_times t s run =
    map (λ (i : Replaced). i.created + s.spec.update.monitor) (filter (λ i. not (is_watched t s i)) run.replaced)

abbrev pub watch_wait : Tables → Service → UpdateRun → List Wait
watch_wait t s run = if has_dirty_place t s then [] else wait_till cause.Update s.id (least_time (watch_times t s run))

abbrev pub run_wait : Tables → Service → UpdateRun → List Wait
run_wait t s run = if is_under_way run then flight_wait t s run ++ watch_wait t s run else []

abbrev pub update_wait : Tables → Service → List Wait
update_wait t s = on_row [] (run_wait t s) s.run

-- Executors and sessions.

abbrev pub phase_wait : Executor → List Wait
phase_wait e = wait_till cause.Executor e.task (phase_time e)

abbrev pub executor_wait : NodeAgent → List Wait
executor_wait a = if is_mode_on a.mode then flat_map phase_wait a.executors else []

abbrev pub deadline_of : Tables → ℕ → Option ℕ
deadline_of t node = option_map (λ (s : NodeSession). s.session.deadline) (session_of t node)

-- the agent of the READY node isn't On
abbrev pub is_silent : World → Node → Bool
is_silent w n = is_ready n.state && not n.remote && is_row_and agent_node (λ a. not (is_mode_on a.mode)) w.agents n.id

abbrev pub session_wait : World → Node → List Wait
session_wait w n = if is_silent w n then wait_till cause.Session n.id (deadline_of w.tables n.id) else []

-- Remote nodes.

abbrev pub is_remote : Node → Bool
is_remote n = n.remote

-- the state that a remote node has still to report, given what is wanted
abbrev pub is_behind : TaskState → Desired → Bool
is_behind s desired.Ready = nat_lt (rank s) (rank state.Ready)
is_behind s desired.Running = nat_lt (rank s) (rank state.Running)
is_behind s desired.Complete = nat_lt (rank s) (rank state.Running)
is_behind s desired.Shutdown = true
is_behind s desired.Remove = true

abbrev pub has_live_session : Tables → Task → Bool
has_live_session t x = is_some_and (is_session_live t) x.node

abbrev pub is_awaited_there : Tables → Task → Bool
is_awaited_there t x = is_placed x && is_node_and t is_remote x && has_live_session t x && is_behind x.state x.desired

abbrev pub node_deadline : Tables → Task → Option ℕ
node_deadline t x = on_row None (deadline_of t) x.node

abbrev pub remote_wait : Tables → Task → List Wait
remote_wait t x = if is_awaited_there t x then wait_till cause.Remote x.id (node_deadline t x) else []

abbrev pub waits : World → List Wait
waits w =
    flat_map (start_wait w.tables) w.tables.tasks
    ++ flat_map (update_wait w.tables) w.tables.services
    ++ flat_map executor_wait w.agents
    ++ flat_map (session_wait w) w.tables.nodes
    ++ flat_map (remote_wait w.tables) w.tables.tasks

abbrev pub first_wait : World → Option Wait
first_wait w = least_by wait_cmp None (waits w)

-- Updates that are held or paused.

abbrev pub is_holding : Service → Task → Bool
is_holding s x = is_of s.id x && is_live_clean s x && is_below_running x

abbrev pub held_answer : ℕ → Task → Settle
held_answer s x = settle.Held s x.id

-- the least live clean task below RUNNING of a service with a run under way
abbrev pub held_by : Tables → Service → List Settle
held_by t s =
    if has_open_run s then option_to_list (option_map (held_answer s.id) (find (is_holding s) t.tasks)) else []

abbrev pub is_paused_status : RunStatus → Bool
is_paused_status status.Paused = true
is_paused_status status.RollbackPaused = true
is_paused_status _ = false

abbrev pub is_paused : Service → Bool
is_paused s = is_some_and (λ run. is_paused_status run.status && is_of_version s run) s.run

abbrev pub paused_by : Service → List Settle
paused_by s = if is_paused s then settle.Paused s.id ∷ [] else []

-- The answer.

abbrev pub waiting_answer : Option Wait → List Settle
waiting_answer None = []
waiting_answer (Some x) = settle.Waiting x.time x.cause x.id ∷ []

-- what is answered where no role has a duty
abbrev pub idle_answers : World → List Settle
idle_answers w =
    waiting_answer (first_wait w)
    ++ flat_map (held_by w.tables) w.tables.services
    ++ flat_map paused_by w.tables.services
    ++ settle.Settled ∷ []

abbrev pub idle_answer : World → Settle
idle_answer w = on_row settle.Settled (λ a. a) (first_of (idle_answers w))

abbrev pub settle_answer : World → Settle
settle_answer w = elim (first_duty w roles) [ Some d ↦ settle.Busy d | None ↦ idle_answer w ]
