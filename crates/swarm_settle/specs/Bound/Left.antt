-- What each row still has before it at one time, as a number that the duties on it make smaller.
use Rattle.std.specs.Prelude.{Bool, None, Option, Some, count_by, false, filter, is_none, is_some, length, not, sum_by, true, ℕ, ◌&&◌, ◌*◌, ◌+◌}
use Rattle.swarm_objects.specs.Agents.Messages.{message_for, sent_of}
use Rattle.swarm_objects.specs.Kinds.{bit}
use Rattle.swarm_objects.specs.Loops.Agents.{is_beat_due, is_news}
use Rattle.swarm_objects.specs.Loops.Dispatcher.{is_expired}
use Rattle.swarm_objects.specs.Nodes.Sessions.{is_session_live, session_of}
use Rattle.swarm_objects.specs.Rows.{agent_node, executor_task, has_row, is_row_and, is_some_and, on_row, task_id}
use Rattle.swarm_objects.specs.Services.Ports.{is_unnumbered, ports_of, unnumbered_ports}
use Rattle.swarm_objects.specs.Services.Runs.{has_open_run, is_of_version}
use Rattle.swarm_objects.specs.Services.Words.{is_job}
use Rattle.swarm_objects.specs.Tasks.Words.{is_below_assigned}
use Rattle.swarm_objects.specs.World.{Tables, World}
use Rattle.swarm_objects.specs.declared.agents.Executor.{Executor}
use Rattle.swarm_objects.specs.declared.agents.NodeAgent.{NodeAgent}
use Rattle.swarm_objects.specs.declared.messages.AssignChange.TheVariants as assign
use Rattle.swarm_objects.specs.declared.messages.AssignChange.{AssignChange}
use Rattle.swarm_objects.specs.declared.messages.Message.{Message}
use Rattle.swarm_objects.specs.declared.nodes.Node.{Node}
use Rattle.swarm_objects.specs.declared.services.Service.{Service}
use Rattle.swarm_objects.specs.declared.tasks.Desired.TheVariants as desired
use Rattle.swarm_objects.specs.declared.tasks.Desired.{Desired}
use Rattle.swarm_objects.specs.declared.tasks.Task.{Task}
use Rattle.swarm_objects.specs.declared.tasks.TaskState.TheVariants as state
use Rattle.swarm_objects.specs.declared.tasks.TaskState.{TaskState}

-- Tasks.

-- the states above this one
abbrev pub states_left : TaskState → ℕ
states_left state.New = 13
states_left state.Pending = 12
states_left state.Assigned = 11
states_left state.Accepted = 10
states_left state.Preparing = 9
states_left state.Ready = 8
states_left state.Starting = 7
states_left state.Running = 6
states_left state.Complete = 5
states_left state.Shutdown = 4
states_left state.Failed = 3
states_left state.Rejected = 2
states_left state.Remove = 1
states_left state.Orphaned = 0

-- what else may be wanted of it, above this
abbrev pub wishes_left : Desired → ℕ
wishes_left desired.Ready = 4
wishes_left desired.Running = 3
wishes_left desired.Complete = 2
wishes_left desired.Shutdown = 1
wishes_left desired.Remove = 0

-- it has a node, whose session isn't live
abbrev pub is_cut_off : Tables → Task → Bool
is_cut_off t x = is_some_and (λ n. not (is_session_live t n)) x.node

-- the agent of the node has an executor of the task
abbrev pub executes : ℕ → NodeAgent → Bool
executes task a = has_row executor_task task a.executors

-- its node has an executor of it
abbrev pub has_executor : World → Task → Bool
has_executor w x = is_some_and (is_row_and agent_node (executes x.id) w.agents) x.node

-- each thing that is wanted, and the removal, is a duty, and is sent and applied; an executor's life may be before it
abbrev pub task_left : World → Task → ℕ
task_left w x =
    states_left x.state + 3 * wishes_left x.desired + 3
    + 2 * bit (is_below_assigned x) + 2 * bit (is_cut_off w.tables x) + 14 * bit (not (has_executor w x))

-- Executors.

-- the steps before it in this state, where it isn't stopping, or is
abbrev pub steps_left : Option ℕ → TaskState → ℕ
steps_left stopping state.Accepted = 6
steps_left stopping state.Preparing = 5
steps_left stopping state.Ready = 4
steps_left None state.Starting = 3
steps_left None state.Running = 2
steps_left (Some time) state.Starting = 1
steps_left (Some time) state.Running = 1
steps_left stopping _ = 0

-- each step may be reported; at last it is forgotten
abbrev pub executor_left : Executor → ℕ
executor_left e = 2 * steps_left e.stopping e.state + bit (is_news e.state e.reported) + 1

-- Messages.

-- an update of a task that has neither a row nor an executor there
abbrev pub brings : World → NodeAgent → AssignChange → Bool
brings w a (assign.Update i) = not (has_row task_id i.task w.tables.tasks) && not (executes i.task a)
brings w a (assign.Remove task) = false

-- the message in the inbox is applied, and may bring executors
abbrev pub inbox_left : World → NodeAgent → ℕ
inbox_left w a = on_row 0 (λ (m : Message). 1 + 14 * count_by (brings w a) m.changes) a.inbox

-- the changes that the node is to be sent
abbrev pub changes_due : World → ℕ → ℕ
changes_due w node = on_row 0 (λ (m : Message). length m.changes) (message_for w node)

-- each change, and the first message, is pulled and applied
abbrev pub message_left : World → ℕ → ℕ
message_left w node = 2 * changes_due w node + 2 * bit (is_none (sent_of w node))

abbrev pub agent_left : World → NodeAgent → ℕ
agent_left w a = sum_by executor_left a.executors + inbox_left w a + message_left w a.node

-- Nodes.

-- the node's session is live and its beat is due
abbrev pub is_to_beat : Tables → Node → Bool
is_to_beat t n = is_session_live t n.id && is_some_and (is_beat_due t) (session_of t n.id)

-- it may expire, register and be sent its first message; it beats once
abbrev pub node_left : Tables → Node → ℕ
node_left t n = bit (is_expired t n) + 3 * bit (not (is_session_live t n.id)) + bit (is_to_beat t n)

-- Services.

-- a run ends, one begins and ends, and the service goes back once
abbrev pub runs_left : Service → Bool → ℕ
runs_left s true = 0
runs_left s false =
    bit (has_open_run s) + 2 * bit (not (is_some_and (is_of_version s) s.run)) + bit (is_some s.previous)

-- the ports of the previous specification that have no number
abbrev pub unnumbered_before : Service → ℕ
unnumbered_before s = length (filter (is_unnumbered s) (ports_of s.previous))

abbrev pub service_left : Service → ℕ
service_left s = runs_left s (is_job s.spec.mode) + length (unnumbered_ports s) + unnumbered_before s
