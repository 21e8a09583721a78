-- The agents' duties, and what these do.
use Rattle.std.specs.Prelude.{Bool, false, true, nat_le, ◌+◌, None, Option, Some, nat_lt, not, ◌&&◌, is_some, ℕ, List, [], ◌∷◌, ◌++◌, if◌then◌else◌, flat_map, ◌*◌}
use Rattle.swarm_objects.specs.Agents.Executors.{executor_step}
use Rattle.swarm_objects.specs.Agents.Messages.{applied, message_for, with_sent, change_executor}
use Rattle.swarm_objects.specs.Changes.{with_tables, change_task, raised_to}
use Rattle.swarm_objects.specs.Loops.Words.{when, duty_where}
use Rattle.swarm_objects.specs.Nodes.Sessions.{session_of, is_session_live, registered}
use Rattle.swarm_objects.specs.Rows.{has_row, task_id, is_some_and, agent_node, change_row, sent_node, drop_row, session_node, on_row, executor_task, row_at}
use Rattle.swarm_objects.specs.Values.Ranks.{rank}
use Rattle.swarm_objects.specs.World.{Tables, World}
use Rattle.swarm_objects.specs.declared.agents.AgentMode.{AgentMode}
use Rattle.swarm_objects.specs.declared.agents.AgentMode.TheVariants as agent_mode
use Rattle.swarm_objects.specs.declared.agents.Executor.{Executor}
use Rattle.swarm_objects.specs.declared.agents.NodeAgent.{NodeAgent}
use Rattle.swarm_objects.specs.declared.duties.Duty.{Duty}
use Rattle.swarm_objects.specs.declared.duties.Duty.TheVariants as duty
use Rattle.swarm_objects.specs.declared.messages.Message.{Message}
use Rattle.swarm_objects.specs.declared.sessions.NodeSession.{NodeSession}
use Rattle.swarm_objects.specs.declared.tasks.TaskState.{TaskState}
use Rattle.swarm_objects.specs.declared.tasks.TaskState.TheVariants as state

abbrev pub is_mode_on : AgentMode → Bool
is_mode_on agent_mode.On = true
is_mode_on _ = false

-- the last beat is a heartbeat period ago
abbrev pub is_beat_due : Tables → NodeSession → Bool
is_beat_due t s = nat_le (s.session.beat + t.settings.heartbeat) t.clock

-- the executor's state is above the one that it reported
abbrev pub is_news : TaskState → Option TaskState → Bool
is_news s None = true
is_news s (Some told) = nat_lt (rank told) (rank s)

abbrev pub wants_report : Tables → Executor → Bool
wants_report t e = not e.gone && has_row task_id e.task t.tasks && is_news e.state e.reported

abbrev pub has_step : ℕ → Executor → Bool
has_step clock e = is_some (executor_step clock e)

-- gone and ended
abbrev pub is_forgotten : Executor → Bool
is_forgotten e = e.gone && nat_lt (rank state.Running) (rank e.state)

-- by kind, for a node with or without a live session
abbrev pub session_duties : World → NodeAgent → Bool → List Duty
session_duties w a true = when (is_some_and (is_beat_due w.tables) (session_of w.tables a.node)) (duty.Beat a.node)
session_duties w a false = duty.Register a.node ∷ []

-- the message in the inbox is applied; where there is none and one is there, it is pulled
abbrev pub inbox_duties : World → NodeAgent → Bool → Option Message → List Duty
inbox_duties w a live (Some m) = duty.Apply a.node ∷ []
inbox_duties w a live None = when (live && is_some (message_for w a.node)) (duty.Pull a.node)

abbrev pub report_duties : World → NodeAgent → Bool → List Duty
report_duties w a true = duty_where (wants_report w.tables) (λ e. duty.Report a.node e.task) a.executors
report_duties w a false = []

abbrev pub duties_on : World → NodeAgent → Bool → List Duty
duties_on w a live =
    session_duties w a live
    ++ inbox_duties w a live a.inbox
    ++ duty_where (has_step w.tables.clock) (λ e. duty.Exec a.node e.task) a.executors
    ++ report_duties w a live
    ++ duty_where is_forgotten (λ e. duty.Forget a.node e.task) a.executors

abbrev pub agent_duties : World → NodeAgent → List Duty
agent_duties w a = if is_mode_on a.mode then duties_on w a (is_session_live w.tables a.node) else []

abbrev pub agents : World → List Duty
agents w = flat_map (agent_duties w) w.agents

abbrev pub change_agent : ℕ → (NodeAgent → NodeAgent) → World → World
change_agent node change w = record w { agents = change_row agent_node node change w.agents }

abbrev pub change_executors : ℕ → (List Executor → List Executor) → World → World
change_executors node change w = change_agent node (λ a. record a { executors = change a.executors }) w

-- nothing was sent in a new session
abbrev pub without_sent : ℕ → World → World
without_sent node w = record w { sent = drop_row sent_node node w.sent }

-- the agent begins anew
abbrev pub begun : NodeAgent → NodeAgent
begun a = record a { inbox = None; applied = 0 }

abbrev pub after_register : ℕ → World → ℕ → World
after_register version w node =
    change_agent node begun (without_sent node (with_tables w (registered version w.tables node)))

-- the session lasts for three heartbeats from now
abbrev pub beaten : Tables → NodeSession → NodeSession
beaten t s = record s { session = record s.session { deadline = t.clock + 3 * t.settings.heartbeat; beat = t.clock } }

abbrev pub after_beat : Tables → ℕ → Tables
after_beat t node = record t { sessions = change_row session_node node (beaten t) t.sessions }

abbrev pub take_in : ℕ → Option Message → NodeAgent → NodeAgent
take_in clock None a = a
take_in clock (Some m) a = record a { inbox = None; applied = m.results_in; executors = applied clock m a.executors }

abbrev pub after_apply : World → ℕ → World
after_apply w node = change_agent node (λ a. take_in w.tables.clock a.inbox a) w

abbrev pub received : Message → NodeAgent → NodeAgent
received m a = record a { inbox = Some m }

abbrev pub after_pull : World → ℕ → Option Message → World
after_pull w node None = w
after_pull w node (Some m) = change_agent node (received m) (with_sent w node m)

abbrev pub stepped : ℕ → Executor → Executor
stepped clock e = on_row e (λ after. after) (executor_step clock e)

abbrev pub after_exec : World → ℕ → ℕ → World
after_exec w node task = change_executors node (change_executor task (stepped w.tables.clock)) w

abbrev pub executor_at : World → ℕ → ℕ → Option Executor
executor_at w node task = on_row None (λ a. row_at executor_task task a.executors) (row_at agent_node node w.agents)

abbrev pub told : Executor → Executor
told e = record e { reported = Some e.state }

abbrev pub reported_by : ℕ → World → Option Executor → Tables
reported_by version w None = w.tables
reported_by version w (Some e) = change_task e.task (raised_to version w.tables.clock e.state) w.tables

abbrev pub after_report : ℕ → World → ℕ → ℕ → World
after_report version w node task =
    change_executors node (change_executor task told) (with_tables w (reported_by version w (executor_at w node task)))

abbrev pub after_forget : World → ℕ → ℕ → World
after_forget w node task = change_executors node (drop_row executor_task task) w
