-- Whether one agent has a duty, and how one agent changes.
use Rattle.std.specs.Prelude.{Bool, ◌&&◌, ◌==◌, is_none, is_some, List, None, not, ℕ}
use Rattle.std.specs.List.{list_any}
use Rattle.swarm_objects.specs.Agents.Messages.{message_for}
use Rattle.swarm_objects.specs.Loops.Agents.{has_step, is_beat_due, is_forgotten, is_mode_on, wants_report}
use Rattle.swarm_objects.specs.Nodes.Sessions.{is_session_live, session_of}
use Rattle.swarm_objects.specs.Rows.{is_some_and}
use Rattle.swarm_objects.specs.World.{Tables, World}
use Rattle.swarm_objects.specs.declared.agents.Executor.{Executor}
use Rattle.swarm_objects.specs.declared.agents.NodeAgent.{NodeAgent}

-- it is the agent of this node, and is on
abbrev pub is_active : ℕ → NodeAgent → Bool
is_active node a = a.node == node && is_mode_on a.mode

-- one of the executors is of this task, and passes the test
abbrev pub has_executor : (Executor → Bool) → ℕ → List Executor → Bool
has_executor test task executors = list_any (λ e. e.task == task && test e) executors

abbrev pub registers : Tables → ℕ → NodeAgent → Bool
registers t node a = is_active node a && not (is_session_live t a.node)

abbrev pub beats : Tables → ℕ → NodeAgent → Bool
beats t node a =
    is_active node a && is_session_live t a.node && is_some_and (is_beat_due t) (session_of t a.node)

abbrev pub takes_in : ℕ → NodeAgent → Bool
takes_in node a = is_active node a && is_some a.inbox

abbrev pub pulls : World → ℕ → NodeAgent → Bool
pulls w node a =
    is_active node a && is_none a.inbox && is_session_live w.tables a.node && is_some (message_for w a.node)

abbrev pub steps : ℕ → ℕ → ℕ → NodeAgent → Bool
steps clock node task a = is_active node a && has_executor (has_step clock) task a.executors

abbrev pub reports : Tables → ℕ → ℕ → NodeAgent → Bool
reports t node task a =
    is_active node a && is_session_live t a.node && has_executor (wants_report t) task a.executors

abbrev pub forgets : ℕ → ℕ → NodeAgent → Bool
forgets node task a = is_active node a && has_executor is_forgotten task a.executors

-- it has applied the message with this number, and has these executors
abbrev pub finished : ℕ → List Executor → NodeAgent → NodeAgent
finished number executors a = record a { inbox = None; applied = number; executors = executors }

abbrev pub with_executors : (List Executor → List Executor) → NodeAgent → NodeAgent
with_executors change a = record a { executors = change a.executors }
