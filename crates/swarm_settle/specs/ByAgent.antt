-- What is waited for of executors and sessions, agent by agent.
use Rattle.std.specs.Prelude.{List, None, Option, Some, [], if◌then◌else◌, ◌++◌}
use Rattle.swarm_model.specs.Settle.{Wait, executor_wait, session_wait}
use Rattle.swarm_objects.specs.Loops.Agents.{is_mode_on}
use Rattle.swarm_objects.specs.Rows.{node_id, row_at}
use Rattle.swarm_objects.specs.World.{World}
use Rattle.swarm_objects.specs.declared.agents.NodeAgent.{NodeAgent}
use Rattle.swarm_objects.specs.declared.nodes.Node.{Node}

abbrev pub wait_of_row : World → Option Node → List Wait
wait_of_row w None = []
wait_of_row w (Some n) = session_wait w n

-- the session of the agent's node, where the agent isn't on
abbrev pub session_waits_of : World → NodeAgent → List Wait
session_waits_of w a = if is_mode_on a.mode then [] else wait_of_row w (row_at node_id a.node w.tables.nodes)

-- phases of the agent's executors, and that session
abbrev pub waits_at : World → NodeAgent → List Wait
waits_at w a = executor_wait a ++ session_waits_of w a
