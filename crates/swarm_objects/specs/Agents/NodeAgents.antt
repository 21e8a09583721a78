-- The agent of a node that is inside: how it begins, and what faults make of it.
use Rattle.std.specs.Prelude.{None, [], if◌then◌else◌, map, ℕ}
use Rattle.swarm_objects.specs.Agents.Executors.{is_late, moved}
use Rattle.swarm_objects.specs.declared.agents.AgentMode.{AgentMode}
use Rattle.swarm_objects.specs.declared.agents.AgentMode.TheVariants as agent_mode
use Rattle.swarm_objects.specs.declared.agents.Executor.{Executor}
use Rattle.swarm_objects.specs.declared.agents.NodeAgent.{NodeAgent}
use Rattle.swarm_objects.specs.declared.tasks.TaskState.TheVariants as state

abbrev pub new_agent : ℕ → NodeAgent
new_agent node = record { node = node; mode = agent_mode.On; inbox = None; applied = 0; executors = [] }

-- a node that loses its power loses what starts or runs
abbrev pub lost : ℕ → Executor → Executor
lost clock e = if is_late e.state then moved clock state.Failed e else e

abbrev pub failed_agent : ℕ → NodeAgent → NodeAgent
failed_agent clock a = record a { mode = agent_mode.PowerOff; executors = map (lost clock) a.executors }

abbrev pub started_agent : NodeAgent → NodeAgent
started_agent a = record a { mode = agent_mode.On }

abbrev pub mode_after_stop : AgentMode → AgentMode
mode_after_stop agent_mode.On = agent_mode.AgentOff
mode_after_stop agent_mode.AgentOff = agent_mode.AgentOff
mode_after_stop agent_mode.PowerOff = agent_mode.PowerOff

abbrev pub mode_after_start : AgentMode → AgentMode
mode_after_start agent_mode.On = agent_mode.On
mode_after_start agent_mode.AgentOff = agent_mode.On
mode_after_start agent_mode.PowerOff = agent_mode.PowerOff

abbrev pub in_mode : (AgentMode → AgentMode) → NodeAgent → NodeAgent
in_mode change a = record a { mode = change a.mode }
