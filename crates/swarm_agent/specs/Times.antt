-- The times of executors that a step looks at.
use Rattle.std.specs.Option.{option_map}
use Rattle.std.specs.Prelude.{Bool, List, false, if◌then◌else◌, map, true, ℕ, ◌≡◌}
use Rattle.swarm_agent.specs.Agent.{has_news}
use Rattle.swarm_objects.specs.Agents.NodeAgents.{failed_agent, in_mode, started_agent}
use Rattle.swarm_objects.specs.Agents.Executors.{phase_time}
use Rattle.swarm_objects.specs.Agents.Messages.{change_executor}
use Rattle.swarm_objects.specs.Loops.Agents.{agent_duties, begun, has_step, is_forgotten, received, stepped, take_in, told}
use Rattle.swarm_objects.specs.Rows.{drop_row, executor_task, has_row, row_at}
use Rattle.swarm_objects.specs.World.{World}
use Rattle.swarm_objects.specs.declared.agents.AgentMode.{AgentMode}
use Rattle.swarm_objects.specs.declared.agents.Executor.{Executor}
use Rattle.swarm_objects.specs.declared.agents.NodeAgent.{NodeAgent}
use Rattle.swarm_objects.specs.declared.messages.Message.{Message}
use Rattle.swarm_objects.specs.declared.tasks.TaskState.{TaskState}
use Rattle.swarm_objects.specs.declared.tasks.TaskState.TheVariants as state

-- steps from this state may wait for a time since the last one
abbrev pub is_timed : TaskState → Bool
is_timed state.Preparing = true
is_timed state.Starting = true
is_timed state.Running = true
is_timed _ = false

-- the executor with 0 for a time that no step looks at
abbrev pub seen : Executor → Executor
seen e = if is_timed e.state then e else record e { since = 0 }

-- a change of its executors
abbrev pub on_executors : (List Executor → List Executor) → NodeAgent → NodeAgent
on_executors change a = record a { executors = change a.executors }

abbrev pub seen_agent : NodeAgent → NodeAgent
seen_agent a = record a { executors = map seen a.executors }

-- such times change nothing else: not what is found, due and waited for, and not what any step, message or fault makes
pub record TimesLaw : Type 0 where
  pub task : (e : Executor) → (seen e).task ≡ e.task
  pub state : (e : Executor) → (seen e).state ≡ e.state
  pub due : (clock : ℕ) (e : Executor) → has_step clock (seen e) ≡ has_step clock e
  pub news : (e : Executor) → has_news (seen e) ≡ has_news e
  pub forgotten : (e : Executor) → is_forgotten (seen e) ≡ is_forgotten e
  pub phase : (e : Executor) → phase_time (seen e) ≡ phase_time e
  pub step : (clock : ℕ) (e : Executor) → seen (stepped clock (seen e)) ≡ seen (stepped clock e)
  pub report : (e : Executor) → seen (told (seen e)) ≡ seen (told e)
  -- executors by their task
  pub found : (task : ℕ) (es : List Executor) →
      row_at executor_task task (map seen es) ≡ option_map seen (row_at executor_task task es)
  pub there : (task : ℕ) (es : List Executor) →
      has_row executor_task task (map seen es) ≡ has_row executor_task task es
  pub exec : (clock task : ℕ) (a : NodeAgent) →
      seen_agent (on_executors (change_executor task (stepped clock)) (seen_agent a))
      ≡ seen_agent (on_executors (change_executor task (stepped clock)) a)
  pub tell : (task : ℕ) (a : NodeAgent) →
      seen_agent (on_executors (change_executor task told) (seen_agent a))
      ≡ seen_agent (on_executors (change_executor task told) a)
  pub forget : (task : ℕ) (a : NodeAgent) →
      seen_agent (on_executors (drop_row executor_task task) a)
      ≡ on_executors (drop_row executor_task task) (seen_agent a)
  -- agents
  pub duties : (w : World) (a : NodeAgent) → agent_duties w (seen_agent a) ≡ agent_duties w a
  pub begin : (a : NodeAgent) → seen_agent (begun a) ≡ begun (seen_agent a)
  pub receive : (m : Message) (a : NodeAgent) → seen_agent (received m a) ≡ received m (seen_agent a)
  pub apply : (clock : ℕ) (a : NodeAgent) →
      seen_agent (take_in clock a.inbox a) ≡ take_in 0 a.inbox (seen_agent a)
  pub fail : (clock : ℕ) (a : NodeAgent) → seen_agent (failed_agent clock a) ≡ failed_agent 0 (seen_agent a)
  pub power : (a : NodeAgent) → seen_agent (started_agent a) ≡ started_agent (seen_agent a)
  pub mode : (change : AgentMode → AgentMode) (a : NodeAgent) →
      seen_agent (in_mode change a) ≡ in_mode change (seen_agent a)
