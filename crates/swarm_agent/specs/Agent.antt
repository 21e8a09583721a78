-- What an agent has, and what its calls find and change.
use Rattle.std.specs.Prelude.{Bool, Err, List, None, Ok, Option, Some, false, find, flat_map, not, option_to_list, true, ℕ, ◌&&◌, ◌≡◌}
use Rattle.std.specs.Option.{option_map}
use Rattle.std.specs.Ordering.{nat_cmp, ordering_then}
use Rattle.std.specs.declared.cmp.Ordering.{Ordering}
use Rattle.std.specs.declared.result.Result.{Result}
use Rattle.swarm_agent.specs.declared.agent.ApplyFault.TheVariants as fault
use Rattle.swarm_agent.specs.declared.agent.ApplyFault.{ApplyFault}
use Rattle.swarm_objects.specs.Agents.Messages.{is_stale}
use Rattle.swarm_objects.specs.Agents.Executors.{phase_time}
use Rattle.swarm_objects.specs.Loops.Agents.{begun, has_step, is_forgotten, is_news, take_in}
use Rattle.swarm_objects.specs.Loops.Words.{duty_where}
use Rattle.swarm_objects.specs.declared.duties.Duty.TheVariants as duty
use Rattle.swarm_objects.specs.Rows.{executor_task, first_of, is_some_and, least_by, row_at, rows_above}
use Rattle.swarm_objects.specs.declared.agents.AgentMode.{AgentMode}
use Rattle.swarm_objects.specs.declared.agents.Executor.{Executor}
use Rattle.swarm_objects.specs.declared.agents.NodeAgent.{NodeAgent}
use Rattle.swarm_objects.specs.declared.messages.Message.{Message}
use Rattle.swarm_objects.specs.declared.tasks.TaskState.{TaskState}

pub record AgentState : Type 0 where
  -- under which it registered last; none before the first
  pub session : Option ℕ
  pub mode : AgentMode
  pub inbox : Option Message
  pub applied : ℕ
  -- by rising task
  pub executors : List Executor

-- as a world has it, for this node
abbrev pub at_node : ℕ → AgentState → NodeAgent
at_node node a = record { node = node; mode = a.mode; inbox = a.inbox; applied = a.applied; executors = a.executors }

-- after a change of a node's agent, which looks at no node
abbrev pub changed : (NodeAgent → NodeAgent) → AgentState → AgentState
changed change a =
    let after = change (at_node 0 a) in
    record a { mode = after.mode; inbox = after.inbox; applied = after.applied; executors = after.executors }

abbrev pub with_executors : (List Executor → List Executor) → AgentState → AgentState
with_executors change a = record a { executors = change a.executors }

abbrev pub registered : ℕ → AgentState → AgentState
registered session a = record (changed begun a) { session = Some session }

-- Messages.

abbrev pub has_stale : AgentState → Bool
has_stale a = is_some_and (is_stale a.applied) a.inbox

-- the message in the inbox is applied, or it is refused and nothing changes
abbrev pub Applies : AgentState → Result Unit ApplyFault → AgentState → Type 0
Applies before (Ok done) after = (has_stale before ≡ false) × (after ≡ changed (take_in 0 before.inbox) before)
Applies before (Err (fault.Stale n)) after = (has_stale before ≡ true) × (n ≡ before.applied) × (after ≡ before)
Applies before (Err fault.NoMemory) after = (has_stale before ≡ false) × (after ≡ before)

-- Executors.

abbrev pub executor_state : Executor → TaskState
executor_state e = e.state

-- the task of the first one that passes
abbrev pub first_task : (Executor → Bool) → List Executor → Option ℕ
first_task test executors = option_map executor_task (find test executors)

-- the task's executor is there and passes
abbrev pub passes : (Executor → Bool) → ℕ → AgentState → Bool
passes test task a = is_some_and test (row_at executor_task task a.executors)

abbrev pub has_news : Executor → Bool
has_news e = not e.gone && is_news e.state e.reported

abbrev pub news_of : Executor → ℕ × TaskState
news_of e = (e.task, e.state)

-- the first of those after this task that has news
abbrev pub news_after : ℕ → List Executor → Option (ℕ × TaskState)
news_after task executors = option_map news_of (find has_news (rows_above executor_task task executors))

-- Timed phases, each with its time and its task.

abbrev pub phase_of : Executor → Option (ℕ × ℕ)
phase_of e = option_map (λ time. (time, e.task)) (phase_time e)

abbrev pub phases : List Executor → List (ℕ × ℕ)
phases executors = flat_map (λ e. option_to_list (phase_of e)) executors

-- by time, then by task
abbrev pub phase_cmp : ℕ × ℕ → ℕ × ℕ → Ordering
phase_cmp a b = ordering_then (nat_cmp a.0 b.0) (nat_cmp a.1 b.1)

abbrev pub least_phase : List Executor → Option (ℕ × ℕ)
least_phase executors = least_by phase_cmp None (phases executors)

abbrev pub task_first : ℕ × ℕ → ℕ × ℕ
task_first phase = (phase.1, phase.0)

-- that of the first executor after this task
abbrev pub phase_after : ℕ → List Executor → Option (ℕ × ℕ)
phase_after task executors = option_map task_first (first_of (phases (rows_above executor_task task executors)))

-- what is found first is the first duty of its kind
pub record DutiesLaw : Type 0 where
  pub steps : (node clock : ℕ) (executors : List Executor) →
      first_of (duty_where (has_step clock) (λ (e : Executor). duty.Exec node e.task) executors)
      ≡ option_map (duty.Exec node) (first_task (has_step clock) executors)
  pub forgets : (node : ℕ) (executors : List Executor) →
      first_of (duty_where is_forgotten (λ (e : Executor). duty.Forget node e.task) executors)
      ≡ option_map (duty.Forget node) (first_task is_forgotten executors)
