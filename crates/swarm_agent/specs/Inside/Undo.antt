-- Taking changes of executors back.
use Rattle.std.specs.Prelude.{List, None, Option, Some, [], ◌∷◌, ℕ}
use Rattle.swarm_agent.specs.declared.messages.Former.{Former}
use Rattle.swarm_objects.specs.Agents.Messages.{change_executor}
use Rattle.swarm_objects.specs.Rows.{drop_row, executor_task}
use Rattle.swarm_objects.specs.declared.agents.Executor.{Executor}

abbrev pub instead_of : ℕ → Option Executor → List Executor → List Executor
instead_of task None executors = drop_row executor_task task executors
instead_of task (Some e) executors = change_executor e.task (λ _. e) executors

-- the task has what it had
abbrev pub restored : Former → List Executor → List Executor
restored f executors = instead_of f.task f.executor executors

-- so each, the last one first
abbrev pub undone : List Former → List Executor → List Executor
undone [] executors = executors
undone (f ∷ fs) executors = restored f (undone fs executors)
