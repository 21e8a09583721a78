-- An executor that is looked for.
use Rattle.std.specs.Prelude.{ℕ, ◌==◌, None, Option, Some, if◌then◌else◌}
use Rattle.swarm_objects.specs.declared.agents.Executor.{Executor}

-- the executor, where it is the task's
abbrev pub of_task : ℕ → Option Executor → Option Executor
of_task task None = None
of_task task (Some e) = if e.task == task then Some e else None
