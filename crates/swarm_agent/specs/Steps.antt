-- What an executor does next.
use Rattle.std.specs.Prelude.{if◌then◌else◌, nat_le, ℕ, None, Option, Some}
use Rattle.swarm_agent.specs.declared.steps.Step.{Step}
use Rattle.swarm_agent.specs.declared.steps.Step.TheVariants as step
use Rattle.swarm_objects.specs.Agents.Executors.{moved, stopped_at}
use Rattle.swarm_objects.specs.declared.agents.Executor.{Executor}

-- the executor after the step
abbrev pub taken : ℕ → Executor → Step → Executor
taken clock e (step.Move s) = moved clock s e
taken clock e step.Stop = stopped_at clock e

-- the step, once its time has come
abbrev pub at_time : ℕ → ℕ → Step → Option Step
at_time clock time s = if nat_le time clock then Some s else None
