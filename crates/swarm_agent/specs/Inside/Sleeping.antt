-- How long executors have nothing to do.
use Rattle.std.specs.Prelude.{IfSome, List, [], false, ℕ, ⊤, ◌-◌, ◌<◌, ◌^◌, ◌≡◌, ◌≤◌, ◌∷◌}
use Rattle.swarm_agent.specs.Inside.Saying.{unsaid}
use Rattle.swarm_objects.specs.Agents.Executors.{phase_time}
use Rattle.swarm_objects.specs.Loops.Agents.{has_step}
use Rattle.swarm_objects.specs.Rows.{IsRising, executor_task}
use Rattle.swarm_objects.specs.declared.agents.Executor.{Executor}

-- the time isn't after the end, nor is it the last one of all, which says that no end is to come
abbrev pub IsUntil : ℕ → ℕ → Type 0
IsUntil time ends = (time ≤ ends) × (time < 2 ^ 64 - 1)

-- it has no step before the time, and its timed phase doesn't end before it
pub record SleepsUntil (time : ℕ) (e : Executor) : Type 0 where
  pub steps : (clock : ℕ) → clock < time → has_step clock e ≡ false
  pub phase : IfSome (phase_time e) (IsUntil time)

-- so does each of them
abbrev pub AllSleepUntil : ℕ → List Executor → Type 0
AllSleepUntil time [] = ⊤
AllSleepUntil time (e ∷ es) = SleepsUntil time e × AllSleepUntil time es

-- executors by rising task, with a time until which they sleep, and how many of them have something to say
pub record AreKept (es : List Executor) (wakes count : ℕ) : Type 0 where
  pub rising : IsRising executor_task es
  pub sleeping : AllSleepUntil wakes es
  pub said : unsaid es ≡ count
