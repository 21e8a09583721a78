use Rattle.std.proofs.Common.{drop, ℕ, ◌≤◌}
use Rattle.swarm_agent.specs.Inside.Sleeping.{AllSleepUntil}
use Rattle.swarm_agent.proofs.executors.least_wake.Given as goal

abbrev pub invariant-loop-executor : goal.invariant-loop-executor
invariant-loop-executor l =
    (time : ℕ) → time ≤ l.least → AllSleepUntil time (drop l.executor-index l.rows) → AllSleepUntil time l.rows
