-- Executors that have something to say.
use Rattle.std.specs.Prelude.{Bool, List, count_by, ℕ, ◌||◌}
use Rattle.swarm_agent.specs.Agent.{has_news}
use Rattle.swarm_objects.specs.Loops.Agents.{is_forgotten}
use Rattle.swarm_objects.specs.declared.agents.Executor.{Executor}

-- it has news, or it is to be forgotten
abbrev pub is_unsaid : Executor → Bool
is_unsaid e = has_news e || is_forgotten e

-- how many of them are so
abbrev pub unsaid : List Executor → ℕ
unsaid es = count_by is_unsaid es
