-- Which rows are asked by the settle test: all that may be waited for, held or paused.
use Rattle.std.specs.Prelude.{Bool, IfSome, List, is_some, not, ◌||◌}
use Rattle.swarm_model.specs.Settle.{executor_wait, is_remote}
use Rattle.swarm_objects.specs.Loops.Agents.{is_mode_on}
use Rattle.swarm_objects.specs.Rows.{RisesFrom, agent_node, first_of, node_id, service_id}
use Rattle.swarm_objects.specs.World.{Tables}
use Rattle.swarm_objects.specs.declared.agents.NodeAgent.{NodeAgent}
use Rattle.swarm_settle.specs.declared.asked.Asked.{Asked}
use Rattle.swarm_spans.specs.Lines.{to_wait}
use Rattle.swarm_spans.specs.Spans.{Covers, CoversTasks}
use Rattle.swarm_spans.specs.Timed.{is_unfinished}
use Rattle.swarm_spans.specs.declared.span.Span.{Span}

-- the agent isn't on, or one of its executors has a phase to come
abbrev pub may_wait : NodeAgent → Bool
may_wait a = not (is_mode_on a.mode) || is_some (first_of (executor_wait a))

-- the agents stand by rising node, and each that may be waited for is in the span
pub record AreAgentsAsked (agents : List NodeAgent) (span : Span) : Type 0 where
  pub rise : RisesFrom agent_node 0 agents
  pub covers : Covers agent_node may_wait span agents

-- each row that may be waited for, held or paused is in its span
pub record AreAsked (t : Tables) (inside : List NodeAgent) (asked : Asked) : Type 0 where
  pub tasks : CoversTasks to_wait t asked.tasks
  pub updates : Covers service_id is_unfinished asked.updates t.services
  pub remotes : Covers node_id is_remote asked.remotes t.nodes
  pub agents : IfSome asked.agents (AreAgentsAsked inside)
