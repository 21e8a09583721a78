-- The agents of nodes, as contracts see them: as a world has them, but for times that no step looks at.
use Rattle.std.specs.Option.{option_map}
use Rattle.std.specs.Prelude.{Bool, Err, List, None, Ok, Option, Some, false, filter, map, nat_lt, true, ℕ, ◌≡◌}
use Rattle.std.specs.declared.result.Result.{Result}
use Rattle.swarm_agent.specs.Agent.{AgentState, at_node}
use Rattle.swarm_agent.specs.Times.{seen_agent}
use Rattle.swarm_agent.specs.declared.agent.ApplyFault.TheVariants as fault
use Rattle.swarm_agent.specs.declared.agent.ApplyFault.{ApplyFault}
use Rattle.swarm_objects.specs.Agents.Messages.{is_stale}
use Rattle.swarm_objects.specs.Loops.Agents.{take_in}
use Rattle.swarm_objects.specs.Rows.{agent_node, change_row, executor_task, is_some_and, on_row, row_at}
use Rattle.swarm_objects.specs.declared.agents.Executor.{Executor}
use Rattle.swarm_objects.specs.declared.agents.NodeAgent.{NodeAgent}

-- an agent of the map, with its node
abbrev pub agent_row : ℕ × AgentState → NodeAgent
agent_row e = seen_agent (at_node e.0 e.1)

-- the agent of the node changes so, in every world that has these agents
abbrev pub Changes : ℕ → (NodeAgent → NodeAgent) → List NodeAgent → List NodeAgent → Type 0
Changes node change before after =
    (agents : List NodeAgent) → before ≡ map seen_agent agents →
    after ≡ map seen_agent (change_row agent_node node change agents)

-- those of the nodes below this one
abbrev pub agents_below : ℕ → List NodeAgent → List NodeAgent
agents_below node agents = filter (λ a. nat_lt (agent_node a) node) agents

-- the executor of the task on the node
abbrev pub executor_on : ℕ → ℕ → List NodeAgent → Option Executor
executor_on node task agents =
    on_row None (λ a. row_at executor_task task a.executors) (row_at agent_node node agents)

-- Messages.

abbrev pub agent_applied : NodeAgent → ℕ
agent_applied a = a.applied

abbrev pub has_stale_on : ℕ → List NodeAgent → Bool
has_stale_on node agents =
    is_some_and (λ a. is_some_and (is_stale a.applied) a.inbox) (row_at agent_node node agents)

-- the message in the node's inbox is applied, or it is refused and nothing changes
abbrev pub AppliesOn : ℕ → List NodeAgent → Result Unit ApplyFault → List NodeAgent → Type 0
AppliesOn node before (Ok done) after =
    (has_stale_on node before ≡ false)
    × ((clock : ℕ) → Changes node (λ a. take_in clock a.inbox a) before after)
AppliesOn node before (Err (fault.Stale n)) after =
    (has_stale_on node before ≡ true)
    × (option_map agent_applied (row_at agent_node node before) ≡ Some n)
    × (after ≡ before)
AppliesOn node before (Err fault.NoMemory) after = (has_stale_on node before ≡ false) × (after ≡ before)
