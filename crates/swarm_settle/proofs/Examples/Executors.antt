-- Executors that match, and executors that don't.
use Rattle.std.specs.Prelude.{Bool, List, [], false, refl, true, ◌∷◌, ◌≡◌}
use Rattle.std.specs.List.{list_all}
use Rattle.swarm_settle.proofs.Examples.Worlds.{executor, with_executors}
use Rattle.swarm_model.specs.Laws.Matches.{matches_agent, matches_world}
use Rattle.swarm_objects.proofs.Examples.Rows.{down_node, node, placed_task, replicas, tables}
use Rattle.swarm_objects.specs.World.{World, empty_world}
use Rattle.swarm_objects.specs.declared.agents.Executor.{Executor}
use Rattle.swarm_objects.specs.declared.nodes.Node.{Node}
use Rattle.swarm_objects.specs.declared.tasks.TaskState.{TaskState}
use Rattle.swarm_objects.specs.declared.tasks.TaskState.TheVariants as state

-- A modelled node: a task that was reported RUNNING, and these executors.

abbrev beside : List Executor → World
beside executors =
    with_executors executors (tables (node 1 ∷ []) (replicas 1 ∷ []) (placed_task 3 1 1 state.Running ∷ []))

it_runs : matches_world (beside (executor state.Running 3 ∷ [])) ≡ true
it_runs = refl

it_is_starting : matches_world (beside (executor state.Starting 3 ∷ [])) ≡ false
it_is_starting = refl

it_failed : matches_world (beside (executor state.Failed 3 ∷ [])) ≡ false
it_failed = refl

it_is_missing : matches_world (beside []) ≡ false
it_is_missing = refl

-- one that still starts for a task that was reported RUNNING is none that runs
abbrev agents_match : List Executor → Bool
agents_match executors = list_all (matches_agent (beside executors).tables) (beside executors).agents

agent_runs : agents_match (executor state.Running 3 ∷ []) ≡ true
agent_runs = refl

agent_is_starting : agents_match (executor state.Starting 3 ∷ []) ≡ false
agent_is_starting = refl

-- one for no task
another_runs : matches_world (beside (executor state.Running 3 ∷ executor state.Running 9 ∷ [])) ≡ false
another_runs = refl

another_is_starting : matches_world (beside (executor state.Running 3 ∷ executor state.Starting 9 ∷ [])) ≡ false
another_is_starting = refl

another_was_accepted : matches_world (beside (executor state.Running 3 ∷ executor state.Accepted 9 ∷ [])) ≡ false
another_was_accepted = refl

another_has_ended : matches_world (beside (executor state.Running 3 ∷ executor state.Shutdown 9 ∷ [])) ≡ true
another_has_ended = refl

-- A remote node: what was reported of the task decides, and there is no agent.

abbrev far_node : Node
far_node = record (node 1) { remote = true }

abbrev reported : Node → TaskState → World
reported n s = record empty_world { tables = tables (n ∷ []) (replicas 1 ∷ []) (placed_task 3 1 1 s ∷ []) }

reported_running : matches_world (reported far_node state.Running) ≡ true
reported_running = refl

reported_starting : matches_world (reported far_node state.Starting) ≡ false
reported_starting = refl

reported_failed : matches_world (reported far_node state.Failed) ≡ false
reported_failed = refl

-- a modelled one needs the executor
running_without_agent : matches_world (reported (node 1) state.Running) ≡ false
running_without_agent = refl

-- A node that is DOWN: of a service without replicas no task is there, and executors may run.

abbrev without_tasks : Node → World
without_tasks n = with_executors (executor state.Running 9 ∷ []) (tables (n ∷ []) (replicas 0 ∷ []) [])

runs_on_down : matches_world (without_tasks (down_node 1 0)) ≡ true
runs_on_down = refl

runs_for_none : matches_world (without_tasks (node 1)) ≡ false
runs_for_none = refl

-- but no place is met there
down_for_a_place : matches_world (reported (record (down_node 1 0) { remote = true }) state.Running) ≡ false
down_for_a_place = refl
