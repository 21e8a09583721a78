-- Worlds with one modelled node, whose agent has executors.
use Rattle.std.specs.Prelude.{List, None, Some, [], false, map, ℕ, ◌∷◌}
use Rattle.swarm_objects.proofs.Examples.Rows.{node, tables, workload}
use Rattle.swarm_objects.specs.World.{Tables, World, empty_world}
use Rattle.swarm_objects.specs.declared.agents.AgentMode.TheVariants as agent_mode
use Rattle.swarm_objects.specs.declared.agents.Executor.{Executor}
use Rattle.swarm_objects.specs.declared.nodes.Node.{Node}
use Rattle.swarm_objects.specs.declared.services.Service.{Service}
use Rattle.swarm_objects.specs.declared.tasks.Desired.TheVariants as desired
use Rattle.swarm_objects.specs.declared.tasks.Task.{Task}
use Rattle.swarm_objects.specs.declared.tasks.TaskState.{TaskState}
use Rattle.swarm_objects.specs.declared.tasks.TaskState.TheVariants as state

-- the task's executor, which has reported its state
abbrev pub executor : TaskState → ℕ → Executor
executor s task = record {
  task = task;
  desired = desired.Running;
  workload = workload;
  state = s;
  since = 0;
  stopping = None;
  reported = Some s;
  gone = false;
}

-- the agent of node 1 has these executors
abbrev pub with_executors : List Executor → Tables → World
with_executors executors t = record empty_world {
  tables = t;
  agents = record { node = 1; mode = agent_mode.On; inbox = None; applied = 0; executors = executors } ∷ [];
}

-- every task has an executor on the node that runs
abbrev pub running_on : Node → Service → List Task → World
running_on n s tasks =
    with_executors (map (λ (x : Task). executor state.Running x.id) tasks) (tables (n ∷ []) (s ∷ []) tasks)

abbrev pub running : Service → List Task → World
running s tasks = running_on (node 1) s tasks
