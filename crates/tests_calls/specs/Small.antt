-- A small world.
use Rattle.std.specs.Prelude.{◌≡◌, ℕ, List, [], ◌∷◌, true}
use Rattle.std.specs.List.{list_all}
use Rattle.swarm_objects.specs.Bounds.{is_near_node, is_near_task}
use Rattle.swarm_objects.specs.Rows.{IsBelow, RisesFrom, node_id, task_id}
use Rattle.swarm_objects.specs.World.{Tables, empty_tables}
use Rattle.swarm_objects.specs.declared.nodes.Node.{Node}
use Rattle.swarm_objects.specs.declared.services.Service.{Service}
use Rattle.swarm_objects.specs.declared.tasks.Task.{Task}

-- some nodes and a task
abbrev pub small_tables : ℕ → List Node → Task → Tables
small_tables now nodes x = record empty_tables {
  clock = now;
  next_id = 9;
  nodes = nodes;
  tasks = x ∷ [];
  settings = record { heartbeat = 5000; orphan = 1000; history = 5 };
}

-- a node, a service and tasks
abbrev pub many_tables : List Node → Service → List Task → Tables
many_tables nodes s xs = record empty_tables { next_id = 1008; nodes = nodes; services = s ∷ []; tasks = xs }

-- nodes that may stand in it
pub record AreNodes (ns : List Node) : Type 0 where
  pub rises : RisesFrom node_id 0 ns
  pub below : IsBelow node_id 9 ns
  pub near : list_all is_near_node ns ≡ true

-- tasks that may stand in it, with ids below this one
pub record AreTasks (next : ℕ) (xs : List Task) : Type 0 where
  pub rises : RisesFrom task_id 0 xs
  pub below : IsBelow task_id next xs
  pub near : list_all is_near_task xs ≡ true
