-- The node of a task.
use Rattle.std.specs.Prelude.{None, Option}
use Rattle.swarm_objects.specs.Rows.{node_id, on_row, row_at}
use Rattle.swarm_objects.specs.World.{Tables}
use Rattle.swarm_objects.specs.declared.nodes.Node.{Node}
use Rattle.swarm_objects.specs.declared.tasks.Task.{Task}

-- it, where the task has one that is there
abbrev pub node_of : Tables → Task → Option Node
node_of t x = on_row None (λ id. row_at node_id id t.nodes) x.node
