-- What the filters say of a node, whether it is tested or not.
use Rattle.std.specs.Prelude.{Bool, ◌&&◌}
use Rattle.swarm_objects.specs.Nodes.Filters.{admits, is_tested_on}
use Rattle.swarm_objects.specs.World.{Tables}
use Rattle.swarm_objects.specs.declared.nodes.Node.{Node}
use Rattle.swarm_objects.specs.declared.tasks.Task.{Task}

-- the node is tested, and admits the task
unfoldable pub is_open : Tables → Task → Node → Bool
is_open t x n = is_tested_on x.place n.id && admits t x n
