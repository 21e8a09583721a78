-- What the filters say of a node, whether it is tested or not.
use Rattle.std.specs.Prelude.{ℕ, Bool, ◌&&◌}
use Rattle.swarm_objects.specs.Nodes.Filters.{admits, is_refused_by, is_tested_on}
use Rattle.swarm_objects.specs.World.{Tables}
use Rattle.swarm_objects.specs.declared.nodes.Node.{Node}
use Rattle.swarm_objects.specs.declared.tasks.Task.{Task}

-- the node is tested, and the filter with this number refuses it the task
unfoldable pub is_counted : Tables → Task → ℕ → Node → Bool
is_counted t x k n = is_tested_on x.place n.id && is_refused_by t x k n

-- the node is tested, and admits the task
unfoldable pub is_open : Tables → Task → Node → Bool
is_open t x n = is_tested_on x.place n.id && admits t x n
