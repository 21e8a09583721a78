-- What is waited for of remote nodes, node by node.
use Rattle.std.specs.Prelude.{List, [], filter, flat_map, if◌then◌else◌}
use Rattle.swarm_model.specs.Settle.{Wait, remote_wait}
use Rattle.swarm_objects.specs.Tasks.Words.{is_on}
use Rattle.swarm_objects.specs.World.{Tables}
use Rattle.swarm_objects.specs.declared.nodes.Node.{Node}

-- reports of the node's tasks, where it is remote
abbrev pub remote_waits_on : Tables → Node → List Wait
remote_waits_on t n = if n.remote then flat_map (remote_wait t) (filter (is_on n.id) t.tasks) else []
