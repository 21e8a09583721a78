-- Words on a node.
use Rattle.std.specs.Prelude.{Bool, true, false, not, ◌&&◌, ℕ, List}
use Rattle.std.specs.List.{list_all}
use Rattle.swarm_objects.specs.Nodes.Constraints.{meets}
use Rattle.swarm_objects.specs.Rows.{node_id, is_row_and, is_some_and}
use Rattle.swarm_objects.specs.World.{Tables}
use Rattle.swarm_objects.specs.declared.nodes.Availability.{Availability}
use Rattle.swarm_objects.specs.declared.nodes.Availability.TheVariants as availability
use Rattle.swarm_objects.specs.declared.nodes.Node.{Node}
use Rattle.swarm_objects.specs.declared.nodes.NodeState.{NodeState}
use Rattle.swarm_objects.specs.declared.nodes.NodeState.TheVariants as node_state
use Rattle.swarm_objects.specs.declared.tasks.Task.{Task}
use Rattle.swarm_objects.specs.declared.templates.Constraint.{Constraint}

abbrev pub is_ready : NodeState → Bool
is_ready node_state.Ready = true
is_ready _ = false

abbrev pub is_active : Availability → Bool
is_active availability.Active = true
is_active _ = false

abbrev pub is_down : NodeState → Bool
is_down node_state.Down = true
is_down _ = false

abbrev pub is_drain : Availability → Bool
is_drain availability.Drain = true
is_drain _ = false

abbrev pub is_pause : Availability → Bool
is_pause availability.Pause = true
is_pause _ = false

abbrev pub is_valid_node : Node → Bool
is_valid_node n = not (is_down n.state) && not (is_drain n.availability)

-- the node is there, neither DOWN nor on DRAIN
abbrev pub is_valid : Tables → ℕ → Bool
is_valid t node = is_row_and node_id is_valid_node t.nodes node

abbrev pub is_invalid : Tables → ℕ → Bool
is_invalid t node = not (is_valid t node)

-- the task has a node, and that isn't valid
abbrev pub is_astray : Tables → Task → Bool
is_astray t x = is_some_and (is_invalid t) x.node

-- the task has a node, and that is valid
abbrev pub is_homed : Tables → Task → Bool
is_homed t x = is_some_and (is_valid t) x.node

-- the test, of the task's node where it has one that is there
abbrev pub is_node_and : Tables → (Node → Bool) → Task → Bool
is_node_and t test x = is_some_and (is_row_and node_id test t.nodes) x.node

-- the node meets each of the constraints
abbrev pub meets_all : List Constraint → Node → Bool
meets_all constraints n = list_all (λ c. meets c n) constraints
