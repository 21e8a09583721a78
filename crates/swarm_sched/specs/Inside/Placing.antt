-- How many live tasks nodes have, and which nodes come before the best one so far.
use Rattle.std.specs.Ordering.{is_lt, nat_cmp, ordering_then}
use Rattle.std.specs.Prelude.{Bool, None, Option, Some, true, ℕ, ◌≡◌}
use Rattle.std.specs.declared.cmp.Ordering.{Ordering}
use Rattle.swarm_objects.specs.Nodes.BestNode.{load}
use Rattle.swarm_objects.specs.Nodes.Filters.{here}
use Rattle.swarm_objects.specs.World.{Tables}
use Rattle.swarm_objects.specs.declared.nodes.Node.{Node}
use Rattle.swarm_sched.specs.declared.placing.NodeLoad.{NodeLoad}

-- the node has so many live tasks, and so many of the service's
abbrev pub IsNodeLoad : Tables → ℕ → ℕ → NodeLoad → Type 0
IsNodeLoad t node service h = (h.load ≡ load t node) × (h.here ≡ here t node service)

-- the node with this id comes before the best one so far, with which it compares so by the placement preferences
abbrev pub comes_first : Tables → ℕ → Ordering → ℕ → Option Node → Bool
comes_first t service spread node None = true
comes_first t service spread node (Some b) =
    is_lt (ordering_then spread (ordering_then (nat_cmp (here t node service) (here t b.id service))
    (ordering_then (nat_cmp (load t node) (load t b.id)) (nat_cmp node b.id))))
