-- The best node for a task.
use Rattle.std.specs.Prelude.{Bool, List, filter, sum_by, ℕ, [], ◌++◌, ◌∷◌, count_by, ◌&&◌, None, Option}
use Rattle.std.specs.Cmp.Lexicographic.{slice_cmp}
use Rattle.std.specs.List.{list_all}
use Rattle.std.specs.Ordering.{nat_cmp, ordering_then}
use Rattle.std.specs.Str.{bytes_eq}
use Rattle.std.specs.declared.cmp.Ordering.{Ordering}
use Rattle.std.specs.declared.cmp.Ordering.TheVariants.{Equal}
use Rattle.swarm_objects.specs.Nodes.Constraints.{key_value}
use Rattle.swarm_objects.specs.Nodes.Filters.{here, admitting_nodes}
use Rattle.swarm_objects.specs.Nodes.Holdings.{is_placed_on}
use Rattle.swarm_objects.specs.Rows.{least_by}
use Rattle.swarm_objects.specs.Tasks.Words.{is_live}
use Rattle.swarm_objects.specs.World.{Tables}
use Rattle.swarm_objects.specs.declared.nodes.Node.{Node}
use Rattle.swarm_objects.specs.declared.tasks.Task.{Task}
use Rattle.swarm_objects.specs.declared.templates.Key.{Key}

-- the node agrees with the other on the values of these keys
abbrev pub agrees : List Key → Node → Node → Bool
agrees keys n m = list_all (λ k. bytes_eq (key_value m k) (key_value n k)) keys

-- the service's tasks on all nodes, admitting or not, that agree with this one on the keys
abbrev pub branch_load : Tables → ℕ → List Key → Node → ℕ
branch_load t service keys n = sum_by (λ m. here t m.id service) (filter (agrees keys n) t.nodes)

-- by each preference in turn: the load of the branch, and then the branch's value
abbrev pub spread_cmp : Tables → ℕ → List Key → List Key → Node → Node → Ordering
spread_cmp t service earlier [] a b = Equal
spread_cmp t service earlier (k ∷ ks) a b =
    ordering_then (nat_cmp (branch_load t service (earlier ++ k ∷ []) a) (branch_load t service (earlier ++ k ∷ []) b))
    (ordering_then (slice_cmp nat_cmp (key_value a k) (key_value b k))
    (spread_cmp t service (earlier ++ k ∷ []) ks a b))

-- the live tasks of all services from ASSIGNED to RUNNING on the node
abbrev pub load : Tables → ℕ → ℕ
load t node = count_by (λ x. is_live x && is_placed_on node x) t.tasks

-- which of two nodes comes first for the task
abbrev pub node_cmp : Tables → Task → Node → Node → Ordering
node_cmp t x a b =
    ordering_then (spread_cmp t x.service [] x.template.spread a b)
    (ordering_then (nat_cmp (here t a.id x.service) (here t b.id x.service))
    (ordering_then (nat_cmp (load t a.id) (load t b.id)) (nat_cmp a.id b.id)))

abbrev pub best_node : Tables → Task → Option Node
best_node t x = least_by (node_cmp t x) None (admitting_nodes t x)
