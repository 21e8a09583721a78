-- What a spread tree is seen as.
use Rattle.std.specs.Prelude.{Bool, List, None, Option, Some, [], filter, get_or, if◌then◌else◌, length, map, replicate, true, ℕ, ◌==◌, ◌∷◌, ◌&&◌, ◌+◌, ◌-◌, ◌<◌, ◌≡◌}
use Rattle.std.specs.Ordering.{is_lt, nat_cmp, ordering_then}
use Rattle.std.specs.declared.cmp.Ordering.{Ordering}
use Rattle.swarm_objects.specs.Nodes.BestNode.{load, node_cmp}
use Rattle.swarm_objects.specs.Nodes.Constraints.{key_value}
use Rattle.swarm_objects.specs.Nodes.Filters.{here}
use Rattle.swarm_objects.specs.Rows.{RisesFrom, itself, least_by, node_id, on_row}
use Rattle.swarm_objects.specs.Tasks.Words.{is_live, is_placed}
use Rattle.swarm_objects.specs.World.{Tables}
use Rattle.swarm_objects.specs.declared.nodes.Node.{Node}
use Rattle.swarm_objects.specs.declared.tasks.Task.{Task}
use Rattle.swarm_objects.specs.declared.templates.Key.{Key}
use Rattle.swarm_spread.specs.Sums.{AreBranching, HasDepth, HasSums, branches_of, order_from}
use Rattle.swarm_spread.specs.declared.levels.Levels.{Levels}

-- a service, the keys of its preferences, and of each node its id, its values for the keys, and how many tasks of the
-- service it has
pub record Counts : Type 0 where
  pub service : ℕ
  pub keys : List Key
  pub nodes : List ℕ
  pub paths : List (List (List ℕ))
  pub here : List ℕ

abbrev pub path_of : List Key → Node → List (List ℕ)
path_of keys n = map (key_value n) keys

abbrev pub here_on : Tables → ℕ → Node → ℕ
here_on t service n = here t n.id service

-- no task of the nodes is counted
abbrev pub empty_counts : Tables → ℕ → List Key → Counts
empty_counts t service keys = record {
  service = service;
  keys = keys;
  nodes = map node_id t.nodes;
  paths = map (path_of keys) t.nodes;
  here = replicate (length t.nodes) 0;
}

-- what a scan of the rows counts
abbrev pub counts_of : Tables → ℕ → List Key → Counts
counts_of t service keys = record {
  service = service;
  keys = keys;
  nodes = map node_id t.nodes;
  paths = map (path_of keys) t.nodes;
  here = map (here_on t service) t.nodes;
}

-- they are those of a scan
abbrev pub Stands : Tables → Counts → Type 0
Stands t c = c ≡ counts_of t c.service c.keys

-- what stands at the place is what a scan says of the node
pub record IsScanned (t : Tables) (c : Counts) (place : ℕ) (n : Node) : Type 0 where
  pub within : place < length c.nodes
  pub id : get_or c.nodes place 0 ≡ n.id
  pub path : get_or c.paths place [] ≡ path_of c.keys n
  pub count : get_or c.here place 0 ≡ here_on t c.service n

-- they are those of the task's service, by its own preferences
pub record IsFor (x : Task) (c : Counts) : Type 0 where
  pub service : c.service ≡ x.service
  pub keys : c.keys ≡ x.template.spread

-- the counts, where that of the node is changed
abbrev pub changed_at : (ℕ → ℕ) → ℕ → List ℕ → List ℕ → List ℕ
changed_at change node [] hs = hs
changed_at change node (n ∷ ns) [] = []
changed_at change node (n ∷ ns) (h ∷ hs) = (if n == node then change h else h) ∷ changed_at change node ns hs

-- the best of the nodes that pass a test
abbrev pub best_by : (Node → Bool) → Tables → Task → Option Node
best_by test t x = least_by (node_cmp t x) None (filter test t.nodes)

-- the place of the node among those in order, where it is one of them
abbrev pub IsPlaceOf : List ℕ → ℕ → Option ℕ → Type 0
IsPlaceOf nodes node None = (place : ℕ) → place < length nodes → get_or nodes place 0 ≡ node → ⊥
IsPlaceOf nodes node (Some place) = (place < length nodes) × (get_or nodes place 0 ≡ node)

-- a task is counted on the node, if that is one of them
abbrev pub HasTask : Counts → ℕ → Type 0
HasTask c node =
    (place : ℕ) → place < length c.nodes → get_or c.nodes place 0 ≡ node → 0 < get_or c.here place 0

-- the task is one of those that a node has
abbrev pub is_counted : Task → Bool
is_counted x = is_live x && is_placed x

-- the node that the task counts on
abbrev pub counted_node : Task → Option ℕ
counted_node x = if is_counted x then x.node else None

abbrev pub one_more : ℕ → ℕ
one_more count = count + 1

abbrev pub one_fewer : ℕ → ℕ
one_fewer count = count - 1

-- the counts, where that of the node is changed if it is one of them
abbrev pub with_change : (ℕ → ℕ) → Counts → ℕ → Counts
with_change change c node = record c { here = changed_at change node c.nodes c.here }

-- the task counts on its node, if that is one of them
abbrev pub with_task : Counts → Task → Counts
with_task c x = on_row c (with_change one_more c) (counted_node x)

-- the counts with these tasks
abbrev pub with_tasks : Counts → List Task → Counts
with_tasks c [] = c
with_tasks c (x ∷ xs) = with_tasks (with_task c x) xs

-- which of two places comes first, by the counts and by how many tasks their nodes have
abbrev pub place_order : Tables → Counts → ℕ → ℕ → Ordering
place_order t c one other =
    ordering_then (order_from c.paths c.here 0 (length (get_or c.paths one [])) one other)
    (ordering_then (nat_cmp (get_or c.here one 0) (get_or c.here other 0))
    (ordering_then (nat_cmp (load t (get_or c.nodes one 0)) (load t (get_or c.nodes other 0)))
    (nat_cmp (get_or c.nodes one 0) (get_or c.nodes other 0))))

-- the place comes before the best one so far
abbrev pub is_before : (ℕ → ℕ → Ordering) → ℕ → Option ℕ → Bool
is_before order place None = true
is_before order place (Some best) = is_lt (order place best)

-- the best place, of the nodes from this place on that pass a test
abbrev pub best_place : (ℕ → ℕ → Ordering) → (Node → Bool) → Option ℕ → ℕ → List Node → Option ℕ
best_place order test best place [] = best
best_place order test best place (n ∷ ns) =
    best_place order test (if is_before order place best && test n then Some place else best) (place + 1) ns

-- what a tree keeps
pub record IsKept (nodes : List ℕ) (paths : List (List (List ℕ))) (here : List ℕ) (levels : Levels) : Type 0 where
  pub rising : RisesFrom itself 0 nodes
  pub each_path : length paths ≡ length nodes
  pub each_count : length here ≡ length nodes
  pub sums : HasSums here levels
  pub same : AreBranching 1 paths (branches_of levels)
  pub deep : HasDepth (length (branches_of levels)) paths
