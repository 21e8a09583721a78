-- What is kept beside the rows for the scheduler's first duty.
use Rattle.std.specs.Option.{option_map}
use Rattle.std.specs.Prelude.{List, Option, filter, find, map, ℕ, ◌&&◌, ◌≡◌}
use Rattle.swarm_objects.specs.Nodes.BestNode.{load}
use Rattle.swarm_objects.specs.Nodes.Holdings.{reserved_cpu, reserved_mem}
use Rattle.swarm_objects.specs.Rows.{IsRising, row_at, task_id}
use Rattle.swarm_objects.specs.Tasks.Words.{is_below_assigned, is_of}
use Rattle.swarm_objects.specs.World.{Tables}
use Rattle.swarm_objects.specs.declared.nodes.Node.{Node}
use Rattle.swarm_objects.specs.declared.tasks.Task.{Task}
use Rattle.swarm_sched.specs.declared.near.Near.{Near}
use Rattle.swarm_spread.specs.Counts.{Counts, counts_of}

-- the node, what its tasks from ASSIGNED to RUNNING reserve, and how many live ones there are
abbrev pub totals_of : Tables → Node → ℕ × ℕ × ℕ × ℕ
totals_of t n = (n.id, reserved_cpu t n.id, reserved_mem t n.id, load t n.id)

-- the task's service, and the counts of its tasks by this one's placement preferences
abbrev pub tree_of : Tables → Task → ℕ × Counts
tree_of t x = (x.service, counts_of t x.service x.template.spread)

abbrev pub tree_service : ℕ × Counts → ℕ
tree_service tree = tree.0

-- the least task of the service below ASSIGNED
abbrev pub first_waiting : ℕ → List Task → Option Task
first_waiting service tasks = find (λ x. is_below_assigned x && is_of service x) tasks

-- each part is what a scan of the rows gives; there is a tree for each service of a task that waits, by rising service
pub record IsNear (t : Tables) (near : Near) : Type 0 where
  pub totals : near.totals ≡ map (totals_of t) t.nodes
  pub waiting : near.waiting ≡ map task_id (filter is_below_assigned t.tasks)
  pub rising : IsRising tree_service near.trees
  pub trees : (service : ℕ) →
      row_at tree_service service near.trees ≡ option_map (tree_of t) (first_waiting service t.tasks)
