-- The nodes that changes touch.
use Rattle.std.specs.Prelude.{None, Option, Some, ℕ, ◌≡◌}
use Rattle.swarm_objects.specs.Rows.{on_row, row_at, task_id}
use Rattle.swarm_objects.specs.World.{Tables}
use Rattle.swarm_objects.specs.declared.rows.Change.TheVariants as change
use Rattle.swarm_objects.specs.declared.rows.Change.{Change}

-- the node of the task with this id
abbrev pub former_node : Tables → ℕ → Option ℕ
former_node t id = on_row None (λ x. x.node) (row_at task_id id t.tasks)

-- the node that the change puts, or those of the task that it puts or drops, as it will be and as it was
abbrev pub touched : Tables → Change → Option ℕ × Option ℕ
touched t (change.PutNode n) = (Some n.id, None)
touched t (change.PutService s) = (None, None)
touched t (change.PutTask x) = (x.node, former_node t x.id)
touched t (change.DropTask id) = (None, former_node t id)
touched t (change.Keep a) = (None, None)

-- the change touches other nodes
abbrev pub IsSpared : Tables → ℕ → Change → Type 0
IsSpared t m c = ((touched t c).0 ≡ Some m → ⊥) × ((touched t c).1 ≡ Some m → ⊥)
