-- The measure that every duty other than a note makes smaller, while the time stands and no call comes.
use Rattle.std.specs.Prelude.{Bool, None, Option, Some, count_by, false, not, sum_by, ℕ, ◌&&◌, ◌*◌, ◌+◌, ◌||◌}
use Rattle.swarm_settle.specs.Bound.Coming.{coming}
use Rattle.swarm_settle.specs.Bound.Left.{agent_left, node_left, service_left, task_left}
use Rattle.swarm_objects.specs.Loops.Allocator.{same_note, wants_note}
use Rattle.swarm_objects.specs.Loops.Scheduler.{is_to_place}
use Rattle.swarm_objects.specs.Nodes.BestNode.{best_node}
use Rattle.swarm_objects.specs.Nodes.Filters.{refusal_counts}
use Rattle.swarm_objects.specs.World.{Tables, World}
use Rattle.swarm_objects.specs.declared.nodes.Node.{Node}
use Rattle.swarm_objects.specs.declared.tasks.Note.TheVariants as note
use Rattle.swarm_objects.specs.declared.tasks.Task.{Task}

-- what all rows have before them, where tasks from this number on are new; a task that can come counts as a new one's
-- and its making
abbrev pub measure : ℕ → World → ℕ
measure m w =
    sum_by (task_left w) w.tables.tasks + sum_by (agent_left w) w.agents + sum_by (node_left w.tables) w.tables.nodes
    + sum_by service_left w.tables.services + 47 * coming m w.tables

-- Notes.

abbrev pub is_unplaced : Tables → Task → Option Node → Bool
is_unplaced t x None = not (same_note (note.Filters (refusal_counts t x)) x.note)
is_unplaced t x (Some n) = false

-- no node admits it, and its note says otherwise
abbrev pub wants_reason : Tables → Task → Bool
wants_reason t x = is_to_place x && is_unplaced t x (best_node t x)

-- the tasks that are to get a note
abbrev pub notes_due : Tables → ℕ
notes_due t = count_by (λ x. wants_note t x || wants_reason t x) t.tasks
