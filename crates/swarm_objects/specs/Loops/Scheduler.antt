-- The scheduler's duties.
use Rattle.std.specs.Prelude.{List, None, Option, Some, [], if◌then◌else◌, ◌∷◌, Bool, ◌&&◌, false, true, ◌++◌, flat_map, ℕ}
use Rattle.swarm_objects.specs.Changes.{change_task, in_state, placed, noted}
use Rattle.swarm_objects.specs.Loops.Allocator.{same_note}
use Rattle.swarm_objects.specs.Loops.Words.{when}
use Rattle.swarm_objects.specs.Nodes.BestNode.{best_node}
use Rattle.swarm_objects.specs.Nodes.Filters.{refusal_counts}
use Rattle.swarm_objects.specs.Tasks.Words.{is_below_assigned, is_unwanted, is_pending, is_wanted}
use Rattle.swarm_objects.specs.World.{Tables}
use Rattle.swarm_objects.specs.declared.duties.Duty.{Duty}
use Rattle.swarm_objects.specs.declared.duties.Duty.TheVariants as duty
use Rattle.swarm_objects.specs.declared.nodes.Node.{Node}
use Rattle.swarm_objects.specs.declared.tasks.Note.TheVariants as note
use Rattle.swarm_objects.specs.declared.tasks.Task.{Task}
use Rattle.swarm_objects.specs.declared.tasks.TaskState.TheVariants as state

-- the task goes to the best node; where no node admits it, its note says why
abbrev pub placing : Tables → Task → Option Node → List Duty
placing t x (Some n) = duty.Place x.id n.id ∷ []
placing t x None = if same_note (note.Filters (refusal_counts t x)) x.note then [] else duty.Explain x.id ∷ []

abbrev pub is_to_drop : Task → Bool
is_to_drop x = is_below_assigned x && is_unwanted x

abbrev pub is_to_place : Task → Bool
is_to_place x = is_pending x.state && is_wanted x

abbrev pub place_duty : Tables → Task → Bool → List Duty
place_duty t x true = placing t x (best_node t x)
place_duty t x false = []

-- by task; none is both
abbrev pub schedule : Tables → Task → List Duty
schedule t x = when (is_to_drop x) (duty.Drop x.id) ++ place_duty t x (is_to_place x)

abbrev pub scheduler : Tables → List Duty
scheduler t = flat_map (schedule t) t.tasks

-- What they do.

-- the note says for each filter how many nodes it refuses
abbrev pub explained : ℕ → Tables → Task → Task
explained version t x = noted version (note.Filters (refusal_counts t x)) x

abbrev pub after_drop : ℕ → Tables → ℕ → Tables
after_drop version t x = change_task x (in_state version t.clock state.Shutdown) t

abbrev pub after_place : ℕ → Tables → ℕ → ℕ → Tables
after_place version t x n = change_task x (placed version t.clock n) t

abbrev pub after_explain : ℕ → Tables → ℕ → Tables
after_explain version t x = change_task x (explained version t) t
