-- Going from row to row.
use Rattle.std.specs.Prelude.{ℕ, filter, nat_lt, List, [], ◌∷◌, if◌then◌else◌}
use Rattle.swarm_objects.specs.Rows.{rows_named, task_id}
use Rattle.swarm_objects.specs.Tasks.Words.{has_key}
use Rattle.swarm_objects.specs.declared.tasks.Task.{Task}
use Rattle.swarm_objects.specs.declared.tasks.TaskKey.{TaskKey}
use Rattle.swarm_objects.specs.declared.walks.Left.TheVariants as left
use Rattle.swarm_objects.specs.declared.walks.Left.{Left}

-- the rows that are met from a number on, where each step goes to the first row with a greater key
abbrev pub walk : {X : Type 0} → (X → ℕ) → ℕ → List X → List X
walk key after [] = []
walk key after (row ∷ rows) = if nat_lt after (key row) then row ∷ walk key (key row) rows else walk key after rows

-- the tasks of these ids that have the key
abbrev pub named_with : TaskKey → List ℕ → List Task → List Task
named_with key ids tasks = filter (has_key key) (rows_named task_id ids tasks)

-- the tasks with the key that are left: those of these ids, or those behind this one
abbrev pub left_with : TaskKey → Left → List Task → List Task
left_with key (left.Named ids) tasks = named_with key ids.now tasks
left_with key (left.Behind after) tasks = walk task_id after (filter (has_key key) tasks)
