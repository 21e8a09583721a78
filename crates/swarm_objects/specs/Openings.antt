-- The changes where a node's session opens with resources.
use Rattle.std.specs.Prelude.{ℕ, List, [], ◌∷◌, ◌-◌, ◌&&◌, if◌then◌else◌, map, nat_le}
use Rattle.swarm_objects.specs.Changes.{in_state}
use Rattle.swarm_objects.specs.Tasks.Words.{is_placed}
use Rattle.swarm_objects.specs.declared.rows.Change.{Change}
use Rattle.swarm_objects.specs.declared.rows.Change.TheVariants as change
use Rattle.swarm_objects.specs.declared.tasks.Task.{Task}
use Rattle.swarm_objects.specs.declared.tasks.TaskState.TheVariants as state

-- of a node's tasks those that are placed and no longer fit in what the ones before them leave
abbrev pub unfit : ℕ → ℕ → List Task → List Task
unfit cpu mem [] = []
unfit cpu mem (x ∷ xs) =
    if is_placed x
    then (
    if nat_le x.template.cpu cpu && nat_le x.template.mem mem
    then unfit (cpu - x.template.cpu) (mem - x.template.mem) xs
    else x ∷ unfit cpu mem xs
    )
    else unfit cpu mem xs

-- each of them is rejected
abbrev pub rejections : ℕ → ℕ → ℕ → ℕ → List Task → List Change
rejections version clock cpu mem tasks =
    map (λ x. change.PutTask (in_state version clock state.Rejected x)) (unfit cpu mem tasks)
