-- Two lists by rising task, gone through together.
use Rattle.std.specs.Prelude.{ℕ, ◌==◌, ◌++◌, if◌then◌else◌, List, [], ◌∷◌, Option, Some, None, flat_map, map, min, Bool, nat_le}
use Rattle.swarm_objects.specs.Agents.Messages.{same_assigned}
use Rattle.swarm_objects.specs.Rows.{rising, row_at}
use Rattle.swarm_objects.specs.Values.Ranks.{rank}
use Rattle.swarm_objects.specs.declared.messages.AssignChange.{AssignChange}
use Rattle.swarm_objects.specs.declared.messages.AssignChange.TheVariants as assign
use Rattle.swarm_objects.specs.declared.messages.Assigned.{Assigned}
use Rattle.swarm_objects.specs.declared.tasks.Task.{Task}
use Rattle.swarm_objects.specs.declared.tasks.TaskState.TheVariants as state

-- for each number in either list, rising, what its rows give
abbrev pub merged : {X Y Z : Type 0} → (X → ℕ) → (Y → ℕ) → (ℕ → Option X → Option Y → List Z) → List X → List Y → List Z
merged kx ky give xs ys =
    flat_map (λ k. give k (row_at kx k xs) (row_at ky k ys)) (rising (map kx xs ++ map ky ys))

abbrev pub change_task : AssignChange → ℕ
change_task (assign.Update a) = a.task
change_task (assign.Remove task) = task

-- how what is due of a task differs from what was sent of it
abbrev pub difference_of : ℕ → Option Assigned → Option Assigned → List AssignChange
difference_of task None None = assign.Remove task ∷ []
difference_of task (Some s) None = assign.Remove task ∷ []
difference_of task None (Some d) = assign.Update d ∷ []
difference_of task (Some s) (Some d) = if same_assigned d s then [] else assign.Update d ∷ []

-- what a node has of a task by a change, or else as it was
abbrev pub left_of : ℕ → Option AssignChange → Option Assigned → List Assigned
left_of task None None = []
left_of task None (Some a) = a ∷ []
left_of task (Some (assign.Update a)) told = a ∷ []
left_of task (Some (assign.Remove k)) told = []

-- the least number of the first rows
abbrev pub least_key : {X Y : Type 0} → (X → ℕ) → (Y → ℕ) → List X → List Y → Option ℕ
least_key kx ky [] [] = None
least_key kx ky [] (y ∷ ys) = Some (ky y)
least_key kx ky (x ∷ xs) [] = Some (kx x)
least_key kx ky (x ∷ xs) (y ∷ ys) = Some (min (kx x) (ky y))

-- the first row, where it has this number
abbrev pub head_at : {X : Type 0} → (X → ℕ) → ℕ → List X → Option X
head_at key id [] = None
head_at key id (x ∷ xs) = if key x == id then Some x else None

-- the rows without the first one, where that has this number
abbrev pub rest_at : {X : Type 0} → (X → ℕ) → ℕ → List X → List X
rest_at key id [] = []
rest_at key id (x ∷ xs) = if key x == id then xs else x ∷ xs

-- the task is at least ASSIGNED
abbrev pub is_from_assigned : Task → Bool
is_from_assigned x = nat_le (rank state.Assigned) (rank x.state)
