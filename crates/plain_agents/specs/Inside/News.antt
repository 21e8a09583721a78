-- Whether what a node is to have differs from what was sent.
use Rattle.std.specs.Prelude.{ℕ, Bool, List, [], ◌∷◌, false, true, not, ◌≡◌, ◌⊎◌, ◌&&◌, ◌||◌}
use Rattle.std.specs.List.{list_any}
use Rattle.swarm_objects.specs.Agents.Messages.{assigned, is_assigned_on, is_sent, same_assigned}
use Rattle.swarm_objects.specs.Rows.{is_some_and, row_at, task_id}
use Rattle.swarm_objects.specs.World.{Tables}
use Rattle.swarm_objects.specs.declared.messages.Assigned.{Assigned}
use Rattle.swarm_objects.specs.declared.tasks.Task.{Task}

-- it is to have the task, and wasn't told so
abbrev pub is_unsent_on : ℕ → List Assigned → Task → Bool
is_unsent_on node sent x = is_assigned_on node x && not (is_sent sent (assigned x))

abbrev pub is_due_on : Tables → ℕ → ℕ → Bool
is_due_on t node task = is_some_and (is_assigned_on node) (row_at task_id task t.tasks)

abbrev pub differs : Tables → ℕ → List Assigned → Bool
differs t node sent =
    list_any (λ (a : Assigned). not (is_due_on t node a.task)) sent || list_any (is_unsent_on node sent) t.tasks

-- What was sent, gone through in step with the tasks.

-- the next one of it is this one
abbrev pub is_next : Assigned → List Assigned → Bool
is_next a [] = false
is_next a (b ∷ rest) = same_assigned a b

abbrev pub rest_of : List Assigned → List Assigned
rest_of [] = []
rest_of (b ∷ rest) = rest

-- the node is to have the task, which isn't the next one
abbrev pub LeavesStep : ℕ → Task → List Assigned → Type 0
LeavesStep node x left = (is_assigned_on node x ≡ true) × (is_next (assigned x) left ≡ false)

-- the node isn't to have it, or it is the next one
abbrev pub StepsOn : ℕ → Task → List Assigned → List Assigned → Type 0
StepsOn node x left rest =
    ((is_assigned_on node x ≡ false) × (rest ≡ left))
    ⊎ ((is_assigned_on node x ≡ true) × (is_next (assigned x) left ≡ true) × (rest ≡ rest_of left))
