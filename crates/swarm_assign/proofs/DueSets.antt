-- What a node is to have, by its tasks.
use Rattle.std.proofs.Common.{◌≡◌, ℕ, List, [], ◌∷◌, sym, ap, subst}
use Rattle.std.specs.Prelude.{filter, map}
use Rattle.swarm_assign.specs.Inside.Merging.{is_from_assigned}
use Rattle.swarm_objects.proofs.Gaps.{IsRising-filter}
use Rattle.swarm_objects.proofs.Filters.{filter_within}
use Rattle.swarm_objects.specs.Agents.Messages.{assigned, assigned_task, due_set, is_assigned_on}
use Rattle.swarm_objects.specs.Rows.{IsRising, RisesFrom, task_id}
use Rattle.swarm_objects.specs.Tasks.Words.{is_on}
use Rattle.swarm_objects.specs.World.{Tables}
use Rattle.swarm_objects.specs.declared.messages.Assigned.{Assigned}
use Rattle.swarm_objects.specs.declared.tasks.Task.{Task}
use Rattle.swarm_objects.specs.Usable.{IsUsable}

pub due_of_node : (t : Tables) (node : ℕ) →
    map assigned (filter is_from_assigned (filter (is_on node) t.tasks)) ≡ due_set t node
due_of_node t node = ap (map assigned) (filter_within (is_on node) is_from_assigned t.tasks)

assigned-rise-from : (n : ℕ) (xs : List Task) → RisesFrom task_id n xs → RisesFrom assigned_task n (map assigned xs)
assigned-rise-from n [] r = tt
assigned-rise-from n (x ∷ xs) r = (r.0, assigned-rise-from x.id xs r.1)

assigned-rise : (xs : List Task) → IsRising task_id xs → IsRising assigned_task (map assigned xs)
assigned-rise [] r = tt
assigned-rise (x ∷ xs) r = assigned-rise-from x.id xs r

from-start : (xs : List Task) → RisesFrom task_id 0 xs → IsRising task_id xs
from-start [] r = tt
from-start (x ∷ xs) r = r.1

pub due_rises : (t : Tables) (node : ℕ) → IsUsable t → IsRising assigned_task (due_set t node)
due_rises t node usable =
    assigned-rise (filter (is_assigned_on node) t.tasks)
    (IsRising-filter task_id (is_assigned_on node) t.tasks (from-start t.tasks usable.sound.ordered.tasks))

-- a list that is the due set
pub due_list_rises : (t : Tables) (node : ℕ) (due : List Assigned) → IsUsable t → due ≡ due_set t node →
    IsRising assigned_task due
due_list_rises t node due usable is = subst (IsRising assigned_task) (sym is) (due_rises t node usable)
