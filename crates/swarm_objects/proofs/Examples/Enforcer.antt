-- The enforcer, computed.
use Rattle.std.specs.Prelude.{List, [], codes, refl, ℕ, ◌∷◌, ◌≡◌}
use Rattle.swarm_objects.proofs.Examples.Rows.{in_zone, node, placed_task, replicas, tables, template, with_desired}
use Rattle.swarm_objects.specs.Loops.Enforcer.{after_reject, enforcer}
use Rattle.swarm_objects.specs.World.{Tables}
use Rattle.swarm_objects.specs.declared.duties.Duty.TheVariants as duty
use Rattle.swarm_objects.specs.declared.tasks.Desired.TheVariants as desired
use Rattle.swarm_objects.specs.declared.tasks.Task.{Task}
use Rattle.swarm_objects.specs.declared.tasks.TaskState.TheVariants as state

-- the task asks for a node of this zone
abbrev asks_for : List ℕ → Task → Task
asks_for zone x = record x { template = record template { constraints = in_zone zone ∷ [] } }

abbrev with_task_on : Task → Tables
with_task_on x = tables (node 1 ∷ []) (replicas 1 ∷ []) (x ∷ [])

abbrev running : Task
running = placed_task 3 1 1 state.Running

reject_misplaced : enforcer (with_task_on (asks_for (codes "b") running)) ≡ duty.Reject 3 ∷ []
reject_misplaced = refl

no_reject_where_met : enforcer (with_task_on (asks_for (codes "a") running)) ≡ []
no_reject_where_met = refl

-- letters of either case are the same
no_reject_of_other_case : enforcer (with_task_on (asks_for (codes "A") running)) ≡ []
no_reject_of_other_case = refl

no_reject_of_unwanted : enforcer (with_task_on (asks_for (codes "b") (with_desired desired.Shutdown running))) ≡ []
no_reject_of_unwanted = refl

no_reject_of_ended : enforcer (with_task_on (asks_for (codes "b") (placed_task 3 1 1 state.Failed))) ≡ []
no_reject_of_ended = refl

-- bound to the node, and not assigned yet
no_reject_of_pending : enforcer (with_task_on (asks_for (codes "b") (placed_task 3 1 1 state.Pending))) ≡ []
no_reject_of_pending = refl

no_reject_without_node : enforcer (record (with_task_on (asks_for (codes "b") running)) { nodes = [] }) ≡ []
no_reject_without_node = refl

rejected : after_reject 7 (with_task_on (asks_for (codes "b") running)) 3
    ≡ with_task_on (record (asks_for (codes "b") running) { version = 7; state = state.Rejected; since = 1000 })
rejected = refl
