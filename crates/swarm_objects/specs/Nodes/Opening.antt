-- A remote node's session opens with these resources: its tasks that no longer fit are rejected.
use Rattle.std.specs.Prelude.{ℕ, Bool, List, [], ◌∷◌, ◌++◌, ◌-◌, ◌&&◌, if◌then◌else◌, fold, nat_le}
use Rattle.swarm_objects.specs.Changes.{in_state}
use Rattle.swarm_objects.specs.Nodes.Holdings.{is_placed_on}
use Rattle.swarm_objects.specs.Nodes.Sessions.{ready_node}
use Rattle.swarm_objects.specs.declared.nodes.Node.{Node}
use Rattle.swarm_objects.specs.declared.tasks.Task.{Task}
use Rattle.swarm_objects.specs.declared.tasks.TaskState.TheVariants as state

-- what is left of a node's resources, and the tasks after those that were taken so far
pub record TakenSoFar : Type 0 where
  pub cpu : ℕ
  pub mem : ℕ
  pub tasks : List Task

abbrev pub fits_in : TakenSoFar → Task → Bool
fits_in kept x = nat_le x.template.cpu kept.cpu && nat_le x.template.mem kept.mem

abbrev pub keep_task : TakenSoFar → Task → TakenSoFar
keep_task kept x =
    record { cpu = kept.cpu - x.template.cpu; mem = kept.mem - x.template.mem; tasks = kept.tasks ++ x ∷ [] }

-- a task on the node that no longer fits in what is left is rejected
abbrev pub keep_or_reject : ℕ → ℕ → TakenSoFar → Task → TakenSoFar
keep_or_reject version clock kept x =
    if fits_in kept x then keep_task kept x
    else record kept { tasks = kept.tasks ++ in_state version clock state.Rejected x ∷ [] }

abbrev pub keep_other : ℕ → ℕ → ℕ → TakenSoFar → Task → TakenSoFar
keep_other version clock node kept x =
    if is_placed_on node x then keep_or_reject version clock kept x
    else record kept { tasks = kept.tasks ++ x ∷ [] }

-- by rising id
abbrev pub tasks_within : ℕ → ℕ → ℕ → ℕ → ℕ → List Task → List Task
tasks_within version clock node cpu mem tasks =
    (fold (keep_other version clock node) (record { cpu = cpu; mem = mem; tasks = [] }) tasks).tasks

abbrev pub with_resources : ℕ → ℕ → ℕ → Node → Node
with_resources version cpu mem n = record (ready_node version n) { cpu = cpu; mem = mem }
