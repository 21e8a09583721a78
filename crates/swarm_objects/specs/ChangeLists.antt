-- What changes of rows make of the tables.
use Rattle.std.specs.Prelude.{ℕ, ◌≡◌, ◌⊎◌, ⊤, true, List, [], ◌∷◌, ◌++◌, map, filter, nat_lt, Bool, Option, None, Some, if◌then◌else◌}
use Rattle.swarm_objects.specs.Changes.{in_state}
use Rattle.swarm_objects.specs.Rows.{drop_row, has_row, put_row, node_id, service_id, task_id}
use Rattle.swarm_objects.specs.Tasks.New.{with_task}
use Rattle.swarm_objects.specs.Values.Ranks.{rank}
use Rattle.swarm_objects.specs.World.{Tables}
use Rattle.swarm_objects.specs.declared.nodes.Node.{Node}
use Rattle.swarm_objects.specs.declared.rows.Change.{Change}
use Rattle.swarm_objects.specs.declared.rows.Change.TheVariants as change
use Rattle.swarm_objects.specs.declared.tasks.Task.{Task}
use Rattle.swarm_objects.specs.declared.tasks.TaskState.{TaskState}

-- a task takes the place of the one with its id; where there is none, it is new
abbrev pub put_task : Tables → Task → Tables
put_task t x = if has_row task_id x.id t.tasks then record t { tasks = put_row task_id x t.tasks } else with_task t x

abbrev pub apply_change : Tables → Change → Tables
apply_change t (change.PutNode n) = record t { nodes = put_row node_id n t.nodes }
apply_change t (change.PutService s) = record t { services = put_row service_id s t.services }
apply_change t (change.PutTask x) = put_task t x
apply_change t (change.DropTask id) = record t { tasks = drop_row task_id id t.tasks }
apply_change t (change.Keep a) = record t { attempts = t.attempts ++ a ∷ [] }

abbrev pub apply_changes : Tables → List Change → Tables
apply_changes t [] = t
apply_changes t (c ∷ cs) = apply_changes (apply_change t c) cs

-- the change may be applied: the row that it puts or drops is there, or it is a task with the next id
abbrev pub CanApply : Tables → Change → Type 0
CanApply t (change.PutNode n) = has_row node_id n.id t.nodes ≡ true
CanApply t (change.PutService s) = has_row service_id s.id t.services ≡ true
CanApply t (change.PutTask x) = (has_row task_id x.id t.tasks ≡ true) ⊎ (x.id ≡ t.next_id)
CanApply t (change.DropTask id) = has_row task_id id t.tasks ≡ true
CanApply t (change.Keep a) = ⊤

-- each at its place in the list
abbrev pub CanApplyAll : Tables → List Change → Type 0
CanApplyAll t [] = ⊤
CanApplyAll t (c ∷ cs) = CanApply t c × CanApplyAll (apply_change t c) cs

-- the changes may be applied, and make these tables
pub record Makes (t : Tables) (cs : List Change) (after : Tables) : Type 0 where
  pub can : CanApplyAll t cs
  pub gives : apply_changes t cs ≡ after

-- The changes of one kind of effect.

-- of one task, where it is there
abbrev pub put_found : (Task → Task) → Option Task → List Change
put_found f None = []
put_found f (Some x) = change.PutTask (f x) ∷ []

-- its state is set, where it is there and the state is above its own
abbrev pub put_raised : ℕ → ℕ → TaskState → Option Task → List Change
put_raised version clock s None = []
put_raised version clock s (Some x) =
    if nat_lt (rank x.state) (rank s) then change.PutTask (in_state version clock s x) ∷ [] else []

-- of one node, where it is there
abbrev pub put_node_found : (Node → Node) → Option Node → List Change
put_node_found f None = []
put_node_found f (Some n) = change.PutNode (f n) ∷ []

-- the task goes, where it is there
abbrev pub drop_found : Option Task → List Change
drop_found None = []
drop_found (Some x) = change.DropTask x.id ∷ []

-- of each of the tasks that passes
abbrev pub put_each : (Task → Bool) → (Task → Task) → List Task → List Change
put_each test f tasks = map (λ x. change.PutTask (f x)) (filter test tasks)
