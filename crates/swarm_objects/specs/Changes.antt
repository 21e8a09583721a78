-- Changes of rows.
use Rattle.std.specs.Prelude.{ℕ, Some, Bool, if◌then◌else◌, map, ◌&&◌, nat_lt, ◌+◌}
use Rattle.swarm_objects.specs.Rows.{change_row, task_id, node_id, on_row, row_at, service_id}
use Rattle.swarm_objects.specs.Tasks.New.{new_task, with_task}
use Rattle.swarm_objects.specs.Tasks.Places.{is_in_place, place_at}
use Rattle.swarm_objects.specs.Tasks.Words.{is_kept}
use Rattle.swarm_objects.specs.Values.Ranks.{rank}
use Rattle.swarm_objects.specs.World.{Tables, World}
use Rattle.swarm_objects.specs.declared.nodes.Node.{Node}
use Rattle.swarm_objects.specs.declared.services.Service.{Service}
use Rattle.swarm_objects.specs.declared.tasks.Desired.{Desired}
use Rattle.swarm_objects.specs.declared.tasks.Desired.TheVariants as desired
use Rattle.swarm_objects.specs.declared.tasks.Note.{Note}
use Rattle.swarm_objects.specs.declared.tasks.Note.TheVariants as note
use Rattle.swarm_objects.specs.declared.tasks.Task.{Task}
use Rattle.swarm_objects.specs.declared.tasks.TaskState.{TaskState}
use Rattle.swarm_objects.specs.declared.tasks.TaskState.TheVariants as state

abbrev pub change_task : ℕ → (Task → Task) → Tables → Tables
change_task id change t = record t { tasks = change_row task_id id change t.tasks }

-- the state is set now, by the entry with this number
abbrev pub in_state : ℕ → ℕ → TaskState → Task → Task
in_state version clock state x = record x { version = version; state = state; since = clock }

abbrev pub addressed : ℕ → ℕ → Task → Task
addressed version clock x = record (in_state version clock state.Pending x) { note = note.Empty }

abbrev pub placed : ℕ → ℕ → ℕ → Task → Task
placed version clock node x = record (in_state version clock state.Assigned x) { node = Some node; note = note.Empty }

abbrev pub noted : ℕ → Note → Task → Task
noted version note x = record x { version = version; note = note }

abbrev pub change_node : ℕ → (Node → Node) → Tables → Tables
change_node id change t = record t { nodes = change_row node_id id change t.nodes }

abbrev pub change_where : (Task → Bool) → (Task → Task) → Tables → Tables
change_where test change t = record t { tasks = map (λ x. if test x then change x else x) t.tasks }

-- this is wanted of the task, by the entry with this number
abbrev pub wanted : ℕ → Desired → Task → Task
wanted version d x = record x { version = version; desired = d }

-- every task of the place that isn't to be removed is to be
abbrev pub without_place : ℕ → Tables → Service → ℕ → Tables
without_place version t s k =
    change_where (λ x. is_in_place s (place_at s.spec.mode k) x && is_kept x) (wanted version desired.Remove) t

-- a new task stands in the place
abbrev pub with_new : ℕ → Desired → Tables → Service → ℕ → Tables
with_new version d t s k = with_task t (new_task version t s (place_at s.spec.mode k) d)

-- what the duty does with its service, where it is there
abbrev pub on_service : Tables → ℕ → (Service → Tables) → Tables
on_service t s use_service = on_row t use_service (row_at service_id s t.services)

abbrev pub on_task : Tables → ℕ → (Task → Tables) → Tables
on_task t x use_task = on_row t use_task (row_at task_id x t.tasks)

abbrev pub change_service : ℕ → (Service → Service) → Tables → Tables
change_service id change t = record t { services = change_row service_id id change t.services }

abbrev pub with_tables : World → Tables → World
with_tables w t = record w { tables = t }

-- the state is set now where it is above the task's, by the entry with this number; else nothing is written
abbrev pub raised_to : ℕ → ℕ → TaskState → Task → Task
raised_to version clock s x = if nat_lt (rank x.state) (rank s) then in_state version clock s x else x

-- the tables with the next id taken
abbrev pub id_taken : Tables → Tables
id_taken t = record t { next_id = t.next_id + 1 }
