-- Words on a task.
use Rattle.std.specs.Prelude.{Bool, nat_le, ◌&&◌, nat_lt, true, false, ℕ, ◌==◌, Some}
use Rattle.std.specs.Option.{option_eq}
use Rattle.swarm_objects.specs.Same.{same_number, same_place}
use Rattle.swarm_objects.specs.Values.Ranks.{desired_rank, rank}
use Rattle.swarm_objects.specs.declared.tasks.Desired.TheVariants as desired
use Rattle.swarm_objects.specs.declared.tasks.Place.{Place}
use Rattle.swarm_objects.specs.declared.tasks.Task.{Task}
use Rattle.swarm_objects.specs.declared.tasks.TaskKey.TheVariants as task_key
use Rattle.swarm_objects.specs.declared.tasks.TaskKey.{TaskKey}
use Rattle.swarm_objects.specs.declared.tasks.TaskState.{TaskState}
use Rattle.swarm_objects.specs.declared.tasks.TaskState.TheVariants as state

-- what is wanted of the task is at most its goal
abbrev pub is_live : Task → Bool
is_live t = nat_le (desired_rank t.desired) (desired_rank t.goal)

-- from ASSIGNED to RUNNING
abbrev pub is_placed : Task → Bool
is_placed t = nat_le (rank state.Assigned) (rank t.state) && nat_le (rank t.state) (rank state.Running)

-- it is to run or to complete, and not to stop
abbrev pub is_wanted : Task → Bool
is_wanted t = nat_lt (desired_rank t.desired) (desired_rank desired.Shutdown)

abbrev pub is_new : TaskState → Bool
is_new state.New = true
is_new _ = false

abbrev pub is_pending : TaskState → Bool
is_pending state.Pending = true
is_pending _ = false

abbrev pub is_of : ℕ → Task → Bool
is_of service t = t.service == service

-- its place is this one of the service with this number
abbrev pub is_at : ℕ → Place → Task → Bool
is_at service place t = t.service == service && same_place t.place place

abbrev pub is_on : ℕ → Task → Bool
is_on node t = option_eq same_number t.node (Some node)

-- it has the key by which it is found
abbrev pub has_key : TaskKey → Task → Bool
has_key (task_key.Service service) = is_of service
has_key (task_key.Place service place) = is_at service place
has_key (task_key.Node node) = is_on node

-- above RUNNING
abbrev pub has_ended : Task → Bool
has_ended x = nat_lt (rank state.Running) (rank x.state)

abbrev pub is_running : Task → Bool
is_running x = rank x.state == rank state.Running

abbrev pub is_below_assigned : Task → Bool
is_below_assigned x = nat_lt (rank x.state) (rank state.Assigned)

abbrev pub is_below_running : Task → Bool
is_below_running x = nat_lt (rank x.state) (rank state.Running)

-- up to RUNNING
abbrev pub is_not_over : Task → Bool
is_not_over x = nat_le (rank x.state) (rank state.Running)

-- it isn't to be removed
abbrev pub is_kept : Task → Bool
is_kept x = nat_lt (desired_rank x.desired) (desired_rank desired.Remove)

-- it is to stop, or to be removed
abbrev pub is_unwanted : Task → Bool
is_unwanted x = nat_le (desired_rank desired.Shutdown) (desired_rank x.desired)

abbrev pub is_to_wait : Task → Bool
is_to_wait x = desired_rank x.desired == desired_rank desired.Ready

abbrev pub is_complete : TaskState → Bool
is_complete state.Complete = true
is_complete _ = false

-- it stands by this service and place, in whatever iteration
abbrev pub is_beside : Task → Task → Bool
is_beside x y = y.service == x.service && same_place y.place x.place

abbrev pub is_task : ℕ → Task → Bool
is_task id x = x.id == id
