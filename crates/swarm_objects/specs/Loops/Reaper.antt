-- The reaper's duties: tasks that are removed, and old ended ones.
use Rattle.std.specs.Prelude.{Bool, not, ◌&&◌, ◌||◌, ◌==◌, List, count_by, find, nat_lt, ℕ, ◌++◌}
use Rattle.swarm_objects.specs.Loops.Words.{duty_where}
use Rattle.swarm_objects.specs.Rows.{is_some_and, drop_row, task_id}
use Rattle.swarm_objects.specs.Services.Runs.{has_open_run}
use Rattle.swarm_objects.specs.Services.Words.{is_service_and}
use Rattle.swarm_objects.specs.Tasks.Places.{newest, tasks_of_place}
use Rattle.swarm_objects.specs.Tasks.Words.{has_ended, is_below_assigned, is_kept, is_task}
use Rattle.swarm_objects.specs.Values.Ranks.{desired_rank}
use Rattle.swarm_objects.specs.World.{Tables}
use Rattle.swarm_objects.specs.declared.duties.Duty.{Duty}
use Rattle.swarm_objects.specs.declared.duties.Duty.TheVariants as duty
use Rattle.swarm_objects.specs.declared.services.Service.{Service}
use Rattle.swarm_objects.specs.declared.tasks.Desired.TheVariants as desired
use Rattle.swarm_objects.specs.declared.tasks.Task.{Task}

-- it is to be removed, and nothing of it runs
abbrev pub is_removable : Task → Bool
is_removable x = not (is_kept x) && (is_below_assigned x || has_ended x)

-- it ended and was to stop
abbrev pub is_past : Task → Bool
is_past x = has_ended x && desired_rank x.desired == desired_rank desired.Shutdown

-- the place has more such tasks than are kept, this one is the oldest of them, and not the place's newest
abbrev pub is_oldest_past : ℕ → List Task → Task → Bool
is_oldest_past history tasks x =
    nat_lt history (count_by is_past tasks)
    && is_some_and (is_task x.id) (find is_past tasks)
    && not (is_some_and (is_task x.id) (newest tasks))

-- the service has no run under way, and the task is such a one of its place
abbrev pub is_trimmed_in : Tables → Task → Service → Bool
is_trimmed_in t x s = not (has_open_run s) && is_oldest_past t.settings.history (tasks_of_place s x.place t.tasks) x

abbrev pub is_trimmed : Tables → Task → Bool
is_trimmed t x = is_service_and t (is_trimmed_in t x) x

abbrev pub reaper : Tables → List Duty
reaper t =
    duty_where is_removable (λ x. duty.Delete x.id) t.tasks ++ duty_where (is_trimmed t) (λ x. duty.Trim x.id) t.tasks

-- What they do.

abbrev pub without_task : ℕ → Tables → Tables
without_task id t = record t { tasks = drop_row task_id id t.tasks }

abbrev pub after_delete : Tables → ℕ → Tables
after_delete t x = without_task x t

abbrev pub after_trim : Tables → ℕ → Tables
after_trim t x = without_task x t
