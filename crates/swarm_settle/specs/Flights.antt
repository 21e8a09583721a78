-- The times of a run's places in flight, place by place and task by task.
use Rattle.std.specs.Prelude.{ℕ, List, [], filter, if◌then◌else◌, map, ◌&&◌, ◌+◌, ◌∷◌}
use Rattle.swarm_objects.specs.Services.Runs.{flying_tasks, is_flying}
use Rattle.swarm_objects.specs.Tasks.Words.{is_running}
use Rattle.swarm_objects.specs.World.{Tables}
use Rattle.swarm_objects.specs.declared.services.Replaced.{Replaced}
use Rattle.swarm_objects.specs.declared.services.Service.{Service}
use Rattle.swarm_objects.specs.declared.tasks.Task.{Task}

-- when the place's tasks in flight that run cease to be that
abbrev pub item_times : Tables → Service → Replaced → List ℕ
item_times t s item = map (λ x. x.since + s.spec.update.delay) (filter is_running (flying_tasks t s item))

-- when the task ceases to be in flight, where it is and runs
abbrev pub task_times : Tables → Service → Task → List ℕ
task_times t s x = if is_flying t s x && is_running x then (x.since + s.spec.update.delay) ∷ [] else []
