-- What the scheduler has to do about one task.
use Rattle.std.specs.Prelude.{ℕ, Bool, ◌==◌, ◌&&◌}
use Rattle.std.specs.List.{list_any}
use Rattle.swarm_objects.specs.Kinds.{same_duty}
use Rattle.swarm_objects.specs.Loops.Scheduler.{schedule}
use Rattle.swarm_objects.specs.World.{Tables}
use Rattle.swarm_objects.specs.declared.duties.Duty.{Duty}
use Rattle.swarm_objects.specs.declared.tasks.Task.{Task}

-- the task is this one, and the duty is what there is to do about it
abbrev pub is_scheduled : Tables → ℕ → Duty → Task → Bool
is_scheduled t id d x = x.id == id && list_any (same_duty d) (schedule t x)
