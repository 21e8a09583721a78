-- The closing of a place: the entry that set the cause on its newest task.
use Rattle.std.specs.Prelude.{None, Option, Some, ℕ, if◌then◌else◌, not, ◌&&◌, List, [], ◌+◌, ◌∷◌}
use Rattle.swarm_model.specs.History.{step_world}
use Rattle.swarm_objects.specs.Rows.{is_some_and, on_row, row_at, service_id, task_id}
use Rattle.swarm_objects.specs.Tasks.Places.{has_other, newest, tasks_of_place}
use Rattle.swarm_objects.specs.Tasks.Policy.{no_restart}
use Rattle.swarm_objects.specs.Tasks.Words.{is_task}
use Rattle.swarm_objects.specs.World.{Tables, World, empty_world}
use Rattle.swarm_objects.specs.declared.calls.Entry.{Entry}
use Rattle.swarm_objects.specs.declared.calls.What.{What}
use Rattle.swarm_objects.specs.declared.calls.What.TheVariants as what
use Rattle.swarm_objects.specs.declared.duties.Duty.TheVariants as duty
use Rattle.swarm_objects.specs.declared.services.Service.{Service}
use Rattle.swarm_objects.specs.declared.tasks.Closed.{Closed}
use Rattle.swarm_objects.specs.declared.tasks.Task.{Task}

-- Closings.

abbrev pub restarted_by : What → Option ℕ
restarted_by (what.Duty (duty.Restart task)) = Some task
restarted_by _ = None

-- the policy gives this cause at the restart of the task, and the place's newest task is this one
abbrev pub closes_with : Tables → ℕ → Task → Service → Option Closed
closes_with t id x s =
    if not (has_other t s x) && is_some_and (is_task id) (newest (tasks_of_place s x.place t.tasks))
    then no_restart t s x else None

abbrev pub cause_of_restart : Tables → ℕ → ℕ → Option Closed
cause_of_restart t id restarted_id =
    on_row None (λ x. on_row None (closes_with t id x) (row_at service_id x.service t.services))
    (row_at task_id restarted_id t.tasks)

-- the cause that the entry sets on the task, where it sets one
abbrev pub cause_set : World → ℕ → What → Option Closed
cause_set w id e = on_row None (cause_of_restart w.tables id) (restarted_by e)

-- an entry, and the cause that it set
pub record Closing : Type 0 where
  pub entry : ℕ
  pub cause : Closed

abbrev pub later : Option Closing → ℕ → Option Closed → Option Closing
later before entry None = before
later before entry (Some cause) = Some (record { entry = entry; cause = cause })

-- the last of the entries that set a cause on the task, or the one from before
abbrev pub closing_from : ℕ → World → Option Closing → List Entry → Option Closing
closing_from id w before [] = before
closing_from id w before (e ∷ es) =
    closing_from id (step_world w e) (later before (w.entries + 1) (cause_set w id e.what)) es

abbrev pub closing : List Entry → ℕ → Option Closing
closing h id = closing_from id empty_world None h
