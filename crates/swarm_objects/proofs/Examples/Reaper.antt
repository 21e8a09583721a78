-- The reaper, computed.
use Rattle.std.specs.Prelude.{List, Some, [], refl, ℕ, ◌∷◌, ◌≡◌}
use Rattle.swarm_objects.proofs.Examples.Rows.{node, placed_task, replicas, tables, with_desired}
use Rattle.swarm_objects.specs.Defaults.{usual_settings}
use Rattle.swarm_objects.specs.Loops.Reaper.{after_delete, after_trim, reaper}
use Rattle.swarm_objects.specs.World.{Tables}
use Rattle.swarm_objects.specs.declared.duties.Duty.TheVariants as duty
use Rattle.swarm_objects.specs.declared.services.RunStatus.TheVariants as status
use Rattle.swarm_objects.specs.declared.services.Service.{Service}
use Rattle.swarm_objects.specs.declared.tasks.Desired.TheVariants as desired
use Rattle.swarm_objects.specs.declared.tasks.Place.TheVariants.{Slot}
use Rattle.swarm_objects.specs.declared.tasks.Task.{Task}
use Rattle.swarm_objects.specs.declared.tasks.TaskState.{TaskState}
use Rattle.swarm_objects.specs.declared.tasks.TaskState.TheVariants as state

-- Tasks that are to be removed.

abbrev with_task_in : TaskState → Tables
with_task_in s = tables (node 1 ∷ []) (replicas 1 ∷ []) (with_desired desired.Remove (placed_task 3 1 1 s) ∷ [])

delete_ended : reaper (with_task_in state.Shutdown) ≡ duty.Delete 3 ∷ []
delete_ended = refl

delete_pending : reaper (with_task_in state.Pending) ≡ duty.Delete 3 ∷ []
delete_pending = refl

no_delete_of_running : reaper (with_task_in state.Running) ≡ []
no_delete_of_running = refl

no_delete_of_kept : reaper
    (tables (node 1 ∷ []) (replicas 1 ∷ []) (with_desired desired.Shutdown (placed_task 3 1 1 state.Failed) ∷ [])) ≡ []
no_delete_of_kept = refl

deleted : after_delete (with_task_in state.Shutdown) 3 ≡ tables (node 1 ∷ []) (replicas 1 ∷ []) []
deleted = refl

-- Ended tasks of a place; one is kept.

abbrev past : ℕ → Task
past id = with_desired desired.Shutdown (placed_task id 1 1 state.Failed)

abbrev with_past : Service → List Task → Tables
with_past s tasks = record (tables (node 1 ∷ []) (s ∷ []) tasks) { settings = record usual_settings { history = 1 } }

trim_oldest : reaper (with_past (replicas 1) (past 3 ∷ past 4 ∷ placed_task 5 1 1 state.Running ∷ []))
    ≡ duty.Trim 3 ∷ []
trim_oldest = refl

no_trim_of_so_many : reaper (with_past (replicas 1) (past 3 ∷ placed_task 5 1 1 state.Running ∷ [])) ≡ []
no_trim_of_so_many = refl

-- one that is to be removed is none of them
no_trim_by_removed : reaper
    (with_past (replicas 1)
    (past 3 ∷ with_desired desired.Remove (placed_task 4 1 1 state.Failed) ∷ placed_task 5 1 1 state.Running ∷ []))
    ≡ duty.Delete 4 ∷ []
no_trim_by_removed = refl

-- the newest one stays, even where none is kept
no_trim_of_newest : reaper
    (record (with_past (replicas 1) (past 3 ∷ [])) { settings = record usual_settings { history = 0 } }) ≡ []
no_trim_of_newest = refl

no_trim_of_other_places : reaper (with_past (replicas 2) (past 3 ∷ record (past 4) { place = Slot 2 } ∷ [])) ≡ []
no_trim_of_other_places = refl

no_trim_without_service : reaper (record (with_past (replicas 1) (past 3 ∷ past 4 ∷ [])) { services = [] }) ≡ []
no_trim_without_service = refl

no_trim_during_update : reaper
    (with_past
    (record (replicas 1) { run = Some (record { status = status.Updating; version = 2; total = 1; replaced = [] }) })
    (past 3 ∷ past 4 ∷ placed_task 5 1 1 state.Running ∷ []))
    ≡ []
no_trim_during_update = refl

trimmed : after_trim (with_past (replicas 1) (past 3 ∷ past 4 ∷ [])) 3 ≡ with_past (replicas 1) (past 4 ∷ [])
trimmed = refl

-- Deletes come first.

deletes_first : reaper
    (with_past (replicas 1)
    (past 3 ∷ past 4 ∷ with_desired desired.Remove (placed_task 5 2 1 state.Failed) ∷ placed_task 6 1 1 state.Running
    ∷ []))
    ≡ duty.Delete 5 ∷ duty.Trim 3 ∷ []
deletes_first = refl
