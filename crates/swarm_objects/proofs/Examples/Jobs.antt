-- Jobs, computed.
use Rattle.std.specs.Prelude.{List, Some, [], refl, ℕ, ◌∷◌, ◌≡◌}
use Rattle.swarm_objects.proofs.Examples.Rows.{job, node, placed_task, tables, task, with_desired}
use Rattle.swarm_objects.specs.Loops.Jobs.{after_job_create, after_old, jobs}
use Rattle.swarm_objects.specs.World.{Tables}
use Rattle.swarm_objects.specs.declared.duties.Duty.TheVariants as duty
use Rattle.swarm_objects.specs.declared.tasks.Closed.TheVariants as closed
use Rattle.swarm_objects.specs.declared.tasks.Desired.TheVariants as desired
use Rattle.swarm_objects.specs.declared.tasks.Place.TheVariants.{Slot}
use Rattle.swarm_objects.specs.declared.tasks.Task.{Task}
use Rattle.swarm_objects.specs.declared.tasks.TaskState.{TaskState}
use Rattle.swarm_objects.specs.declared.tasks.TaskState.TheVariants as state

abbrev of_job : ℕ → ℕ → TaskState → Task
of_job id slot s = record (placed_task id slot 1 s) { goal = desired.Complete; desired = desired.Complete }

abbrev with_job : ℕ → List Task → Tables
with_job iteration tasks = tables (node 1 ∷ []) (record (job 2 3) { iteration = iteration } ∷ []) tasks

-- Tasks of earlier iterations.

old_of_earlier : jobs (with_job 1 (of_job 3 0 state.Running ∷ [])) ≡ duty.Old 3 ∷ []
old_of_earlier = refl

not_old_twice : jobs (with_job 1 (with_desired desired.Remove (of_job 3 0 state.Running) ∷ []))
    ≡ duty.JobCreate 2 0 ∷ []
not_old_twice = refl

not_old_of_this : jobs (with_job 0 (of_job 3 0 state.Running ∷ of_job 4 1 state.Running ∷ [])) ≡ []
not_old_of_this = refl

not_old_without_job : jobs (tables [] [] (of_job 3 0 state.Running ∷ [])) ≡ []
not_old_without_job = refl

made_old : after_old 7 (with_job 1 (of_job 3 0 state.Running ∷ [])) 3
    ≡ with_job 1 (record (of_job 3 0 state.Running) { version = 7; desired = desired.Remove } ∷ [])
made_old = refl

-- New ones, from slot 0; none beside old ones, as above.

create_first : jobs (with_job 0 []) ≡ duty.JobCreate 2 0 ∷ []
create_first = refl

create_second : jobs (with_job 0 (of_job 3 0 state.Running ∷ [])) ≡ duty.JobCreate 2 1 ∷ []
create_second = refl

abbrev done_in : ℕ → ℕ → Task
done_in id slot = record (of_job id slot state.Complete) { desired = desired.Shutdown; closed = Some closed.Done }

-- a slot that is done is held, and no live one
create_last : jobs (with_job 0 (done_in 3 0 ∷ of_job 4 1 state.Running ∷ [])) ≡ duty.JobCreate 2 2 ∷ []
create_last = refl

no_create_beyond_total : jobs (with_job 0 (done_in 3 0 ∷ of_job 4 1 state.Running ∷ of_job 5 2 state.Running ∷ [])) ≡ []
no_create_beyond_total = refl

created : after_job_create 7 (with_job 1 []) 2 0
    ≡ record (with_job 1 (
    record (task 50 (Slot 0) state.New) {
      version = 7;
      iteration = 1;
      goal = desired.Complete;
      since = 1000;
      desired = desired.Complete;
      created = 1000;
      raise_at = 1000;
    } ∷ [])) { next_id = 51 }
created = refl
