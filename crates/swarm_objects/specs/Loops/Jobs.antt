-- The duties on jobs.
use Rattle.std.specs.Prelude.{ℕ, Bool, nat_lt, ◌&&◌, List, [], length, not, flat_map, ◌++◌}
use Rattle.std.specs.List.{list_any}
use Rattle.swarm_objects.specs.Changes.{change_task, on_service, wanted, with_new}
use Rattle.swarm_objects.specs.Loops.Words.{when, duty_where}
use Rattle.swarm_objects.specs.Rows.{first_gap}
use Rattle.swarm_objects.specs.Services.Words.{is_job, is_service_and}
use Rattle.swarm_objects.specs.Tasks.Places.{held_places, live_places}
use Rattle.swarm_objects.specs.Tasks.Words.{is_kept, is_of}
use Rattle.swarm_objects.specs.World.{Tables}
use Rattle.swarm_objects.specs.declared.duties.Duty.{Duty}
use Rattle.swarm_objects.specs.declared.duties.Duty.TheVariants as duty
use Rattle.swarm_objects.specs.declared.services.Mode.{Mode}
use Rattle.swarm_objects.specs.declared.services.Mode.TheVariants as mode
use Rattle.swarm_objects.specs.declared.services.Service.{Service}
use Rattle.swarm_objects.specs.declared.tasks.Desired.TheVariants as desired
use Rattle.swarm_objects.specs.declared.tasks.Task.{Task}

-- a job's task of an earlier iteration that isn't to be removed
abbrev pub is_old_of : Task → Service → Bool
is_old_of x s = is_job s.spec.mode && nat_lt x.iteration s.iteration && is_kept x

abbrev pub is_old : Tables → Task → Bool
is_old t x = is_service_and t (is_old_of x) x

abbrev pub has_old : Tables → Service → Bool
has_old t s = list_any (λ x. is_of s.id x && is_old_of x s) t.tasks

-- a new task in the least slot from 0 that isn't held, while fewer run than may and fewer slots are held than there
-- are tasks
abbrev pub next_duty : Tables → Service → Mode → List Duty
next_duty t s (mode.Replicated replicas) = []
next_duty t s mode.Global = []
next_duty t s (mode.Job concurrent total) =
    when (nat_lt (length (live_places t s)) concurrent && nat_lt (length (held_places t s)) total && not (has_old t s))
    (duty.JobCreate s.id (first_gap 0 (held_places t s)))

abbrev pub jobs : Tables → List Duty
jobs t = duty_where (is_old t) (λ x. duty.Old x.id) t.tasks ++ flat_map (λ s. next_duty t s s.spec.mode) t.services

-- What they do.

abbrev pub after_old : ℕ → Tables → ℕ → Tables
after_old version t x = change_task x (wanted version desired.Remove) t

abbrev pub after_job_create : ℕ → Tables → ℕ → ℕ → Tables
after_job_create version t s k = on_service t s (λ v. with_new version desired.Complete t v k)
