-- Words on a service, and on a task beside its service.
use Rattle.std.specs.Prelude.{Bool, true, false, not, ◌&&◌, ◌==◌, ◌||◌}
use Rattle.swarm_objects.specs.Rows.{has_row, service_id, is_row_and}
use Rattle.swarm_objects.specs.Same.{same_template}
use Rattle.swarm_objects.specs.Tasks.Words.{is_live}
use Rattle.swarm_objects.specs.World.{Tables}
use Rattle.swarm_objects.specs.declared.services.Mode.{Mode}
use Rattle.swarm_objects.specs.declared.services.Mode.TheVariants as mode
use Rattle.swarm_objects.specs.declared.services.Service.{Service}
use Rattle.swarm_objects.specs.declared.tasks.Task.{Task}

abbrev pub is_job : Mode → Bool
is_job (mode.Replicated n) = false
is_job mode.Global = false
is_job (mode.Job concurrent total) = true

abbrev pub has_service : Tables → Task → Bool
has_service t x = has_row service_id x.service t.services

-- the test, of the task's service where it is there
abbrev pub is_service_and : Tables → (Service → Bool) → Task → Bool
is_service_and t test x = is_row_and service_id test t.services x.service

-- the task has its service's template, and for a job its iteration
abbrev pub is_clean : Service → Task → Bool
is_clean s x = same_template x.template s.spec.template && (not (is_job s.spec.mode) || x.iteration == s.iteration)

abbrev pub is_dirty : Service → Task → Bool
is_dirty s x = not (is_clean s x)

abbrev pub is_live_clean : Service → Task → Bool
is_live_clean s x = is_live x && is_clean s x

abbrev pub is_live_dirty : Service → Task → Bool
is_live_dirty s x = is_live x && is_dirty s x
