-- Whether an ended task is made anew.
use Rattle.std.specs.Prelude.{count_by, ℕ, Bool, false, true, nat_le, nat_lt, ◌&&◌, None, Option, Some, if◌then◌else◌}
use Rattle.swarm_objects.specs.Services.Words.{is_job}
use Rattle.swarm_objects.specs.Tasks.Attempts.{is_kept_attempt}
use Rattle.swarm_objects.specs.Tasks.Words.{is_complete}
use Rattle.swarm_objects.specs.World.{Tables}
use Rattle.swarm_objects.specs.declared.services.Service.{Service}
use Rattle.swarm_objects.specs.declared.tasks.Closed.{Closed}
use Rattle.swarm_objects.specs.declared.tasks.Closed.TheVariants as closed
use Rattle.swarm_objects.specs.declared.tasks.Place.{Place}
use Rattle.swarm_objects.specs.declared.tasks.Task.{Task}
use Rattle.swarm_objects.specs.declared.templates.RestartCondition.{RestartCondition}
use Rattle.swarm_objects.specs.declared.templates.RestartCondition.TheVariants as condition

-- the attempts that count
abbrev pub attempts_made : Tables → Service → Place → ℕ
attempts_made t s p =
    count_by (is_kept_attempt t.clock s.id p s.template_version s.spec.template.restart.window) t.attempts

abbrev pub forbids : RestartCondition → Bool → Bool
forbids condition.Never complete = true
forbids condition.OnFailure complete = complete
forbids condition.Any complete = false

-- there is a maximum, and this many attempts reach it
abbrev pub reaches : ℕ → ℕ → Bool
reaches attempts most = nat_lt 0 most && nat_le most attempts

-- the first cause by which the task may not be made anew
abbrev pub no_restart : Tables → Service → Task → Option Closed
no_restart t s x =
    if is_job s.spec.mode && is_complete x.state then Some closed.Done
    else if forbids s.spec.template.restart.condition (is_complete x.state) then Some closed.Condition
    else if reaches (attempts_made t s x.place) s.spec.template.restart.max_attempts
    then Some (closed.Attempts (attempts_made t s x.place))
    else None
