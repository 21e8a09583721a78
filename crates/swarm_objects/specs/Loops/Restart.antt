-- The duties on tasks that ended, and on tasks that wait to be raised.
use Rattle.std.specs.Prelude.{Bool, ◌&&◌, ◌||◌, not, ◌==◌, nat_le, List, ◌++◌, ◌+◌, ℕ, Some, [], ◌∷◌, None, Option, if◌then◌else◌}
use Rattle.std.specs.List.{list_any}
use Rattle.swarm_objects.specs.Changes.{wanted, change_task, on_service, on_task}
use Rattle.swarm_objects.specs.Loops.Words.{duty_where}
use Rattle.swarm_objects.specs.Nodes.Words.{is_astray, is_homed}
use Rattle.swarm_objects.specs.Rows.{on_row}
use Rattle.swarm_objects.specs.Services.Words.{is_service_and}
use Rattle.swarm_objects.specs.Tasks.New.{new_task, with_task}
use Rattle.swarm_objects.specs.Tasks.Places.{counts_for, newest, tasks_of_place, has_other}
use Rattle.swarm_objects.specs.Tasks.Policy.{no_restart}
use Rattle.swarm_objects.specs.Tasks.Words.{has_ended, is_live, is_below_assigned, is_unwanted, is_beside, is_to_wait}
use Rattle.swarm_objects.specs.World.{Tables}
use Rattle.swarm_objects.specs.declared.duties.Duty.{Duty}
use Rattle.swarm_objects.specs.declared.duties.Duty.TheVariants as duty
use Rattle.swarm_objects.specs.declared.services.Service.{Service}
use Rattle.swarm_objects.specs.declared.tasks.Attempt.{Attempt}
use Rattle.swarm_objects.specs.declared.tasks.Closed.{Closed}
use Rattle.swarm_objects.specs.declared.tasks.Desired.TheVariants as desired
use Rattle.swarm_objects.specs.declared.tasks.Place.{Place}
use Rattle.swarm_objects.specs.declared.tasks.Place.TheVariants.{On, Slot}
use Rattle.swarm_objects.specs.declared.tasks.Task.{Task}

-- its service is there, and for a job the task is of its iteration
abbrev pub is_current : Tables → Task → Bool
is_current t x = is_service_and t (λ s. counts_for s x) x

-- it has ended or is on an invalid node; a global service's task only where it has ended and its node is valid
abbrev pub is_over : Tables → Task → Place → Bool
is_over t x (Slot k) = has_ended x || is_astray t x
is_over t x (On k) = has_ended x && is_homed t x

abbrev pub wants_restart : Tables → Task → Bool
wants_restart t x = is_live x && is_over t x x.place && is_current t x

-- a task of the place that is to stop holds the other one up
abbrev pub is_in_the_way : Tables → Task → Bool
is_in_the_way t y = is_unwanted y && not (has_ended y || is_below_assigned y || is_astray t y)

-- another task of its service and place, of whatever iteration, holds it up
abbrev pub is_held_up : Tables → Task → Bool
is_held_up t x = list_any (λ y. is_beside x y && not (y.id == x.id) && is_in_the_way t y) t.tasks

abbrev pub wants_raise : Tables → Task → Bool
wants_raise t x =
    is_to_wait x && not (has_ended x) && nat_le x.raise_at t.clock && is_current t x && not (is_held_up t x)

abbrev pub restart : Tables → List Duty
restart t =
    duty_where (wants_restart t) (λ x. duty.Restart x.id) t.tasks
    ++ duty_where (wants_raise t) (λ x. duty.Raise x.id) t.tasks

-- What they do.

abbrev pub raised : ℕ → Task → Task
raised version x = record x { version = version; desired = x.goal }

abbrev pub closed_by : ℕ → Closed → Task → Task
closed_by version cause x = record x { version = version; closed = Some cause }

abbrev pub shut : ℕ → ℕ → Tables → Tables
shut version id t = change_task id (wanted version desired.Shutdown) t

abbrev pub new_attempt : Tables → Service → Place → Attempt
new_attempt t s p = record { service = s.id; place = p; version = s.template_version; at = t.clock }

abbrev pub with_attempt : Tables → Service → Place → Tables
with_attempt t s p = record t { attempts = t.attempts ++ new_attempt t s p ∷ [] }

-- the task that comes in its place waits for the delay
abbrev pub next_task : ℕ → Tables → Service → Place → Task
next_task version t s p =
    record (new_task version t s p desired.Ready) { raise_at = t.clock + s.spec.template.restart.delay }

-- a new task comes, or the place's newest task gets the cause
abbrev pub by_policy : ℕ → Tables → Service → Place → Option Closed → Tables
by_policy version t s p None = with_task (with_attempt t s p) (next_task version t s p)
by_policy version t s p (Some cause) =
    on_row t (λ y. change_task y.id (closed_by version cause) t) (newest (tasks_of_place s p t.tasks))

-- the task is to stop; where no other live task is in its place, the place gets a new task or is closed
abbrev pub restarted : ℕ → Tables → Task → Service → Tables
restarted version t x s =
    if has_other t s x then shut version x.id t
    else by_policy version (shut version x.id t) s x.place (no_restart t s x)

abbrev pub after_restart : ℕ → Tables → ℕ → Tables
after_restart version t id = on_task t id (λ x. on_service t x.service (restarted version t x))

abbrev pub after_raise : ℕ → Tables → ℕ → Tables
after_raise version t x = change_task x (raised version) t
