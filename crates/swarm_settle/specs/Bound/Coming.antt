-- How many tasks can still come at one time.
use Rattle.std.specs.Prelude.{Bool, count_by, is_some, length, nat_le, not, sum_by, ℕ, ◌&&◌, ◌*◌, ◌+◌, ◌-◌}
use Rattle.std.specs.List.{list_any}
use Rattle.swarm_objects.specs.Kinds.{bit}
use Rattle.swarm_objects.specs.Loops.Global.{is_missing}
use Rattle.swarm_objects.specs.Nodes.Sessions.{is_session_live}
use Rattle.swarm_objects.specs.Rows.{has_row, node_id, on_row}
use Rattle.swarm_objects.specs.Services.Words.{is_job, is_live_clean}
use Rattle.swarm_objects.specs.Tasks.Places.{held_places, place_tasks}
use Rattle.swarm_objects.specs.World.{Tables}
use Rattle.swarm_objects.specs.declared.nodes.Node.{Node}
use Rattle.swarm_objects.specs.declared.services.Mode.TheVariants as mode
use Rattle.swarm_objects.specs.declared.services.Mode.{Mode}
use Rattle.swarm_objects.specs.declared.services.Service.{Service}
use Rattle.swarm_objects.specs.declared.services.ServiceSpec.{ServiceSpec}
use Rattle.swarm_objects.specs.declared.tasks.Task.{Task}

-- A task is new where its id is at least the number at which the time began.

abbrev pub is_new_since : ℕ → Task → Bool
is_new_since m x = nat_le m x.id

-- a clean live task in the place is new
abbrev pub is_renewed : ℕ → Tables → Service → ℕ → Bool
is_renewed m t s k = list_any (λ x. is_live_clean s x && is_new_since m x) (place_tasks t s k)

-- the held places whose task may be made anew
abbrev pub waiting_places : ℕ → Tables → Service → ℕ
waiting_places m t s = count_by (λ k. not (is_renewed m t s k)) (held_places t s)

abbrev pub places_held : Tables → Service → ℕ
places_held t s = length (held_places t s)

-- it may still go back, once
abbrev pub goes_back : Service → ℕ
goes_back s = bit (not (is_job s.spec.mode) && is_some s.previous)

abbrev pub replicas_in : Mode → ℕ
replicas_in (mode.Replicated replicas) = replicas
replicas_in mode.Global = 0
replicas_in (mode.Job concurrent total) = 0

abbrev pub replicas_before : Service → ℕ
replicas_before s = on_row 0 (λ (spec : ServiceSpec). replicas_in spec.mode) s.previous

-- a task comes where it is missing, where the node's session opens, and where the service goes back
abbrev pub coming_on : Tables → Service → Node → ℕ
coming_on t s n = goes_back s + bit (not (is_session_live t n.id)) + bit (is_missing t s n)

-- the held places of nodes that are gone
abbrev pub places_lost : Tables → Service → ℕ
places_lost t s = count_by (λ k. not (has_row node_id k t.nodes)) (held_places t s)

-- beside those of the held places: the missing ones, and what is wanted once it has gone back
abbrev pub coming_by_mode : Tables → Service → Mode → ℕ
coming_by_mode t s (mode.Replicated replicas) =
    (replicas - places_held t s) * (1 + goes_back s) + goes_back s * (places_held t s + replicas_before s)
coming_by_mode t s (mode.Job concurrent total) = total - places_held t s
coming_by_mode t s mode.Global = sum_by (coming_on t s) t.nodes + goes_back s * places_lost t s

abbrev pub coming_of : ℕ → Tables → Service → ℕ
coming_of m t s = waiting_places m t s + coming_by_mode t s s.spec.mode

abbrev pub coming : ℕ → Tables → ℕ
coming m t = sum_by (coming_of m t) t.services
