-- Which tasks of a place are meant, and which services have a place on each node.
use Rattle.std.specs.Prelude.{Bool, true, false, ℕ, ◌&&◌, ◌||◌, ◌==◌}
use Rattle.std.specs.List.{list_any}
use Rattle.swarm_plain.specs.declared.tasks.Which.{Which}
use Rattle.swarm_plain.specs.declared.tasks.Which.TheVariants as which
use Rattle.swarm_objects.specs.Loops.Global.{is_missing}
use Rattle.swarm_objects.specs.Services.Words.{is_live_dirty}
use Rattle.swarm_objects.specs.Tasks.Places.{closes_dirty, counts_for, is_in_place, place_at, place_number}
use Rattle.swarm_objects.specs.Tasks.Words.{is_kept, is_live}
use Rattle.swarm_objects.specs.World.{Tables}
use Rattle.swarm_objects.specs.declared.services.Mode.{Mode}
use Rattle.swarm_objects.specs.declared.services.Mode.TheVariants as mode
use Rattle.swarm_objects.specs.declared.services.Service.{Service}
use Rattle.swarm_objects.specs.declared.tasks.Task.{Task}

abbrev pub is_meant : Which → Service → Task → Bool
is_meant which.Kept s x = is_kept x
is_meant which.Live s x = is_live x
is_meant which.LiveDirty s x = is_live_dirty s x

-- the task stands in the service's place with this number, and is meant
abbrev pub is_meant_at : Which → Service → ℕ → Task → Bool
is_meant_at w s k x = is_in_place s (place_at s.spec.mode k) x && is_meant w s x

abbrev pub is_global : Mode → Bool
is_global (mode.Replicated replicas) = false
is_global mode.Global = true
is_global (mode.Job concurrent total) = false

-- the node with this id is to have a task of the service
abbrev pub missing_on : Tables → Service → ℕ → Bool
missing_on t s node = list_any (λ n. n.id == node && is_missing t s n) t.nodes

-- the task may make its place dirty
abbrev pub is_suspect : Service → Task → Bool
is_suspect s x = counts_for s x && (is_live_dirty s x || closes_dirty s x)
