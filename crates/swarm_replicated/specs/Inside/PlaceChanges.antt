-- What changes make of a service's places.
use Rattle.std.specs.List.{list_all, list_any}
use Rattle.std.specs.Prelude.{Bool, List, None, Option, Some, false, if◌then◌else◌, nat_le, nat_lt, not, true, ℕ, ◌&&◌}
use Rattle.std.specs.Prelude.{◌==◌, ◌||◌}
use Rattle.role_words.specs.Marks.{stands}
use Rattle.swarm_objects.specs.Rows.{is_row_and, task_id}
use Rattle.swarm_objects.specs.Same.{same_bool}
use Rattle.swarm_objects.specs.Tasks.Places.{closes, place_number, place_tasks}
use Rattle.swarm_objects.specs.Tasks.Words.{is_live}
use Rattle.swarm_objects.specs.World.{Tables}
use Rattle.swarm_objects.specs.declared.rows.Change.{Change}
use Rattle.swarm_objects.specs.declared.rows.Change.TheVariants as change
use Rattle.swarm_objects.specs.declared.services.Mode.TheVariants as mode
use Rattle.swarm_objects.specs.declared.services.Mode.{Mode}
use Rattle.swarm_objects.specs.declared.services.Service.{Service}
use Rattle.swarm_objects.specs.declared.tasks.Task.{Task}
use Rattle.swarm_replicated.specs.declared.reach.Reach.TheVariants as reach
use Rattle.swarm_replicated.specs.declared.reach.Reach.{Reach}

-- Which places a change spares.

-- the number is this one
abbrev pub is_it : Option ℕ → ℕ → Bool
is_it None j = false
is_it (Some k) j = k == j

-- the task stands in a place of the service, another one than this
abbrev pub is_elsewhere : Service → Option ℕ → Task → Bool
is_elsewhere s place x = stands s x && not (is_it place (place_number x.place))

-- the task with this id stands there
abbrev pub was_elsewhere : Tables → Service → Option ℕ → ℕ → Bool
was_elsewhere t s place id = is_row_and task_id (is_elsewhere s place) t.tasks id

-- the place of the service that the task stands in
abbrev pub place_of : Service → Task → Reach
place_of s x = if stands s x then reach.One (place_number x.place) else reach.Nothing

-- both stand in the same place, and make the same of it
abbrev pub is_alike : Service → Task → Task → Bool
is_alike s x y =
    stands s x && stands s y && place_number x.place == place_number y.place && same_bool (is_live x) (is_live y)
    && same_bool (closes x) (closes y)

-- the task is there, and alike
abbrev pub goes_on : Tables → Service → Task → Bool
goes_on t s x = is_row_and task_id (is_alike s x) t.tasks x.id

abbrev pub is_replicated : Mode → Bool
is_replicated (mode.Replicated replicas) = true
is_replicated mode.Global = false
is_replicated (mode.Job concurrent total) = false

-- with this row as its own the service has the same places: slots, whose tasks are those of its id
abbrev pub keeps_places : Service → Service → Bool
keeps_places s v = is_replicated s.spec.mode && is_replicated v.spec.mode

-- each place of the service but this one is held after the change as before
abbrev pub spares : Tables → Service → Option ℕ → Change → Bool
spares t s place (change.PutNode n) = true
spares t s place (change.PutService v) = not (v.id == s.id) || keeps_places s v
spares t s place (change.PutTask x) =
    goes_on t s x || (not (is_elsewhere s place x) && not (was_elsewhere t s place x.id))
spares t s place (change.DropTask id) = not (was_elsewhere t s place id)
spares t s place (change.Keep a) = true

-- Whether the place with a number is held after changes.

-- the task is live and stands in the place, so this is held
abbrev pub holds : Service → ℕ → Task → Bool
holds s k x = is_live x && stands s x && place_number x.place == k

-- the change puts a task with this id or a greater one, which holds the place
abbrev pub fills : Service → ℕ → ℕ → Change → Bool
fills s k next (change.PutTask x) = nat_le next x.id && holds s k x
fills s k next _ = false

-- the change leaves such a task, or puts another one
abbrev pub leaves_full : Service → ℕ → ℕ → Change → Bool
leaves_full s k next (change.PutTask x) = nat_lt x.id next || holds s k x
leaves_full s k next (change.DropTask id) = nat_lt id next
leaves_full s k next _ = true

-- a new task comes, and holds the place
abbrev pub is_filled : Tables → Service → ℕ → List Change → Bool
is_filled t s k cs = list_any (fills s k t.next_id) cs && list_all (leaves_full s k t.next_id) cs

-- the change puts the task with this id, or drops it
abbrev pub names : ℕ → Change → Bool
names id (change.PutTask x) = x.id == id
names id (change.DropTask k) = k == id
names id _ = false

abbrev pub is_named : List Change → ℕ → Bool
is_named cs id = list_any (names id) cs

-- a live task of the place stays as it is
abbrev pub is_kept : Tables → Service → ℕ → List Change → Bool
is_kept t s k cs = list_any (λ x. is_live x && not (is_named cs x.id)) (place_tasks t s k)

abbrev pub may_hold : Task → Bool
may_hold x = is_live x || closes x

-- the change puts no task that may hold the place
abbrev pub puts_none : Service → ℕ → Change → Bool
puts_none s k (change.PutTask x) = not (may_hold x) || not (stands s x) || not (place_number x.place == k)
puts_none s k _ = true

-- a task that may hold the place stays as it is
abbrev pub may_stay : Tables → Service → ℕ → List Change → Bool
may_stay t s k cs = list_any (λ x. may_hold x && not (is_named cs x.id)) (place_tasks t s k)

-- no task that may hold the place stays or comes
abbrev pub is_emptied : Tables → Service → ℕ → List Change → Bool
is_emptied t s k cs = list_all (puts_none s k) cs && not (may_stay t s k cs)
