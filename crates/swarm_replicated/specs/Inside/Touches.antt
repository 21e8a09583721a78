-- Which services changes touch.
use Rattle.std.specs.Prelude.{Bool, Option, not, true, ℕ, ◌&&◌, ◌==◌, ◌||◌}
use Rattle.swarm_objects.specs.Rows.{is_row_and, task_id}
use Rattle.swarm_objects.specs.Same.{same_bool, same_place}
use Rattle.swarm_objects.specs.Tasks.Places.{closes}
use Rattle.swarm_objects.specs.Tasks.Words.{is_live}
use Rattle.swarm_objects.specs.World.{Tables}
use Rattle.swarm_objects.specs.declared.rows.Change.{Change}
use Rattle.swarm_objects.specs.declared.rows.Change.TheVariants as change
use Rattle.swarm_objects.specs.declared.tasks.Task.{Task}
use Rattle.swarm_replicated.specs.Inside.PlaceChanges.{is_it}

-- the two stand alike in any service's places
abbrev pub is_same_standing : Task → Task → Bool
is_same_standing x y =
    x.service == y.service && same_place x.place y.place && x.iteration == y.iteration
    && same_bool (is_live x) (is_live y) && same_bool (closes x) (closes y)

-- the task is there, and stands alike
abbrev pub keeps_standing : Tables → Task → Bool
keeps_standing t x = is_row_and task_id (is_same_standing x) t.tasks x.id

-- the task with this id is there, and of another service than this
abbrev pub was_other : Tables → Option ℕ → ℕ → Bool
was_other t service id = is_row_and task_id (λ y. not (is_it service y.service)) t.tasks id

-- the change touches no service but this one
abbrev pub touches_only : Tables → Option ℕ → Change → Bool
touches_only t service (change.PutNode n) = true
touches_only t service (change.PutService v) = is_it service v.id
touches_only t service (change.PutTask x) =
    keeps_standing t x || (is_it service x.service && not (was_other t service x.id))
touches_only t service (change.DropTask id) = not (was_other t service id)
touches_only t service (change.Keep a) = true
