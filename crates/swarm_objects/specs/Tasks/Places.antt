-- The places of a service: their tasks, which of them are held, and which are dirty.
use Rattle.std.specs.Prelude.{Bool, not, ◌==◌, ◌&&◌, ◌||◌, List, filter, Option, None, nat_lt, is_some, ℕ, [], fold}
use Rattle.std.specs.List.{last_or, list_any}
use Rattle.swarm_objects.specs.Rows.{is_some_and, with_number}
use Rattle.swarm_objects.specs.Same.{same_place}
use Rattle.swarm_objects.specs.Services.Words.{is_job, is_dirty, is_live_dirty, is_live_clean}
use Rattle.swarm_objects.specs.Tasks.Words.{is_live}
use Rattle.swarm_objects.specs.Values.Ranks.{desired_rank}
use Rattle.swarm_objects.specs.World.{Tables}
use Rattle.swarm_objects.specs.declared.services.Mode.{Mode}
use Rattle.swarm_objects.specs.declared.services.Mode.TheVariants as mode
use Rattle.swarm_objects.specs.declared.services.Service.{Service}
use Rattle.swarm_objects.specs.declared.tasks.Desired.TheVariants as desired
use Rattle.swarm_objects.specs.declared.tasks.Place.{Place}
use Rattle.swarm_objects.specs.declared.tasks.Place.TheVariants.{Slot, On}
use Rattle.swarm_objects.specs.declared.tasks.Task.{Task}

-- the task counts for the service's places: for a job only one of its iteration does
abbrev pub counts_for : Service → Task → Bool
counts_for s t = t.service == s.id && (not (is_job s.spec.mode) || t.iteration == s.iteration)

-- the task stands in this place of the service
abbrev pub is_in_place : Service → Place → Task → Bool
is_in_place s p t = counts_for s t && same_place t.place p

-- the place's tasks, by rising id
abbrev pub tasks_of_place : Service → Place → List Task → List Task
tasks_of_place s p tasks = filter (is_in_place s p) tasks

abbrev pub newest : List Task → Option Task
newest tasks = last_or None tasks

-- its place gets no further task, unless the task is to be removed
abbrev pub closes : Task → Bool
closes t = is_some t.closed && nat_lt (desired_rank t.desired) (desired_rank desired.Remove)

-- a live task stands in the place, or its newest task closes it
abbrev pub is_held : Service → Place → List Task → Bool
is_held s p tasks =
    list_any is_live (tasks_of_place s p tasks) || is_some_and closes (newest (tasks_of_place s p tasks))

-- the number of the slot or of the node
abbrev pub place_number : Place → ℕ
place_number (Slot k) = k
place_number (On node) = node

-- the numbers of the places that the service has tasks in, rising
abbrev pub numbers_of : Service → List Task → List ℕ
numbers_of s tasks = fold (λ ks t. with_number (place_number t.place) ks) [] (filter (counts_for s) tasks)

-- the place of the service with this number
abbrev pub place_at : Mode → ℕ → Place
place_at (mode.Replicated replicas) k = Slot k
place_at mode.Global k = On k
place_at (mode.Job concurrent total) k = Slot k

-- the tasks of the place with this number
abbrev pub place_tasks : Tables → Service → ℕ → List Task
place_tasks t s k = tasks_of_place s (place_at s.spec.mode k) t.tasks

-- the numbers of the places that the service has tasks in, rising
abbrev pub place_numbers : Tables → Service → List ℕ
place_numbers t s = numbers_of s t.tasks

abbrev pub is_held_place : Tables → Service → ℕ → Bool
is_held_place t s k = is_held s (place_at s.spec.mode k) t.tasks

-- the numbers of the places that are held, rising
abbrev pub held_places : Tables → Service → List ℕ
held_places t s = filter (is_held_place t s) (place_numbers t s)

abbrev pub has_live : Tables → Service → ℕ → Bool
has_live t s k = list_any is_live (place_tasks t s k)

-- the newest task closes the place and is dirty
abbrev pub closes_dirty : Service → Task → Bool
closes_dirty s x = closes x && is_dirty s x

-- it has a dirty live task, or it is held without a live one and its newest task is dirty
abbrev pub is_dirty_place : Tables → Service → ℕ → Bool
is_dirty_place t s k =
    list_any (is_live_dirty s) (place_tasks t s k)
    || (not (has_live t s k) && is_some_and (closes_dirty s) (newest (place_tasks t s k)))

abbrev pub dirty_places : Tables → Service → List ℕ
dirty_places t s = filter (is_dirty_place t s) (place_numbers t s)

abbrev pub has_dirty_place : Tables → Service → Bool
has_dirty_place t s = list_any (is_dirty_place t s) (place_numbers t s)

-- a clean live task stands in the place
abbrev pub has_clean : Tables → Service → ℕ → Bool
has_clean t s k = list_any (is_live_clean s) (place_tasks t s k)

-- the places with a live task
abbrev pub live_places : Tables → Service → List ℕ
live_places t s = filter (has_live t s) (place_numbers t s)

-- another live task stands in its place
abbrev pub has_other : Tables → Service → Task → Bool
has_other t s x = list_any (λ y. is_live y && not (y.id == x.id)) (tasks_of_place s x.place t.tasks)
