-- What tasks say of a place of a service.
use Rattle.std.specs.Prelude.{Bool, true, ◌==◌, ◌&&◌, ◌||◌, List, if◌then◌else◌, ℕ}
use Rattle.std.specs.List.{list_any}
use Rattle.swarm_objects.specs.Rows.{is_some_and}
use Rattle.swarm_objects.specs.Tasks.Places.{closes, is_in_place, newest, numbers_of, place_at, place_number, tasks_of_place}
use Rattle.swarm_objects.specs.Tasks.Words.{is_live}
use Rattle.swarm_objects.specs.declared.services.Service.{Service}
use Rattle.swarm_objects.specs.declared.tasks.Task.{Task}
use Rattle.role_words.specs.declared.window.Mark.{Mark}

-- the number is one of those of the service's places
abbrev pub has_number : Service → List Task → ℕ → Bool
has_number s tasks k = list_any (λ j. j == k) (numbers_of s tasks)

-- the tasks of the service's place with this number
abbrev pub tasks_at : Service → List Task → ℕ → List Task
tasks_at s tasks k = tasks_of_place s (place_at s.spec.mode k) tasks

-- what tasks say of the place with this number
abbrev pub mark_of : Service → List Task → ℕ → Mark
mark_of s tasks k = record {
  has_task = has_number s tasks k;
  is_live = list_any is_live (tasks_at s tasks k);
  is_closed = is_some_and closes (newest (tasks_at s tasks k));
}

-- the task stands in the service's place with its number
abbrev pub stands : Service → Task → Bool
stands s x = is_in_place s (place_at s.spec.mode (place_number x.place)) x

-- the same with one task more, that counts and has the place's number
abbrev pub mark_with : Service → Task → Mark → Mark
mark_with s x m = record {
  has_task = true;
  is_live = m.is_live || (stands s x && is_live x);
  is_closed = if stands s x then closes x else m.is_closed;
}
