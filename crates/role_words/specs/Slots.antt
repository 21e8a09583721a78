-- The places of a service, each with whether it is held.
use Rattle.std.specs.Prelude.{ℕ, List, [], ◌∷◌, map, filter, nat_le, if◌then◌else◌}
use Rattle.std.specs.List.{list_any}
use Rattle.swarm_objects.specs.Tasks.Places.{is_held, numbers_of, place_at, tasks_of_place}
use Rattle.swarm_objects.specs.Tasks.Words.{is_live}
use Rattle.swarm_objects.specs.declared.services.Service.{Service}
use Rattle.swarm_objects.specs.declared.tasks.Task.{Task}
use Rattle.role_words.specs.declared.window.Slot.{Slot}

abbrev pub slot_of : Service → List Task → ℕ → Slot
slot_of s tasks k = let place = place_at s.spec.mode k in record {
  number = k;
  is_live = list_any is_live (tasks_of_place s place tasks);
  is_held = is_held s place tasks;
}

-- the places that the service has tasks in, by rising number
abbrev pub slots : Service → List Task → List Slot
slots s tasks = map (slot_of s tasks) (numbers_of s tasks)

-- those of them from a number on
abbrev pub slots_from : ℕ → Service → List Task → List Slot
slots_from first s tasks = map (slot_of s tasks) (filter (nat_le first) (numbers_of s tasks))

-- their numbers
abbrev pub slot_numbers : List Slot → List ℕ
slot_numbers xs = map (λ x. x.number) xs

-- the numbers of those that are held
abbrev pub held_numbers : List Slot → List ℕ
held_numbers [] = []
held_numbers (x ∷ xs) = if x.is_held then x.number ∷ held_numbers xs else held_numbers xs
