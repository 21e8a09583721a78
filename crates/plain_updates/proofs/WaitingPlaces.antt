-- Whether a place of a service waits for its new task.
use Rattle.std.proofs.Common.{◌≡◌, ℕ, true}
use Rattle.std.specs.Prelude.{◌&&◌, not}
use Rattle.std.specs.List.{list_any}
use Rattle.swarm_plain.proofs.Suspects.{any_suspect}
use Rattle.swarm_plain.specs.Inside.OfPlace.{is_suspect}
use Rattle.swarm_model.specs.Settle.{has_waiting_place}
use Rattle.swarm_objects.proofs.Tests.{first_so}
use Rattle.swarm_objects.specs.Loops.Update.{is_to_replace}
use Rattle.swarm_objects.specs.Tasks.Places.{has_clean, is_dirty_place, place_number}
use Rattle.swarm_objects.specs.World.{Tables}
use Rattle.swarm_objects.specs.declared.services.Service.{Service}

-- only dirty places are given one
replace_dirty : (t : Tables) (s : Service) (k : ℕ) → is_to_replace t s k ≡ true → is_dirty_place t s k ≡ true
replace_dirty t s k e = first_so (is_dirty_place t s k) (not (has_clean t s k)) e

-- so the tasks that may make a place dirty are enough
pub any_replaced : (t : Tables) (s : Service) →
    list_any (λ x. is_suspect s x && is_to_replace t s (place_number x.place)) t.tasks ≡ has_waiting_place t s
any_replaced t s = any_suspect t s (is_to_replace t s) (replace_dirty t s)
