-- All duties of all control loops along histories.
use Rattle.std.specs.Prelude.{List, [], flat_map, ◌∷◌}
use Rattle.swarm_model.specs.History.{step_world}
use Rattle.swarm_objects.specs.Duties.{duties}
use Rattle.swarm_objects.specs.Kinds.{roles}
use Rattle.swarm_objects.specs.World.{World}
use Rattle.swarm_objects.specs.declared.calls.Entry.{Entry}
use Rattle.swarm_objects.specs.declared.duties.Duty.{Duty}

abbrev pub all_duties : World → List Duty
all_duties w = flat_map (λ r. duties r w) roles

-- all duties before each of the entries, loop after loop
abbrev pub duties_along : World → List Entry → List (List Duty)
duties_along w [] = []
duties_along w (e ∷ es) = all_duties w ∷ duties_along (step_world w e) es
