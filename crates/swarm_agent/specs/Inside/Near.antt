-- The times that an agent reckons with.
use Rattle.swarm_objects.specs.Bounds.{has_near_times, is_near_change}
use Rattle.std.specs.List.{list_all}
use Rattle.std.specs.Prelude.{Bool, List, Option, true, ◌≡◌}
use Rattle.swarm_objects.specs.Rows.{on_row}
use Rattle.swarm_objects.specs.declared.agents.Executor.{Executor}
use Rattle.swarm_objects.specs.declared.messages.Message.{Message}

abbrev pub brings_near : Message → Bool
brings_near m = list_all is_near_change m.changes

-- those of the executors, and of the ones that the inbox brings
pub record AreNear (es : List Executor) (message : Option Message) : Type 0 where
  pub executors : list_all has_near_times es ≡ true
  pub inbox : on_row true brings_near message ≡ true
