-- The worlds that legal histories make.
use Rattle.std.specs.Prelude.{List, ◌≡◌}
use Rattle.swarm_model.specs.History.{IsLegal, replay}
use Rattle.swarm_objects.specs.World.{World}
use Rattle.swarm_objects.specs.declared.calls.Entry.{Entry}

-- a legal history makes this world
pub record IsReached (w : World) : Type 0 where
  pub history : List Entry
  pub legal : IsLegal history
  pub world : w ≡ replay history
