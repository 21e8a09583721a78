-- The tables that control loops read.
use Rattle.std.specs.Prelude.{◌<◌}
use Rattle.swarm_objects.specs.Bounds.{HasNearTimes, IsSmall, far_end}
use Rattle.swarm_objects.specs.Sound.{IsOrderedBeside, IsSound}
use Rattle.swarm_objects.specs.World.{Tables, World}

-- the tables of every world that a call may be handed: sound, and with numbers far from the ends of their types
pub record IsUsable (t : Tables) : Type 0 where
  pub sound : IsSound t
  pub next_id : t.next_id < far_end
  pub clock : t.clock < far_end
  pub times : HasNearTimes t

-- a world that is sound and small has them
abbrev pub UsableLaw : Type 0
UsableLaw = (w : World) → IsSound w.tables → IsSmall w → IsUsable w.tables

-- the world that a call may be handed: with rows in order in the tables and beside them, and with small numbers
pub record IsUsableWorld (w : World) : Type 0 where
  pub sound : IsSound w.tables
  pub beside : IsOrderedBeside w
  pub small : IsSmall w
