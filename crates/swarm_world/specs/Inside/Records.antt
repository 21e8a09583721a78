-- The rows of the world, and when they are a world's.
use Rattle.std.specs.Prelude.{◌≡◌}
use Rattle.swarm_objects.specs.World.{Tables, World}
use Rattle.swarm_objects.specs.Usable.{IsUsable}
use Rattle.swarm_store.specs.Stored.{StandsFor}
use Rattle.swarm_world.specs.declared.records.Records.{Records}

abbrev pub tables_of : Records → Tables
tables_of r = record r.store.tables { sessions = r.sessions.rows }

-- the rows and the sessions are those of the world
pub record HasRecords (r : Records) (w : World) : Type 0 where
  pub store : StandsFor r.store w
  pub sessions : r.sessions.rows ≡ w.tables.sessions

-- they are those of a world whose numbers are small
pub record AreUsable (r : Records) : Type 0 where
  pub world : World
  pub has : HasRecords r world
  pub usable : IsUsable world.tables
