-- The rows of the world are those of the world that they stand for.
use Rattle.std.proofs.Common.{◌≡◌, List, [], false, ap, subst, sym, ◌∙◌}
use Rattle.swarm_objects.specs.World.{Tables, World, empty_tables, empty_world}
use Rattle.swarm_objects.specs.declared.sessions.NodeSession.{NodeSession}
use Rattle.swarm_objects.specs.Usable.{IsUsable}
use Rattle.swarm_store.specs.Stored.{HasNearTasks}
use Rattle.swarm_world.specs.Inside.Records.{AreUsable, HasRecords, tables_of}
use Rattle.swarm_world.specs.Inside.Parts.{StandsFor}
use Rattle.swarm_world.specs.declared.parts.Parts.{Parts}
use Rattle.swarm_world.specs.declared.records.Records.{Records}

pub tables_are : (r : Records) (w : World) → HasRecords r w → tables_of r ≡ w.tables
tables_are r w has =
    ap (λ (t : Tables). record t { sessions = r.sessions.rows }) has.store
    ∙ ap (λ (rows : List NodeSession). record w.tables { sessions = rows }) has.sessions

pub usable_rows : (r : Records) → AreUsable r → IsUsable (tables_of r)
usable_rows r are = subst IsUsable (sym (tables_are r are.world are.has)) are.usable

-- what the store asks for where it is looked at
pub near_store : (r : Records) → AreUsable r → HasNearTasks r.store.tables
near_store r are =
    subst HasNearTasks (sym are.has.store)
    (record { next_id = are.usable.next_id; times = are.usable.times.tasks })

-- the parts of the empty world
pub new_stands : (p : Parts) → p.records.store.tables ≡ empty_tables → p.records.sessions.rows ≡ [] →
    p.watches.watchers ≡ [] → p.sent ≡ [] → p.agents ≡ [] → p.halted ≡ false → StandsFor p empty_world
new_stands p store sessions watchers sent agents halted = record {
  has = record {
    records = record { store = store; sessions = sessions };
    sent = sent;
    agents = agents;
    halted = halted;
  };
  watches = watchers;
}
