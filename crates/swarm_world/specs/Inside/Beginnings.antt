-- Sessions that begin.
use Rattle.std.specs.Prelude.{◌≡◌, ◌+◌, ℕ, List, Result, Ok, Err, map}
use Rattle.swarm_model.specs.Changed.{changes_between}
use Rattle.swarm_objects.specs.ChangeLists.{apply_changes}
use Rattle.swarm_objects.specs.Changes.{with_tables}
use Rattle.swarm_objects.specs.Loops.Agents.{without_sent}
use Rattle.swarm_objects.specs.Nodes.Sessions.{new_session}
use Rattle.swarm_objects.specs.Rows.{session_node, with_row}
use Rattle.swarm_objects.specs.World.{Tables, World}
use Rattle.swarm_objects.specs.declared.rows.Change.{Change}
use Rattle.swarm_watch.specs.Calls.{hears}
use Rattle.swarm_world.specs.Inside.Parts.{HasParts, StandsFor}
use Rattle.swarm_world.specs.declared.parts.Parts.{Parts}

-- the node's session begins, with the next id
abbrev pub with_session : ℕ → Tables → Tables
with_session node t =
    record t { next_id = t.next_id + 1; sessions = with_row session_node (new_session t node) t.sessions }

-- and in it nothing was sent
abbrev pub begun_world : ℕ → List Change → World → World
begun_world node cs w = without_sent node (with_tables w (with_session node (apply_changes w.tables cs)))

-- changes of rows were made and then a session began, with this id, and the watchers heard of the changes; or memory
-- was wanting, and nothing changed
abbrev pub Begins : {E : Type 0} → ℕ → World → ℕ → List Change → Parts → Result ℕ E → Parts → Type 0
Begins version w node cs before (Ok id) after =
    (id ≡ (apply_changes w.tables cs).next_id) × HasParts after (begun_world node cs w)
    × (after.watches.watchers
    ≡ map (hears (changes_between version w.tables (apply_changes w.tables cs))) before.watches.watchers)
Begins version w node cs before (Err wanting) after = StandsFor after w
