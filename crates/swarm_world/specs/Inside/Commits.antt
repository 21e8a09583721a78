-- Committing changes of rows.
use Rattle.std.specs.Prelude.{◌≡◌, ◌≤◌, ℕ, List, Result, Ok, Err, filter, length, map}
use Rattle.swarm_model.specs.Changed.{changes_between}
use Rattle.swarm_objects.specs.ChangeLists.{apply_changes}
use Rattle.swarm_objects.specs.Changes.{with_tables}
use Rattle.swarm_objects.specs.World.{World}
use Rattle.swarm_objects.specs.declared.rows.Change.{Change}
use Rattle.swarm_objects.specs.declared.watches.Event.{Event}
use Rattle.swarm_watch.specs.Calls.{hears, is_awaited}
use Rattle.swarm_watch.specs.Watchings.{Watchings}
use Rattle.swarm_world.specs.Inside.Records.{HasRecords}
use Rattle.swarm_world.specs.declared.records.Records.{Records}

-- there is room for so many events, whichever they are
abbrev pub HasRoom : ℕ → Watchings → Type 0
HasRoom most watches =
    (events : List Event) → length events ≤ most →
    length (filter (is_awaited watches.watchers) events) ≤ watches.room

-- the changes were applied as the entry with this number, the watchers heard of them, and the sessions stayed with
-- their room; or memory was wanting, and nothing changed
abbrev pub Commits : {X E : Type 0} → ℕ → List Change → Records → Watchings → Result X E → Records → Watchings → Type 0
Commits version cs r m (Ok done) after heard =
    (w : World) → HasRecords r w →
    HasRecords after (with_tables w (apply_changes w.tables cs))
    × (heard.watchers ≡ map (hears (changes_between version w.tables (apply_changes w.tables cs))) m.watchers)
    × (after.sessions ≡ r.sessions)
Commits version cs r m (Err wanting) after heard =
    ((w : World) → HasRecords r w → HasRecords after w) × (heard.watchers ≡ m.watchers)
