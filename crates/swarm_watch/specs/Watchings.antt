-- What watches are seen as.
use Rattle.std.specs.Prelude.{ℕ, List, ◌+◌, ◌++◌, length, nat_lt, if◌then◌else◌}
use Rattle.swarm_objects.specs.Limits.{most_events}
use Rattle.swarm_objects.specs.declared.watches.Event.{Event}
use Rattle.swarm_objects.specs.declared.watches.Filter.{Filter}

-- what waits for a watcher: events in order, or of more than it can be told at once their number alone
pub data Waiting : Type 0 where
  Few : List Event → Waiting
  Many : ℕ → Waiting

abbrev pub waiting_of : List Event → Waiting
waiting_of events = if nat_lt most_events (length events) then Many (length events) else Few events

-- and these come to wait, too
abbrev pub waits_more : Waiting → List Event → Waiting
waits_more (Few before) events = waiting_of (before ++ events)
waits_more (Many count) events = Many (count + length events)

pub record Watching : Type 0 where
  pub id : ℕ
  pub filter : Filter
  pub waiting : Waiting

-- in the order in which they began, with the number of events for which there is memory
pub record Watchings : Type 0 where
  pub watchers : List Watching
  pub room : ℕ

abbrev pub watching_id : Watching → ℕ
watching_id x = x.id
