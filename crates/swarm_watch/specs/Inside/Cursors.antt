-- Watchers as places in the list of events that are kept.
use Rattle.std.specs.Prelude.{ℕ, Bool, None, filter, nat_le, nat_lt, List, [], ◌∷◌, length, map, if◌then◌else◌, drop, take, true, ◌≡◌, ◌≤◌, ◌-◌, ◌&&◌, suc, ⊤}
use Rattle.std.specs.List.{list_any}
use Rattle.swarm_objects.specs.Watches.{filter_admits}
use Rattle.swarm_objects.specs.Rows.{row_at}
use Rattle.swarm_objects.specs.declared.watches.Event.{Event}
use Rattle.swarm_watch.specs.Watchings.{Watching, waiting_of}
use Rattle.swarm_watch.specs.declared.cursors.Cursor.{Cursor}

abbrev pub cursor_id : Cursor → ℕ
cursor_id x = x.id

-- the watcher, where these events are kept
abbrev pub watching_at : List Event → Cursor → Watching
watching_at kept x =
    record { id = x.id; filter = x.filter; waiting = waiting_of (filter (filter_admits x.filter) (drop x.from kept)) }

abbrev pub watchings : List Event → List Cursor → List Watching
watchings kept xs = map (watching_at kept) xs

-- it waits for the event at this place
abbrev pub waits_at : ℕ → Event → Cursor → Bool
waits_at place e x = nat_le x.from place && filter_admits x.filter e

abbrev pub is_waited_at : List Cursor → ℕ → Event → Bool
is_waited_at xs place e = list_any (waits_at place e) xs

-- some watcher's filter admits the event
abbrev pub is_admitted : List Cursor → Event → Bool
is_admitted xs e = list_any (λ x. filter_admits x.filter e) xs

-- where an event at this place is given up, who waits behind it has its place one lower
abbrev pub stepped_back : ℕ → Cursor → Cursor
stepped_back place x = if nat_lt place x.from then record x { from = x.from - 1 } else x

-- each of the events, the first of which stands at this place, is waited for
abbrev pub AreWaited : List Cursor → ℕ → List Event → Type 0
AreWaited xs place [] = ⊤
AreWaited xs place (e ∷ es) = (is_waited_at xs place e ≡ true) × AreWaited xs (suc place) es

-- no watcher's place is behind so many events
abbrev pub AreWithin : ℕ → List Cursor → Type 0
AreWithin count [] = ⊤
AreWithin count (x ∷ xs) = (x.from ≤ count) × AreWithin count xs

-- no two watchers have one id
abbrev pub AreDistinct : List Cursor → Type 0
AreDistinct [] = ⊤
AreDistinct (x ∷ xs) = (row_at cursor_id x.id xs ≡ None) × AreDistinct xs

-- of the first so many events, each is kept for a watcher that waits for it
pub record IsSwept (xs : List Cursor) (kept : List Event) (count : ℕ) : Type 0 where
  pub distinct : AreDistinct xs
  pub within : AreWithin (length kept) xs
  pub waited : AreWaited xs 0 (take count kept)

-- each event is
pub record IsTidy (xs : List Cursor) (kept : List Event) : Type 0 where
  pub distinct : AreDistinct xs
  pub within : AreWithin (length kept) xs
  pub waited : AreWaited xs 0 kept
