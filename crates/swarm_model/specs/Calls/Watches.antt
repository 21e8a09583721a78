-- Watchers, and the events that they wait for.
use Rattle.swarm_objects.specs.Watches.{filter_admits}
use Rattle.std.specs.Prelude.{ℕ, Bool, None, Option, Some, ◌&&◌, filter, nat_lt, List, [], ◌++◌, ◌+◌, ◌∷◌, length, if◌then◌else◌, Err, Ok}
use Rattle.std.specs.List.{list_any}
use Rattle.swarm_model.specs.Calls.Refusals.{too_many}
use Rattle.swarm_objects.specs.Refusals.{unless}
use Rattle.swarm_model.specs.Changed.{changes_between}
use Rattle.swarm_model.specs.Outcome.{Answered}
use Rattle.swarm_objects.specs.Changes.{id_taken}
use Rattle.swarm_objects.specs.Limits.{most_watchers, most_events}
use Rattle.swarm_objects.specs.Rows.{watcher_id, drop_row, change_row}
use Rattle.swarm_objects.specs.World.{World}
use Rattle.swarm_objects.specs.declared.ids.Kind.TheVariants as kind
use Rattle.swarm_objects.specs.declared.replies.Refusal.TheVariants as refusal
use Rattle.swarm_objects.specs.declared.replies.Reply.{Reply}
use Rattle.swarm_objects.specs.declared.replies.Reply.TheVariants as reply
use Rattle.swarm_objects.specs.declared.watches.Event.{Event}
use Rattle.swarm_objects.specs.declared.watches.Filter.{Filter}
use Rattle.swarm_objects.specs.declared.watches.Watcher.{Watcher}

-- Watchers.

-- an event of a later entry than it was told of, which its filter admits
abbrev pub waits_for : Watcher → Event → Bool
waits_for x e = nat_lt x.cursor e.entry && filter_admits x.filter e

abbrev pub waiting_events : World → Watcher → List Event
waiting_events w x = filter (waits_for x) w.events

abbrev pub is_waited_for : List Watcher → Event → Bool
is_waited_for watchers e = list_any (λ x. waits_for x e) watchers

-- the events of an entry are kept where a watcher waits for them, and as long as one does
abbrev pub kept_events : World → World → List Watcher → List Event
kept_events old new [] = []
kept_events old new (x ∷ xs) =
    filter (is_waited_for (x ∷ xs)) (old.events ++ changes_between (old.entries + 1) old.tables new.tables)

-- Calls.

abbrev pub new_watcher : ℕ → ℕ → Filter → Watcher
new_watcher entry id f = record { id = id; filter = f; cursor = entry }

abbrev pub with_watcher : ℕ → World → Filter → World
with_watcher entry w f =
    record w { tables = id_taken w.tables; watchers = w.watchers ++ new_watcher entry w.tables.next_id f ∷ [] }

abbrev pub watch_begin : ℕ → World → Filter → Answered
watch_begin entry w f =
    unless (too_many kind.Watcher most_watchers (length w.watchers))
    (reply.WatchBegun w.tables.next_id, with_watcher entry w f)

abbrev pub without_watcher : ℕ → World → World
without_watcher id w = record w { watchers = drop_row watcher_id id w.watchers }

abbrev pub told_all : ℕ → Watcher → Watcher
told_all entry x = record x { cursor = entry }

abbrev pub told_at : ℕ → ℕ → World → World
told_at entry id w = record w { watchers = change_row watcher_id id (told_all entry) w.watchers }

-- more events than a watcher may have waiting take it away; else it is told them all
abbrev pub polled : ℕ → World → ℕ → List Event → Reply × World
polled entry w id events =
    if nat_lt most_events (length events) then (reply.Refused (refusal.Lagged (length events)), without_watcher id w)
    else (reply.Events events, told_at entry id w)

abbrev pub watch_poll : ℕ → World → ℕ → Option Watcher → Answered
watch_poll entry w id None = Err (refusal.UnknownWatcher id)
watch_poll entry w id (Some x) = Ok (polled entry w id (waiting_events w x))

abbrev pub watch_finish : World → ℕ → Option Watcher → Answered
watch_finish w id None = Err (refusal.UnknownWatcher id)
watch_finish w id (Some x) = Ok (reply.WatchFinished id, without_watcher id w)
