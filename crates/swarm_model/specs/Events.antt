-- The events of a history, and what a watcher is told of them.
use Rattle.std.specs.Prelude.{AllPairs, ◌<◌, ◌⊎◌, List, [], ◌∷◌, ◌++◌, ◌+◌, ◌≡◌, ◌≢◌, ◌↔◌, ⊤, ℕ, None, Option, Some, filter, if◌then◌else◌, length, nat_lt}
use Rattle.swarm_model.specs.Calls.Watches.{waiting_events, waits_for}
use Rattle.swarm_model.specs.Changed.{changes_between}
use Rattle.swarm_model.specs.History.{replay, step, step_world}
use Rattle.swarm_model.specs.Outcome.{Outcome}
use Rattle.swarm_objects.specs.Limits.{most_events}
use Rattle.swarm_objects.specs.Rows.{Has, network_id, node_id, row_at, service_id, task_id, watcher_id}
use Rattle.swarm_objects.specs.World.{Tables, World, empty_world}
use Rattle.swarm_objects.specs.declared.calls.Call.TheVariants as call
use Rattle.swarm_objects.specs.declared.calls.Entry.{Entry}
use Rattle.swarm_objects.specs.declared.calls.What.TheVariants as what
use Rattle.swarm_objects.specs.declared.ids.Kind.{Kind}
use Rattle.swarm_objects.specs.declared.ids.Kind.TheVariants as kind
use Rattle.swarm_objects.specs.declared.replies.Refusal.TheVariants as refusal
use Rattle.swarm_objects.specs.declared.replies.Reply.{Reply}
use Rattle.swarm_objects.specs.declared.replies.Reply.TheVariants as reply
use Rattle.swarm_objects.specs.declared.watches.Event.{Event}
use Rattle.swarm_objects.specs.declared.watches.Verb.{Verb}
use Rattle.swarm_objects.specs.declared.watches.Verb.TheVariants as verb
use Rattle.swarm_objects.specs.declared.watches.Watcher.{Watcher}

-- this happened to a row
abbrev pub IsVerb : {X : Type 0} → Option X → Option X → Verb → Type 0
IsVerb None (Some new) verb.Created = ⊤
IsVerb (Some old) None verb.Deleted = ⊤
IsVerb (Some old) (Some new) verb.Updated = old ≢ new
IsVerb _ _ _ = ⊥

-- this happened to the object of that kind and id
abbrev pub IsChange : Tables → Tables → Kind → ℕ → Verb → Type 0
IsChange old new kind.Node id v = IsVerb (row_at node_id id old.nodes) (row_at node_id id new.nodes) v
IsChange old new kind.Service id v = IsVerb (row_at service_id id old.services) (row_at service_id id new.services) v
IsChange old new kind.Task id v = IsVerb (row_at task_id id old.tasks) (row_at task_id id new.tasks) v
IsChange old new kind.Network id v = IsVerb (row_at network_id id old.networks) (row_at network_id id new.networks) v
IsChange old new kind.Watcher id v = ⊥

-- the events between two worlds are all that happened to their objects, and nothing else
abbrev pub ChangesLaw : Type 0
ChangesLaw =
    (entry : ℕ) (old new : Tables) (e : Event) →
    Has (changes_between entry old new) e ↔ ((e.entry ≡ entry) × IsChange old new e.kind e.id e.verb)

abbrev pub kind_rank : Kind → ℕ
kind_rank kind.Node = 0
kind_rank kind.Service = 1
kind_rank kind.Task = 2
kind_rank kind.Network = 3
kind_rank kind.Watcher = 4

-- by kind, and by id within one
abbrev pub ComesBefore : Event → Event → Type 0
ComesBefore a b = (kind_rank a.kind < kind_rank b.kind) ⊎ ((a.kind ≡ b.kind) × (a.id < b.id))

-- the events between two worlds stand in this order, so each stands once
abbrev pub EventOrderLaw : Type 0
EventOrderLaw = (entry : ℕ) (old new : Tables) → AllPairs ComesBefore (changes_between entry old new)

-- the changes that each of these entries makes, in order
abbrev pub events_from : World → List Entry → List Event
events_from w [] = []
events_from w (e ∷ es) =
    changes_between (w.entries + 1) w.tables (step_world w e).tables ++ events_from (step_world w e) es

abbrev pub events_of_history : List Entry → List Event
events_of_history = events_from empty_world

-- the changes of every entry after the watcher's cursor that its filter admits
abbrev pub events_for : List Entry → Watcher → List Event
events_for h x = filter (waits_for x) (events_of_history h)

-- after any history, what waits for a watcher is all of that
abbrev pub WaitingLaw : Type 0
WaitingLaw = (h : List Entry) (x : Watcher) → Has (replay h).watchers x → waiting_events (replay h) x ≡ events_for h x

-- what a watcher is told, where these events wait for it
abbrev pub told_events : List Event → Reply
told_events events =
    if nat_lt most_events (length events) then reply.Refused (refusal.Lagged (length events)) else reply.Events events

abbrev pub poll : World → ℕ → Outcome
poll w id = step w (what.Call (call.WatchPoll id))

-- so a poll tells all of that, unless it is too much
abbrev pub PollLaw : Type 0
PollLaw =
    (h : List Entry) (id : ℕ) (x : Watcher) → row_at watcher_id id (replay h).watchers ≡ Some x →
    (poll (replay h) id).reply ≡ told_events (events_for h x)

-- and once: nothing waits for the watcher after it
abbrev pub ToldOnceLaw : Type 0
ToldOnceLaw =
    (h : List Entry) (id : ℕ) (x : Watcher) → Has (poll (replay h) id).after.watchers x → x.id ≡ id →
    waiting_events (poll (replay h) id).after x ≡ []
