-- The watches of a world, and that calls on them are the world's.
use Rattle.std.specs.Prelude.{ℕ, List, map, ◌≡◌, ◌+◌, ◌⊎◌, None, Result, Ok, Err}
use Rattle.swarm_model.specs.Calls.Watches.{waiting_events}
use Rattle.swarm_model.specs.Changed.{changes_between}
use Rattle.swarm_model.specs.History.{IsLegal, replay, step}
use Rattle.swarm_model.specs.Outcome.{Outcome}
use Rattle.swarm_objects.specs.Rows.{row_at}
use Rattle.swarm_objects.specs.World.{World}
use Rattle.swarm_objects.specs.declared.calls.Call.TheVariants as call
use Rattle.swarm_objects.specs.declared.calls.Entry.{Entry}
use Rattle.swarm_objects.specs.declared.calls.What.{What}
use Rattle.swarm_objects.specs.declared.calls.What.TheVariants as what
use Rattle.swarm_objects.specs.declared.replies.Refusal.{Refusal}
use Rattle.swarm_objects.specs.declared.replies.Refusal.TheVariants as refusal
use Rattle.swarm_objects.specs.declared.replies.Reply.{Reply}
use Rattle.swarm_objects.specs.declared.replies.Reply.TheVariants as reply
use Rattle.swarm_objects.specs.declared.watches.Event.{Event}
use Rattle.swarm_objects.specs.declared.watches.Filter.{Filter}
use Rattle.swarm_objects.specs.declared.watches.Watcher.{Watcher}
use Rattle.swarm_watch.specs.Calls.{AnswersAs, MayAnswerAs, begin_answer, finish_answer, hears, poll_answer}
use Rattle.swarm_watch.specs.Watchings.{Watching, Watchings, waiting_of, watching_id}

abbrev pub watching_in : World → Watcher → Watching
watching_in w x = record { id = x.id; filter = x.filter; waiting = waiting_of (waiting_events w x) }

-- the world's watchers, each with the events that wait for it
abbrev pub watchings_of : World → List Watching
watchings_of w = map (watching_in w) w.watchers

-- watches stand for a world where they have its watchers, and what waits for them there
abbrev pub StandsFor : Watchings → World → Type 0
StandsFor watches w = watches.watchers ≡ watchings_of w

-- the reply of a call that gives this
abbrev pub reply_with : {X : Type 0} → (X → Reply) → Result X Refusal → Reply
reply_with say (Ok x) = say x
reply_with say (Err r) = reply.Refused r

-- a call on watches is answered as in the world, and they stand for the world after it
abbrev pub AnswersAsWorld : {X : Type 0} → (X → Reply) → Outcome → Result X Refusal → Watchings → Type 0
AnswersAsWorld say outcome result after = (reply_with say result ≡ outcome.reply) × StandsFor after outcome.after

-- it is so, or memory was wanting and nothing changed
abbrev pub MayAnswerAsWorld : {X : Type 0} → (X → Reply) → Outcome → Watchings → Result X Refusal → Watchings → Type 0
MayAnswerAsWorld say outcome before result after =
    AnswersAsWorld say outcome result after ⊎ ((result ≡ Err refusal.NoMemory) × (after ≡ before))

-- no watcher has the next id of a world
abbrev pub FreeLaw : Type 0
FreeLaw =
    (h : List Entry) (watches : Watchings) → let w = replay h in
    IsLegal h → StandsFor watches w → row_at watching_id w.tables.next_id watches.watchers ≡ None

-- a new watcher has that id
abbrev pub BeginLaw : Type 0
BeginLaw =
    (h : List Entry) (f : Filter) (before after : Watchings) (result : Result (Unit {0}) Refusal) →
    let w = replay h in
    StandsFor before w → MayAnswerAs (begin_answer before.watchers w.tables.next_id f) before result after →
    MayAnswerAsWorld (λ _. reply.WatchBegun w.tables.next_id) (step w (what.Call (call.WatchBegin f)))
    before result after

abbrev pub PollsLaw : Type 0
PollsLaw =
    (h : List Entry) (id : ℕ) (before after : Watchings) (result : Result (List Event) Refusal) →
    let w = replay h in
    StandsFor before w →
    MayAnswerAs (poll_answer before.watchers id (row_at watching_id id before.watchers)) before result after →
    MayAnswerAsWorld reply.Events (step w (what.Call (call.WatchPoll id))) before result after

abbrev pub FinishLaw : Type 0
FinishLaw =
    (h : List Entry) (id : ℕ) (before after : Watchings) (result : Result (Unit {0}) Refusal) →
    let w = replay h in
    StandsFor before w →
    AnswersAs (finish_answer before.watchers id (row_at watching_id id before.watchers)) before result after →
    AnswersAsWorld (λ _. reply.WatchFinished id) (step w (what.Call (call.WatchFinish id))) result after

-- an entry that leaves the watchers as they are has its changes noted
abbrev pub NotesLaw : Type 0
NotesLaw =
    (h : List Entry) (e : What) (before after : Watchings) →
    let w = replay h in let v = (step w e).after in
    StandsFor before w → v.watchers ≡ w.watchers →
    after.watchers ≡ map (hears (changes_between (w.entries + 1) w.tables v.tables)) before.watchers →
    StandsFor after v
