-- What calls on watchers are answered, and the watchers after them.
use Rattle.std.specs.Prelude.{ℕ, Bool, None, Option, Some, Err, Ok, Result, filter, List, [], ◌++◌, ◌∷◌, length, ◌≡◌, ◌≤◌, ◌⊎◌}
use Rattle.std.specs.List.{list_any}
use Rattle.swarm_model.specs.Calls.Refusals.{too_many}
use Rattle.swarm_objects.specs.Watches.{filter_admits}
use Rattle.swarm_objects.specs.Limits.{most_watchers}
use Rattle.swarm_objects.specs.Rows.{change_row, drop_row}
use Rattle.swarm_objects.specs.declared.ids.Kind.TheVariants as kind
use Rattle.swarm_objects.specs.declared.replies.Refusal.{Refusal}
use Rattle.swarm_objects.specs.declared.replies.Refusal.TheVariants as refusal
use Rattle.swarm_objects.specs.declared.watches.Event.{Event}
use Rattle.swarm_objects.specs.declared.watches.Filter.{Filter}
use Rattle.swarm_watch.specs.Watchings.{Few, Many, Waiting, Watching, Watchings, waits_more, watching_id}

-- a call's answer, and the watchers after it
pub record Answer (X : Type 0) : Type 0 where
  pub given : Result X Refusal
  pub after : List Watching

abbrev pub refused : {X : Type 0} → Refusal → List Watching → Answer X
refused r after = record { given = Err r; after = after }

abbrev pub done : {X : Type 0} → X → List Watching → Answer X
done x after = record { given = Ok x; after = after }

-- nothing waits for a watcher that begins
abbrev pub new_watching : ℕ → Filter → Watching
new_watching id f = record { id = id; filter = f; waiting = Few [] }

abbrev pub begin_unless : Option Refusal → List Watching → ℕ → Filter → Answer (Unit {0})
begin_unless None xs id f = done tt (xs ++ new_watching id f ∷ [])
begin_unless (Some r) xs id f = refused r xs

abbrev pub begin_answer : List Watching → ℕ → Filter → Answer (Unit {0})
begin_answer xs id f = begin_unless (too_many kind.Watcher most_watchers (length xs)) xs id f

-- the events come to wait for each watcher whose filter admits them
abbrev pub hears : List Event → Watching → Watching
hears events x = record x { waiting = waits_more x.waiting (filter (filter_admits x.filter) events) }

abbrev pub is_awaited : List Watching → Event → Bool
is_awaited xs e = list_any (λ x. filter_admits x.filter e) xs

abbrev pub without_waiting : Watching → Watching
without_waiting x = record x { waiting = Few [] }

-- too many events take the watcher away; else it is told them all
abbrev pub poll_waiting : List Watching → ℕ → Waiting → Answer (List Event)
poll_waiting xs id (Many count) = refused (refusal.Lagged count) (drop_row watching_id id xs)
poll_waiting xs id (Few events) = done events (change_row watching_id id without_waiting xs)

abbrev pub poll_answer : List Watching → ℕ → Option Watching → Answer (List Event)
poll_answer xs id None = refused (refusal.UnknownWatcher id) xs
poll_answer xs id (Some x) = poll_waiting xs id x.waiting

abbrev pub finish_answer : List Watching → ℕ → Option Watching → Answer (Unit {0})
finish_answer xs id None = refused (refusal.UnknownWatcher id) xs
finish_answer xs id (Some x) = done tt (drop_row watching_id id xs)

-- the answer and the watchers after it are these, and the room is no less
abbrev pub AnswersAs : {X : Type 0} → Answer X → Watchings → Result X Refusal → Watchings → Type 0
AnswersAs expected before result after =
    (result ≡ expected.given) × (after.watchers ≡ expected.after) × (before.room ≤ after.room)

-- they are these, or memory was wanting and nothing changed
abbrev pub MayAnswerAs : {X : Type 0} → Answer X → Watchings → Result X Refusal → Watchings → Type 0
MayAnswerAs expected before result after =
    AnswersAs expected before result after ⊎ ((result ≡ Err refusal.NoMemory) × (after ≡ before))
