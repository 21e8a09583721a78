-- Calls on the watches of a world are those of the world.
use Rattle.std.proofs.Common.{◌≡◌, ℕ, ◌+◌, ◌≤◌, Bool, true, false, cond, nat_lt, List, [], ◌∷◌, ◌++◌, length, Option, Some, None, Err, Ok, Result, refl, sym, ap, ◌∙◌, subst, arith, append-nil, inl, inr}
use Rattle.std.specs.Prelude.{filter, map, not, ◌==◌, ◌&&◌}
use Rattle.std.specs.Option.{option_map}
use Rattle.std.proofs.lemmas.Bool.Decides.{nat_tests}
use Rattle.std.proofs.lemmas.List.{length-map, map-append}
use Rattle.swarm_model.proofs.Laws.GivesOutReplay.{IsOrderedBeside-replay}
use Rattle.swarm_model.proofs.Watching.Changes.{changes-at, changes-none}
use Rattle.swarm_model.proofs.Watching.Waiting.{IsWatched, kept-for, none-past, watched-replay}
use Rattle.swarm_model.specs.Calls.{answer, answered, entered}
use Rattle.swarm_model.specs.Calls.Refusals.{too_many}
use Rattle.swarm_objects.specs.Refusals.{unless}
use Rattle.swarm_objects.specs.Watches.{filter_admits}
use Rattle.swarm_model.specs.Calls.Watches.{new_watcher, told_all, told_at, waiting_events, waits_for, watch_finish, watch_poll, with_watcher, without_watcher}
use Rattle.swarm_model.specs.Changed.{changes_between}
use Rattle.swarm_model.specs.History.{replay, step}
use Rattle.swarm_model.specs.Outcome.{Answered, Outcome}
use Rattle.swarm_objects.proofs.RowLemmas.{Has-append_left, Has-append_right, Has-map}
use Rattle.swarm_objects.specs.Duties.{effect_by}
use Rattle.swarm_objects.specs.Limits.{most_events, most_watchers}
use Rattle.swarm_objects.specs.Rows.{IsBelow, Has, change_row, drop_row, row_at, watcher_id}
use Rattle.swarm_objects.specs.World.{World}
use Rattle.swarm_objects.specs.declared.calls.Entry.{Entry}
use Rattle.swarm_objects.specs.declared.calls.What.{What}
use Rattle.swarm_objects.specs.declared.calls.What.TheVariants as what
use Rattle.swarm_objects.specs.declared.calls.Call.TheVariants as call
use Rattle.swarm_objects.specs.declared.ids.Kind.TheVariants as kind
use Rattle.swarm_objects.specs.declared.replies.Refusal.{Refusal}
use Rattle.swarm_objects.specs.declared.replies.Refusal.TheVariants as refusal
use Rattle.swarm_objects.specs.declared.replies.Reply.{Reply}
use Rattle.swarm_objects.specs.declared.replies.Reply.TheVariants as reply
use Rattle.swarm_objects.specs.declared.watches.Event.{Event}
use Rattle.swarm_objects.specs.declared.watches.Filter.{Filter}
use Rattle.swarm_objects.specs.declared.watches.Watcher.{Watcher}
use Rattle.swarm_watch.proofs.Missing.{row_at-seen, seen_at}
use Rattle.swarm_watch.proofs.Noting.{waits_again}
use Rattle.swarm_watch.specs.Calls.{Answer, AnswersAs, MayAnswerAs, begin_answer, begin_unless, finish_answer, hears, new_watching, poll_answer, poll_waiting, without_waiting}
use Rattle.swarm_watch.specs.Watchings.{Few, Many, Watching, Watchings, waiting_of, watching_id}
use Rattle.swarm_watch.specs.Worlds.{AnswersAsWorld, BeginLaw, FinishLaw, FreeLaw, MayAnswerAsWorld, NotesLaw, PollsLaw, reply_with, watching_in, watchings_of}

-- the answer is the one that the world gives, and so are the watchers after it
abbrev IsAnswerOf : {X : Type 0} → (X → Reply) → Answer X → Outcome → Type 0
IsAnswerOf say answer outcome =
    (reply_with say answer.given ≡ outcome.reply) × (answer.after ≡ watchings_of outcome.after)

follows : {X : Type 0} (say : X → Reply) (answer : Answer X) (outcome : Outcome) (before after : Watchings) (result : Result X Refusal) →
    IsAnswerOf say answer outcome → AnswersAs answer before result after → AnswersAsWorld say outcome result after
follows say answer outcome before after result is gives = (ap (reply_with say) gives.0 ∙ is.0, gives.1 ∙ is.1)

may_follow : {X : Type 0} (say : X → Reply) (answer : Answer X) (outcome : Outcome) (before after : Watchings) (result : Result X Refusal) →
    IsAnswerOf say answer outcome → MayAnswerAs answer before result after → MayAnswerAsWorld say outcome before result after
may_follow say answer outcome before after result is (inl gives) = inl (follows say answer outcome before after result is gives)
may_follow say answer outcome before after result is (inr wanting) = inr wanting

-- What waits after an entry.

abbrev seen : Watcher → List Event → Watching
seen x events = record { id = x.id; filter = x.filter; waiting = waiting_of events }

hears_seen : (x : Watcher) (before events : List Event) → hears events (seen x before) ≡ seen x (before ++ filter (filter_admits x.filter) events)
hears_seen x before events =
    ap (λ waiting. record { id = x.id; filter = x.filter; waiting = waiting }) (waits_again before (filter (filter_admits x.filter) events))

-- whose tables are the same: what was kept
waits_still : (old new : World) (x : Watcher) → changes_between (old.entries + 1) old.tables new.tables ≡ [] → Has new.watchers x →
    waiting_events (entered old new) x ≡ filter (waits_for x) old.events
waits_still old new x none h =
    kept-for old new x h
    ∙ ap (λ es. filter (waits_for x) old.events ++ filter (waits_for x) es) none
    ∙ append-nil (filter (waits_for x) old.events)

-- new events are after what a watcher was told
new_events : (n : ℕ) (x : Watcher) (events : List Event) → x.cursor ≤ n → ((e : Event) → Has events e → e.entry ≡ n + 1) →
    filter (waits_for x) events ≡ filter (filter_admits x.filter) events
new_events n x [] le at = refl
new_events n x (e ∷ events) le at =
    let later : nat_lt x.cursor e.entry ≡ true = (let is = at e (inl refl) in grind (arith, nat_tests)) in
    ap (λ b. cond (b && filter_admits x.filter e) (e ∷ filter (waits_for x) events) (filter (waits_for x) events)) later
    ∙ go (filter_admits x.filter e) (new_events n x events le (λ y h. at y (inr h)))
  where
    go : (b : Bool) → filter (waits_for x) events ≡ filter (filter_admits x.filter) events →
        cond (true && b) (e ∷ filter (waits_for x) events) (filter (waits_for x) events)
        ≡ cond b (e ∷ filter (filter_admits x.filter) events) (filter (filter_admits x.filter) events)
    go true rest = ap (λ es. e ∷ es) rest
    go false rest = rest

-- watchers that are the same list, each seen in two ways that agree
seen_same : (f g : Watcher → Watching) (xs : List Watcher) → ((x : Watcher) → Has xs x → f x ≡ g x) → map f xs ≡ map g xs
seen_same f g [] same = refl
seen_same f g (x ∷ xs) same = ap (λ y. y ∷ map f xs) (same x (inl refl)) ∙ ap (λ ys. g x ∷ ys) (seen_same f g xs (λ y h. same y (inr h)))

map_twice : (f : Watching → Watching) (g : Watcher → Watching) (xs : List Watcher) → map f (map g xs) ≡ map (λ x. f (g x)) xs
map_twice f g [] = refl
map_twice f g (x ∷ xs) = ap (λ ys. f (g x) ∷ ys) (map_twice f g xs)

map_after : (f : Watcher → Watching) (g : Watcher → Watcher) (xs : List Watcher) → map f (map g xs) ≡ map (λ x. f (g x)) xs
map_after f g [] = refl
map_after f g (x ∷ xs) = ap (λ ys. f (g x) ∷ ys) (map_after f g xs)

-- Entries that leave the watchers as they are.

hears_all : (old new : World) (x : Watcher) → IsWatched old → Has old.watchers x → Has new.watchers x →
    hears (changes_between (old.entries + 1) old.tables new.tables) (watching_in old x) ≡ watching_in (entered old new) x
hears_all old new x is was h =
    let changes = changes_between (old.entries + 1) old.tables new.tables in
    hears_seen x (waiting_events old x) changes
    ∙ ap (seen x)
    (ap (λ es. filter (waits_for x) old.events ++ es)
    (sym (new_events old.entries x changes (is.cursors x was) (changes-at (old.entries + 1) old.tables new.tables)))
    ∙ sym (kept-for old new x h))

noted : (old new : World) → IsWatched old → new.watchers ≡ old.watchers →
    map (hears (changes_between (old.entries + 1) old.tables new.tables)) (watchings_of old) ≡ watchings_of (entered old new)
noted old new is same =
    let changes = changes_between (old.entries + 1) old.tables new.tables in
    map_twice (hears changes) (watching_in old) old.watchers
    ∙ seen_same (λ x. hears changes (watching_in old x)) (watching_in (entered old new)) old.watchers
    (λ x h. hears_all old new x is h (subst (λ xs. Has xs x) (sym same) h))
    ∙ ap (map (watching_in (entered old new))) (sym same)

hears_none : (w : World) (events : List Event) (x : Watcher) → events ≡ [] → hears events (watching_in w x) ≡ watching_in w x
hears_none w events x none =
    ap (λ es. hears es (watching_in w x)) none
    ∙ hears_seen x (waiting_events w x) []
    ∙ ap (seen x) (append-nil (waiting_events w x))

hears_nothing : (w : World) (events : List Event) → events ≡ [] → map (hears events) (watchings_of w) ≡ watchings_of w
hears_nothing w events none =
    map_twice (hears events) (watching_in w) w.watchers
    ∙ seen_same (λ x. hears events (watching_in w x)) (watching_in w) w.watchers (λ x h. hears_none w events x none)

answered-notes : (w : World) (given : Answered) → IsWatched w → (answered w given).after.watchers ≡ w.watchers →
    map (hears (changes_between (w.entries + 1) w.tables (answered w given).after.tables)) (watchings_of w) ≡ watchings_of (answered w given).after
answered-notes w (Ok given) is same = noted w given.1 is same
answered-notes w (Err r) is same =
    hears_nothing w (changes_between (w.entries + 1) w.tables w.tables) (changes-none (w.entries + 1) w.tables)

notes_world : (h : List Entry) (e : What) → let w = replay h in let v = (step w e).after in v.watchers ≡ w.watchers →
    map (hears (changes_between (w.entries + 1) w.tables v.tables)) (watchings_of w) ≡ watchings_of v
notes_world h (what.Call c) = answered-notes (replay h) (answer ((replay h).entries + 1) (replay h) c) (watched-replay h)
notes_world h (what.Duty d) = noted (replay h) (effect_by ((replay h).entries + 1) (replay h) d) (watched-replay h)

pub notes : NotesLaw
notes h e before after stands same heard =
    let w = replay h in
    heard
    ∙ ap (map (hears (changes_between (w.entries + 1) w.tables (step w e).after.tables))) stands
    ∙ notes_world h e same

-- Watchers that come, are told, and go.

told_before : (w : World) (x : Watcher) → IsWatched w → x.cursor ≡ w.entries + 1 → filter (waits_for x) w.events ≡ []
told_before w x is at = none-past (w.entries + 1) w.events x (λ e h. let le = is.past e h in omega arith) at

same_seen : (w new : World) (x : Watcher) → changes_between (w.entries + 1) w.tables new.tables ≡ [] → Has new.watchers x →
    watching_in w x ≡ watching_in (entered w new) x
same_seen w new x none h = ap (seen x) (sym (waits_still w new x none h))

nothing_seen : (w new : World) (x : Watcher) → IsWatched w → changes_between (w.entries + 1) w.tables new.tables ≡ [] → Has new.watchers x →
    x.cursor ≡ w.entries + 1 → seen x [] ≡ watching_in (entered w new) x
nothing_seen w new x is none h at = ap (seen x) (sym (waits_still w new x none h ∙ told_before w x is at))

begun_world : (w : World) (f : Filter) → IsWatched w →
    watchings_of w ++ new_watching w.tables.next_id f ∷ [] ≡ watchings_of (entered w (with_watcher (w.entries + 1) w f))
begun_world w f is =
    let new = with_watcher (w.entries + 1) w f in
    let x = new_watcher (w.entries + 1) w.tables.next_id f in
    let none : changes_between (w.entries + 1) w.tables new.tables ≡ [] = changes-none (w.entries + 1) w.tables in
    ap (λ ys. ys ++ new_watching w.tables.next_id f ∷ [])
    (seen_same (watching_in w) (watching_in (entered w new)) w.watchers (λ y h. same_seen w new y none (Has-append_left w.watchers (x ∷ []) y h)))
    ∙ ap (λ y. map (watching_in (entered w new)) w.watchers ++ y ∷ [])
    (nothing_seen w new x is none (Has-append_right w.watchers (x ∷ []) x (inl refl)) refl)
    ∙ sym (map-append (watching_in (entered w new)) w.watchers (x ∷ []))

begin_either : (w : World) (f : Filter) (o : Option Refusal) → IsWatched w →
    IsAnswerOf (λ _. reply.WatchBegun w.tables.next_id) (begin_unless o (watchings_of w) w.tables.next_id f)
    (answered w (unless o (reply.WatchBegun w.tables.next_id, with_watcher (w.entries + 1) w f)))
begin_either w f None is = (refl, begun_world w f is)
begin_either w f (Some r) is = (refl, refl)

begins_world : (h : List Entry) (f : Filter) → let w = replay h in
    IsAnswerOf (λ _. reply.WatchBegun w.tables.next_id) (begin_answer (watchings_of w) w.tables.next_id f) (step w (what.Call (call.WatchBegin f)))
begins_world h f =
    let w = replay h in
    subst (λ n. IsAnswerOf (λ _. reply.WatchBegun w.tables.next_id)
    (begin_unless (too_many kind.Watcher most_watchers n) (watchings_of w) w.tables.next_id f) (step w (what.Call (call.WatchBegin f))))
    (sym (length-map w.watchers (watching_in w)))
    (begin_either w f (too_many kind.Watcher most_watchers (length w.watchers)) (watched-replay h))

pub begins : BeginLaw
begins h f before after result stands =
    let w = replay h in
    may_follow (λ _. reply.WatchBegun w.tables.next_id) (begin_answer before.watchers w.tables.next_id f) (step w (what.Call (call.WatchBegin f))) before after result
    (subst (λ xs. IsAnswerOf (λ _. reply.WatchBegun w.tables.next_id) (begin_answer xs w.tables.next_id f) (step w (what.Call (call.WatchBegin f))))
    (sym stands) (begins_world h f))

filter_seen : (q : Watching → Bool) (f : Watcher → Watching) (xs : List Watcher) → filter q (map f xs) ≡ map f (filter (λ x. q (f x)) xs)
filter_seen q f [] = refl
filter_seen q f (x ∷ xs) = go (q (f x)) (filter_seen q f xs)
  where
    go : (b : Bool) → filter q (map f xs) ≡ map f (filter (λ y. q (f y)) xs) →
        cond b (f x ∷ filter q (map f xs)) (filter q (map f xs)) ≡ map f (cond b (x ∷ filter (λ y. q (f y)) xs) (filter (λ y. q (f y)) xs))
    go true rest = ap (λ ys. f x ∷ ys) rest
    go false rest = rest

gone_world : (w : World) (id : ℕ) → drop_row watching_id id (watchings_of w) ≡ watchings_of (entered w (without_watcher id w))
gone_world w id =
    filter_seen (λ y. not (watching_id y == id)) (watching_in w) w.watchers
    ∙ seen_same (watching_in w) (watching_in (entered w (without_watcher id w))) (drop_row watcher_id id w.watchers)
    (λ x h. same_seen w (without_watcher id w) x (changes-none (w.entries + 1) w.tables) h)

told_one : (w : World) (id : ℕ) (x : Watcher) (b : Bool) → IsWatched w → Has (told_at (w.entries + 1) id w).watchers (cond b (told_all (w.entries + 1) x) x) →
    cond b (without_waiting (watching_in w x)) (watching_in w x) ≡ watching_in (entered w (told_at (w.entries + 1) id w)) (cond b (told_all (w.entries + 1) x) x)
told_one w id x true is h = nothing_seen w (told_at (w.entries + 1) id w) (told_all (w.entries + 1) x) is (changes-none (w.entries + 1) w.tables) h refl
told_one w id x false is h = same_seen w (told_at (w.entries + 1) id w) x (changes-none (w.entries + 1) w.tables) h

told_world : (w : World) (id : ℕ) → IsWatched w → change_row watching_id id without_waiting (watchings_of w) ≡ watchings_of (entered w (told_at (w.entries + 1) id w))
told_world w id is =
    let change : Watcher → Watcher = λ x. cond (watcher_id x == id) (told_all (w.entries + 1) x) x in
    let after = entered w (told_at (w.entries + 1) id w) in
    map_twice (λ y. cond (watching_id y == id) (without_waiting y) y) (watching_in w) w.watchers
    ∙ seen_same (λ x. cond (watcher_id x == id) (without_waiting (watching_in w x)) (watching_in w x)) (λ x. watching_in after (change x)) w.watchers
    (λ x h. told_one w id x (watcher_id x == id) is (Has-map change w.watchers x h))
    ∙ sym (map_after (watching_in after) change w.watchers)

poll_row : (w : World) (id : ℕ) (row : Option Watcher) → IsWatched w →
    IsAnswerOf reply.Events (poll_answer (watchings_of w) id (option_map (watching_in w) row)) (answered w (watch_poll (w.entries + 1) w id row))
poll_row w id None is = (refl, refl)
poll_row w id (Some x) is = go (nat_lt most_events (length (waiting_events w x)))
  where
    events : List Event
    events = waiting_events w x

    told_so : Bool → Reply × World
    told_so b = cond b (reply.Refused (refusal.Lagged (length events)), without_watcher id w) (reply.Events events, told_at (w.entries + 1) id w)

    go : (b : Bool) →
        IsAnswerOf reply.Events
        (poll_waiting (watchings_of w) id (cond b (Many (length events)) (Few events)))
        (record { reply = (told_so b).0; after = entered w (told_so b).1 })
    go true = (refl, gone_world w id)
    go false = (refl, told_world w id is)

polls_world : (h : List Entry) (id : ℕ) → let w = replay h in let xs = watchings_of w in
    IsAnswerOf reply.Events (poll_answer xs id (row_at watching_id id xs)) (step w (what.Call (call.WatchPoll id)))
polls_world h id =
    let w = replay h in
    subst (λ row. IsAnswerOf reply.Events (poll_answer (watchings_of w) id row) (step w (what.Call (call.WatchPoll id))))
    (sym (seen_at watcher_id watching_id (watching_in w) id w.watchers (λ x. refl)))
    (poll_row w id (row_at watcher_id id w.watchers) (watched-replay h))

pub polls : PollsLaw
polls h id before after result stands =
    let w = replay h in
    may_follow reply.Events (poll_answer before.watchers id (row_at watching_id id before.watchers)) (step w (what.Call (call.WatchPoll id))) before after result
    (subst (λ xs. IsAnswerOf reply.Events (poll_answer xs id (row_at watching_id id xs)) (step w (what.Call (call.WatchPoll id)))) (sym stands)
    (polls_world h id))

finish_row : (w : World) (id : ℕ) (row : Option Watcher) →
    IsAnswerOf (λ _. reply.WatchFinished id) (finish_answer (watchings_of w) id (option_map (watching_in w) row)) (answered w (watch_finish w id row))
finish_row w id None = (refl, refl)
finish_row w id (Some x) = (refl, gone_world w id)

finishes_world : (h : List Entry) (id : ℕ) → let w = replay h in let xs = watchings_of w in
    IsAnswerOf (λ _. reply.WatchFinished id) (finish_answer xs id (row_at watching_id id xs)) (step w (what.Call (call.WatchFinish id)))
finishes_world h id =
    let w = replay h in
    subst (λ row. IsAnswerOf (λ _. reply.WatchFinished id) (finish_answer (watchings_of w) id row) (step w (what.Call (call.WatchFinish id))))
    (sym (seen_at watcher_id watching_id (watching_in w) id w.watchers (λ x. refl)))
    (finish_row w id (row_at watcher_id id w.watchers))

pub finishes : FinishLaw
finishes h id before after result stands =
    let w = replay h in
    follows (λ _. reply.WatchFinished id) (finish_answer before.watchers id (row_at watching_id id before.watchers)) (step w (what.Call (call.WatchFinish id)))
    before after result
    (subst (λ xs. IsAnswerOf (λ _. reply.WatchFinished id) (finish_answer xs id (row_at watching_id id xs)) (step w (what.Call (call.WatchFinish id))))
    (sym stands) (finishes_world h id))

-- The next id.

none_at : (n : ℕ) (xs : List Watcher) → IsBelow watcher_id n xs → row_at watcher_id n xs ≡ None
none_at n [] below = refl
none_at n (x ∷ xs) below = grind (arith, nat_tests, none_at n xs below.1, below.0)

pub next_free : FreeLaw
next_free h watches legal stands =
    let w = replay h in
    ap (row_at watching_id w.tables.next_id) stands
    ∙ row_at-seen watcher_id watching_id (watching_in w) w.tables.next_id w.watchers (λ x. refl)
    (none_at w.tables.next_id w.watchers (IsOrderedBeside-replay h legal).below)
