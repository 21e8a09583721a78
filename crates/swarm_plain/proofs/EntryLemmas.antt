-- Entries: what is kept of the events, the order of rows, and what a refusal leaves.
use Rattle.std.proofs.Common.{◌≡◌, ℕ, ◌+◌, Bool, true, false, cond, length, nat_lt, List, [], ◌++◌, append-nil, append_assoc, refl, ap, sym, ◌∙◌, subst, arith, Option, Some, None, Ok, Err, ◌⊎◌, inl, inr}
use Rattle.std.proofs.lemmas.List.Elements.{filter-append}
use Rattle.std.specs.Prelude.{filter}
use Rattle.swarm_model.proofs.Base.Answers.{OnGiven, given-is, given-unless}
use Rattle.swarm_model.proofs.Watching.Changes.{changes-at, changes-none}
use Rattle.swarm_model.proofs.Watching.Waiting.{kept-is, waited-some, waits-past}
use Rattle.swarm_model.proofs.Watching.Watchers.{Sees, answer-sees}
use Rattle.swarm_model.specs.Calls.{answer, answered, call_outcome, entered, viewed}
use Rattle.swarm_model.specs.Calls.Watches.{is_waited_for, kept_events, told_at, waiting_events, watch_finish, watch_poll, without_watcher}
use Rattle.swarm_model.specs.Calls.Views.{View, shows}
use Rattle.swarm_model.specs.Changed.{changes_between, events_of}
use Rattle.swarm_model.specs.Content.{same_network, same_node, same_service, same_task}
use Rattle.swarm_model.specs.Outcome.{Answered, Gives, Outcome}
use Rattle.swarm_objects.proofs.Filters.{filter_none}
use Rattle.swarm_objects.specs.Limits.{most_events}
use Rattle.swarm_objects.specs.Rows.{Has, network_id, node_id, row_at, service_id, task_id, watcher_id}
use Rattle.swarm_objects.specs.World.{Tables, World}
use Rattle.swarm_objects.specs.declared.calls.Call.{Call}
use Rattle.swarm_objects.specs.declared.calls.Call.TheVariants as call
use Rattle.swarm_objects.specs.declared.ids.Kind.{Kind}
use Rattle.swarm_objects.specs.declared.ids.Kind.TheVariants as kind
use Rattle.swarm_objects.specs.declared.replies.Refusal.TheVariants as refusal
use Rattle.swarm_objects.specs.declared.replies.Reply.{Reply}
use Rattle.swarm_objects.specs.declared.replies.Reply.TheVariants as reply
use Rattle.swarm_objects.specs.declared.watches.Event.{Event}
use Rattle.swarm_objects.specs.declared.watches.Watcher.{Watcher}
use Rattle.swarm_plain.proofs.AnswerEvents.{answer-events}
use Rattle.swarm_plain.specs.Entries.{entered_unseen, keeps_rows}

-- What is kept.

pub events-answer : (version : ℕ) (w v : World) (c : Call) (r : Reply) → answer version w c ≡ Ok (r, v) → v.events ≡ w.events
events-answer version w v c r done =
    given-is (λ (d : Reply × World). d.1.events ≡ w.events) (answer version w c) (r, v) (answer-events version w c) done

sees-answer : (w v : World) (c : Call) (r : Reply) → answer (w.entries + 1) w c ≡ Ok (r, v) → Sees w v
sees-answer w v c r done =
    given-is (λ (d : Reply × World). Sees w d.1) (answer (w.entries + 1) w c) (r, v) (answer-sees w c) done

-- changes for which nobody waits leave what waits as it is
kept-unseen : (w v : World) → v.events ≡ w.events →
    filter (is_waited_for v.watchers) (changes_between (w.entries + 1) w.tables v.tables) ≡ [] →
    entered w v ≡ entered_unseen (w.entries + 1) v
kept-unseen w v same none =
    ap (λ es. record v { entries = w.entries + 1; events = es })
    (kept-is w v v.watchers
    ∙ filter-append (is_waited_for v.watchers) w.events (changes_between (w.entries + 1) w.tables v.tables)
    ∙ ap (λ es. filter (is_waited_for v.watchers) w.events ++ es) none
    ∙ append-nil (filter (is_waited_for v.watchers) w.events)
    ∙ ap (filter (is_waited_for v.watchers)) (sym same))

-- who came with the entry waits for nothing of it
none-waits : (n : ℕ) (xs : List Watcher) (e : Event) → ((x : Watcher) → Has xs x → x.cursor ≡ n) → e.entry ≡ n → is_waited_for xs e ≡ false
none-waits n xs e at is = go (is_waited_for xs e) refl
  where
    go : (b : Bool) → is_waited_for xs e ≡ b → b ≡ false
    go false t = refl
    go true t =
        let r = waited-some xs e t in
        let no' = waits-past r.0 e (omega (arith, is, at r.0 r.1)) in
        let no_way : true ≡ false = sym r.2 ∙ no' in no_way

new-cursors : (w v : World) → w.watchers ≡ [] → Sees w v → (x : Watcher) → Has v.watchers x → x.cursor ≡ w.entries + 1
new-cursors w v none sees x h = go (sees x h)
  where
    go : Has w.watchers x ⊎ (x.cursor ≡ w.entries + 1) → x.cursor ≡ w.entries + 1
    go (inl k) = absurd (subst (λ xs. Has xs x) none k)
    go (inr e) = e

-- where nobody watched before the entry
pub kept-unseen_by : (w v : World) → w.watchers ≡ [] → Sees w v → v.events ≡ w.events → entered w v ≡ entered_unseen (w.entries + 1) v
kept-unseen_by w v none sees same =
    kept-unseen w v same
    (filter_none (is_waited_for v.watchers) (changes_between (w.entries + 1) w.tables v.tables)
    (λ e h. none-waits (w.entries + 1) v.watchers e (new-cursors w v none sees) (changes-at (w.entries + 1) w.tables v.tables e h)))

kept-unwatched : (w v : World) (c : Call) (r : Reply) → w.watchers ≡ [] → answer (w.entries + 1) w c ≡ Ok (r, v) →
    entered w v ≡ entered_unseen (w.entries + 1) v
kept-unwatched w v c r none done =
    kept-unseen_by w v none (sees-answer w v c r done) (events-answer (w.entries + 1) w v c r done)

-- Events put kind by kind.

pub put-kind : {X : Type 0} (n : ℕ) (k : Kind) (key : X → ℕ) (same : X → X → Bool) (xs ws : List Watcher) (old new os ns : List X)
    (before after : List Event) → ws ≡ xs → os ≡ old → ns ≡ new →
    after ≡ before ++ filter (is_waited_for ws) (events_of n k key same os ns) →
    after ≡ before ++ filter (is_waited_for xs) (events_of n k key same old new)
put-kind n k key same xs ws old new os ns before after w o e put =
    put
    ∙ ap (λ z. before ++ filter (is_waited_for z) (events_of n k key same os ns)) w
    ∙ ap (λ z. before ++ filter (is_waited_for xs) (events_of n k key same z ns)) o
    ∙ ap (λ z. before ++ filter (is_waited_for xs) (events_of n k key same old z)) e

four-filters : (p : Event → Bool) (a b c d : List Event) →
    filter p (a ++ b ++ c ++ d) ≡ filter p a ++ filter p b ++ filter p c ++ filter p d
four-filters p a b c d =
    filter-append p (a ++ b ++ c) d
    ∙ ap (λ es. es ++ filter p d) (filter-append p (a ++ b) c ∙ ap (λ es. es ++ filter p c) (filter-append p a b))

four-appended : (e a b c d : List Event) → (((e ++ a) ++ b) ++ c) ++ d ≡ e ++ (a ++ b ++ c ++ d)
four-appended e a b c d =
    ap (λ es. (es ++ c) ++ d) (append_assoc e a b)
    ∙ ap (λ es. es ++ d) (append_assoc e (a ++ b) c)
    ∙ append_assoc e (a ++ b ++ c) d

pub all-put : (p : Event → Bool) (a b c d e0 e1 e2 e3 e4 : List Event) → e1 ≡ e0 ++ filter p a → e2 ≡ e1 ++ filter p b →
    e3 ≡ e2 ++ filter p c → e4 ≡ e3 ++ filter p d → e4 ≡ e0 ++ filter p (a ++ b ++ c ++ d)
all-put p a b c d e0 e1 e2 e3 e4 first second third fourth =
    fourth
    ∙ ap (λ es. es ++ filter p d) (third ∙ ap (λ es. es ++ filter p c) (second ∙ ap (λ es. es ++ filter p b) first))
    ∙ four-appended e0 (filter p a) (filter p b) (filter p c) (filter p d)
    ∙ ap (λ es. e0 ++ es) (sym (four-filters p a b c d))

-- what was kept before, and the events of the entry behind it
pub kept-seen : (w v m : World) (start all : List Event) → m ≡ entered_unseen (w.entries + 1) v → v.events ≡ w.events → start ≡ m.events →
    all ≡ start ++ filter (is_waited_for m.watchers) (changes_between (w.entries + 1) w.tables m.tables) →
    record m { events = all } ≡ entered w v
kept-seen w v m start all is same begins put =
    ap (λ (z : World). record z { events = all }) is
    ∙ ap (λ es. record v { entries = w.entries + 1; events = es }) whole
  where
    p : Event → Bool
    p = is_waited_for v.watchers

    kept : start ≡ filter p w.events
    kept = begins ∙ ap (λ (z : World). z.events) is ∙ ap (filter p) same

    changes : filter (is_waited_for m.watchers) (changes_between (w.entries + 1) w.tables m.tables)
        ≡ filter p (changes_between (w.entries + 1) w.tables v.tables)
    changes = ap (λ (z : World). filter (is_waited_for z.watchers) (changes_between (w.entries + 1) w.tables z.tables)) is

    whole : all ≡ kept_events w v v.watchers
    whole =
        put
        ∙ ap (λ es. es ++ filter (is_waited_for m.watchers) (changes_between (w.entries + 1) w.tables m.tables)) kept
        ∙ ap (λ es. filter p w.events ++ es) changes
        ∙ sym (filter-append p w.events (changes_between (w.entries + 1) w.tables v.tables))
        ∙ sym (kept-is w v v.watchers)

-- Calls that keep the rows.

record SameRows (t u : Tables) : Type 0 where
  pub nodes : u.nodes ≡ t.nodes
  pub services : u.services ≡ t.services
  pub tasks : u.tasks ≡ t.tasks
  pub networks : u.networks ≡ t.networks

abbrev Keeps : World → Answered → Type 0
Keeps w given = OnGiven (λ (d : Reply × World). SameRows w.tables d.1.tables) given

same-rows : (t : Tables) → SameRows t t
same-rows t = record { nodes = refl; services = refl; tasks = refl; networks = refl }

polled-rows : (version : ℕ) (w : World) (id : ℕ) (events : List Event) (lagged : Bool) →
    SameRows w.tables (cond {A = Reply × World} lagged (reply.Refused (refusal.Lagged (length events)), without_watcher id w)
    (reply.Events events, told_at version id w)).1.tables
polled-rows version w id events true = same-rows w.tables
polled-rows version w id events false = same-rows w.tables

poll-rows : (version : ℕ) (w : World) (id : ℕ) (x : Option Watcher) → Keeps w (watch_poll version w id x)
poll-rows version w id None = tt
poll-rows version w id (Some x) =
    polled-rows version w id (waiting_events w x) (nat_lt most_events (length (waiting_events w x)))

finish-rows : (w : World) (id : ℕ) (x : Option Watcher) → Keeps w (watch_finish w id x)
finish-rows w id None = tt
finish-rows w id (Some x) = same-rows w.tables

view-rows : (w : World) (v : View) → Keeps w (viewed w v)
view-rows w (Ok v) = same-rows w.tables
view-rows w (Err r) = tt

answer-rows : (version : ℕ) (w : World) (c : Call) → keeps_rows c ≡ true → Keeps w (answer version w c)
answer-rows version w (call.View asked) k = view-rows w (shows w.tables asked)
answer-rows version w (call.WatchBegin f) k =
    given-unless (λ (d : Reply × World). SameRows w.tables d.1.tables) _ _
    (λ e. record { nodes = refl; services = refl; tasks = refl; networks = refl })
answer-rows version w (call.WatchPoll id) k = poll-rows version w id (row_at watcher_id id w.watchers)
answer-rows version w (call.WatchFinish id) k = finish-rows w id (row_at watcher_id id w.watchers)
answer-rows version w (call.Tick ms) k =
    given-unless (λ (d : Reply × World). SameRows w.tables d.1.tables) _ _
    (λ e. record { nodes = refl; services = refl; tasks = refl; networks = refl })
answer-rows version w call.Halt k = same-rows w.tables
answer-rows version w _ k = absurd cc

no-changes : (n : ℕ) (t u : Tables) → SameRows t u → changes_between n t u ≡ []
no-changes n t u same =
    ap (λ rows. events_of n kind.Node node_id same_node t.nodes rows
    ++ events_of n kind.Service service_id same_service t.services u.services
    ++ events_of n kind.Task task_id same_task t.tasks u.tasks
    ++ events_of n kind.Network network_id same_network t.networks u.networks) same.nodes
    ∙ ap (λ rows. events_of n kind.Node node_id same_node t.nodes t.nodes
    ++ events_of n kind.Service service_id same_service t.services rows
    ++ events_of n kind.Task task_id same_task t.tasks u.tasks
    ++ events_of n kind.Network network_id same_network t.networks u.networks) same.services
    ∙ ap (λ rows. events_of n kind.Node node_id same_node t.nodes t.nodes
    ++ events_of n kind.Service service_id same_service t.services t.services
    ++ events_of n kind.Task task_id same_task t.tasks rows
    ++ events_of n kind.Network network_id same_network t.networks u.networks) same.tasks
    ∙ ap (λ rows. events_of n kind.Node node_id same_node t.nodes t.nodes
    ++ events_of n kind.Service service_id same_service t.services t.services
    ++ events_of n kind.Task task_id same_task t.tasks t.tasks
    ++ events_of n kind.Network network_id same_network t.networks rows) same.networks
    ∙ changes-none n t

pub kept-unchanged : (w v : World) (c : Call) (r : Reply) → keeps_rows c ≡ true → answer (w.entries + 1) w c ≡ Ok (r, v) →
    entered w v ≡ entered_unseen (w.entries + 1) v
kept-unchanged w v c r keeps done =
    kept-unseen w v (events-answer (w.entries + 1) w v c r done)
    (ap (filter (is_waited_for v.watchers))
    (no-changes (w.entries + 1) w.tables v.tables
    (given-is (λ (d : Reply × World). SameRows w.tables d.1.tables) (answer (w.entries + 1) w c) (r, v)
    (answer-rows (w.entries + 1) w c keeps) done)))

-- where nobody watched before the call, or it changes no row
pub kept-either : (w v : World) (c : Call) (r : Reply) → ((w.watchers ≡ []) ⊎ (keeps_rows c ≡ true)) →
    answer (w.entries + 1) w c ≡ Ok (r, v) → entered w v ≡ entered_unseen (w.entries + 1) v
kept-either w v c r (inl none) done = kept-unwatched w v c r none done
kept-either w v c r (inr keeps) done = kept-unchanged w v c r keeps done

-- What the frame answers.

-- a copy is answered alike
pub copy-answer : (w k v : World) (c : Call) (r : Reply) → k ≡ w → answer (k.entries + 1) k c ≡ Ok (r, v) →
    answer (w.entries + 1) w c ≡ Ok (r, v)
copy-answer w k v c r same done = subst (λ (z : World). answer (z.entries + 1) z c ≡ Ok (r, v)) same done

pub gives-entered : (w v after : World) (c : Call) (r : Reply) → answer (w.entries + 1) w c ≡ Ok (r, v) → after ≡ entered w v →
    Gives (call_outcome w c) r after
gives-entered w v after c r done is =
    let outcome = ap (answered w) done in
    (ap (λ (o : Outcome). o.reply) (sym outcome), is ∙ ap (λ (o : Outcome). o.after) (sym outcome))

-- the settle test changes nothing of which events tell
pub settle-unseen : (w : World) → entered w w ≡ entered_unseen (w.entries + 1) w
settle-unseen w = kept-unseen w w refl (ap (filter (is_waited_for w.watchers)) (changes-none (w.entries + 1) w.tables))
