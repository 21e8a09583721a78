-- A poll tells all that waits, and once.
use Rattle.std.proofs.Common.{◌≡◌, ℕ, ◌+◌, Bool, true, false, cond, eqb, List, [], ◌∷◌, refl, ap, sym, ◌∙◌, Option, Some, None, length, nat_lt, inl, inr}
use Rattle.std.specs.Prelude.{not, ◌==◌}
use Rattle.std.proofs.lemmas.Bool.Decides.{Decides-eqb}
use Rattle.swarm_model.proofs.Base.Histories.{entries-step}
use Rattle.swarm_model.proofs.Watching.Waiting.{all-wait, none-past, step-watched, watched-replay}
use Rattle.swarm_model.specs.Calls.{answered}
use Rattle.swarm_model.specs.Calls.Watches.{polled, told_all, told_at, waiting_events, watch_poll, without_watcher}
use Rattle.swarm_model.specs.Events.{PollLaw, ToldOnceLaw, poll, told_events}
use Rattle.swarm_model.specs.History.{replay}
use Rattle.swarm_objects.proofs.RowLemmas.{Has-filter_cases, Has-from_row_at, Has-map_cases}
use Rattle.swarm_objects.specs.Limits.{most_events}
use Rattle.swarm_objects.specs.Rows.{Has, row_at, watcher_id}
use Rattle.swarm_objects.specs.World.{World}
use Rattle.swarm_objects.specs.declared.calls.Call.TheVariants as call
use Rattle.swarm_objects.specs.declared.calls.What.TheVariants as what
use Rattle.swarm_objects.specs.declared.replies.Refusal.TheVariants as refusal
use Rattle.swarm_objects.specs.declared.replies.Reply.{Reply}
use Rattle.swarm_objects.specs.declared.replies.Reply.TheVariants as reply
use Rattle.swarm_objects.specs.declared.watches.Event.{Event}
use Rattle.swarm_objects.specs.declared.watches.Watcher.{Watcher}

-- What is told.

polled-tells : (entry : ℕ) (w : World) (id : ℕ) (events : List Event) → (polled entry w id events).0 ≡ told_events events
polled-tells entry w id events = go (nat_lt most_events (length events))
  where
    go : (lagged : Bool) →
        (cond {A = Reply × World} lagged (reply.Refused (refusal.Lagged (length events)), without_watcher id w)
        (reply.Events events, told_at entry id w)).0
        ≡ cond lagged (reply.Refused (refusal.Lagged (length events))) (reply.Events events)
    go true = refl
    go false = refl

poll-tells : (w : World) (id : ℕ) (x : Watcher) → row_at watcher_id id w.watchers ≡ Some x →
    (poll w id).reply ≡ told_events (waiting_events w x)
poll-tells w id x is =
    ap (λ (row : Option Watcher). (answered w (watch_poll (w.entries + 1) w id row)).reply) is
    ∙ polled-tells (w.entries + 1) w id (waiting_events w x)

pub poll-tells-all : PollLaw
poll-tells-all h id x is =
    poll-tells (replay h) id x is
    ∙ ap told_events (all-wait h x (Has-from_row_at watcher_id id (replay h).watchers x is).0)

-- And once.

has-no : {X : Type 0} (key : X → ℕ) (rows : List X) (x : X) → Has rows x → row_at key (key x) rows ≡ None → ⊥
has-no key [] x h e = h
has-no key (y ∷ rows) x (inl same) e = go (eqb (key y) (key x)) ((Decides-eqb (key y) (key x)).1 (ap key same)) e
  where
    go : (b : Bool) → b ≡ true → cond b (Some y) (row_at key (key x) rows) ≡ None → ⊥
    go true t e = absurd cc
    go false t e = absurd cc
has-no key (y ∷ rows) x (inr h) e = go (eqb (key y) (key x)) (has-no key rows x h) e
  where
    go : (b : Bool) → (row_at key (key x) rows ≡ None → ⊥) → cond b (Some y) (row_at key (key x) rows) ≡ None → ⊥
    go true below e = absurd cc
    go false below e = below e

negated : (b : Bool) → b ≡ true → not b ≡ true → ⊥
negated true t e = absurd cc
negated false t e = absurd cc

-- who lagged is no longer there
gone : (w : World) (id : ℕ) (x : Watcher) → Has (without_watcher id w).watchers x → x.id ≡ id → ⊥
gone w id x h same =
    negated (watcher_id x == id) ((Decides-eqb x.id id).1 same) (Has-filter_cases (λ y. not (watcher_id y == id)) w.watchers x h).1

-- who was told has read up to the poll
told-one : (entry id : ℕ) (x y : Watcher) (b : Bool) → (watcher_id x == id) ≡ b → cond b (told_all entry x) x ≡ y → y.id ≡ id → y.cursor ≡ entry
told-one entry id x y true t e same = ap (λ (z : Watcher). z.cursor) (sym e)
told-one entry id x y false t e same =
    let found : (watcher_id x == id) ≡ true = (Decides-eqb x.id id).1 (ap (λ (z : Watcher). z.id) e ∙ same) in
    let no_way : false ≡ true = sym t ∙ found in absurd cc

told : (entry : ℕ) (w : World) (id : ℕ) (x : Watcher) → Has (told_at entry id w).watchers x → x.id ≡ id → x.cursor ≡ entry
told entry w id x h same =
    let r = Has-map_cases (λ y. cond (watcher_id y == id) (told_all entry y) y) w.watchers x h in
    told-one entry id r.0 x (watcher_id r.0 == id) refl r.2 same

polled-cursor : (w : World) (id : ℕ) (x : Watcher) (events : List Event) (lagged : Bool) →
    Has (cond {A = Reply × World} lagged (reply.Refused (refusal.Lagged (length events)), without_watcher id w)
    (reply.Events events, told_at (w.entries + 1) id w)).1.watchers x → x.id ≡ id → x.cursor ≡ w.entries + 1
polled-cursor w id x events true h same = absurd (gone w id x h same)
polled-cursor w id x events false h same = told (w.entries + 1) w id x h same

row-cursor : (w : World) (id : ℕ) (x : Watcher) (row : Option Watcher) → row_at watcher_id id w.watchers ≡ row →
    Has (answered w (watch_poll (w.entries + 1) w id row)).after.watchers x → x.id ≡ id → x.cursor ≡ w.entries + 1
row-cursor w id x None is h same =
    absurd (has-no watcher_id w.watchers x h (ap (λ k. row_at watcher_id k w.watchers) same ∙ is))
row-cursor w id x (Some y) is h same =
    polled-cursor w id x (waiting_events w y) (nat_lt most_events (length (waiting_events w y))) h same

pub poll-cursor : (w : World) (id : ℕ) (x : Watcher) → Has (poll w id).after.watchers x → x.id ≡ id → x.cursor ≡ w.entries + 1
poll-cursor w id x h same = row-cursor w id x (row_at watcher_id id w.watchers) refl h same

pub told-once : ToldOnceLaw
told-once h id x is same =
    let entry = what.Call (call.WatchPoll id) in
    let after = poll (replay h) id in
    none-past after.after.entries after.after.events x (step-watched (replay h) entry (watched-replay h)).past
    (poll-cursor (replay h) id x is same ∙ sym (entries-step (replay h) entry))
