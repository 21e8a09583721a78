-- The events that a world keeps are those of the history, as far as a watcher waits for them.
use Rattle.std.proofs.Common.{◌≡◌, ℕ, ◌+◌, ◌≤◌, Bool, true, false, List, [], ◌∷◌, ◌++◌, refl, ap, sym, ◌∙◌, subst, arith, append-nil, append_assoc, nat_lt, Ok, Err, ◌⊎◌, inl, inr}
use Rattle.std.specs.Prelude.{filter, ◌&&◌}
use Rattle.std.proofs.lemmas.Bool.Decides.{nat_tests}
use Rattle.std.proofs.lemmas.List.Elements.{filter-append}
use Rattle.swarm_model.proofs.Watching.Changes.{changes-at, changes-none}
use Rattle.swarm_model.proofs.Watching.Lists.{filter-all}
use Rattle.swarm_model.proofs.Watching.Watchers.{GivenSees, IsSeen, Sees, answer-sees, duty-watchers, same-sees}
use Rattle.swarm_model.specs.Calls.{answer, answered, entered}
use Rattle.swarm_objects.specs.Watches.{filter_admits}
use Rattle.swarm_model.specs.Calls.Watches.{is_waited_for, kept_events, waiting_events, waits_for}
use Rattle.swarm_model.specs.Changed.{changes_between}
use Rattle.swarm_model.specs.Events.{WaitingLaw, events_from, events_of_history}
use Rattle.swarm_model.specs.History.{replay, replay_from, step, step_world}
use Rattle.swarm_model.specs.Outcome.{Answered}
use Rattle.swarm_objects.proofs.RowLemmas.{Has-append_cases, Has-filter_cases}
use Rattle.swarm_objects.proofs.Tests.{or_cases, or_left, or_right}
use Rattle.swarm_objects.proofs.Filters.{filter_again, filter_none}
use Rattle.swarm_objects.specs.Duties.{effect_by}
use Rattle.swarm_objects.specs.Rows.{Has}
use Rattle.swarm_objects.specs.World.{World, empty_world}
use Rattle.swarm_objects.specs.declared.calls.Entry.{Entry}
use Rattle.swarm_objects.specs.declared.calls.What.{What}
use Rattle.swarm_objects.specs.declared.calls.What.TheVariants as what
use Rattle.swarm_objects.specs.declared.watches.Event.{Event}
use Rattle.swarm_objects.specs.declared.watches.Watcher.{Watcher}

-- A watcher and an event.

waits_not : (cursor entry : ℕ) (b : Bool) → entry ≤ cursor → (nat_lt cursor entry && b) ≡ false
waits_not cursor entry b le = go (nat_lt cursor entry) (grind (arith, nat_tests))
  where
    go : (a : Bool) → a ≡ false → (a && b) ≡ false
    go true e = absurd cc
    go false e = refl

pub waits-past : (x : Watcher) (e : Event) → e.entry ≤ x.cursor → waits_for x e ≡ false
waits-past x e le = waits_not x.cursor e.entry (filter_admits x.filter e) le

pub waited-by : (xs : List Watcher) (x : Watcher) (e : Event) → Has xs x → waits_for x e ≡ true → is_waited_for xs e ≡ true
waited-by [] x e h waits = absurd h
waited-by (y ∷ xs) x e (inl same) waits =
    or_left (waits_for y e) (is_waited_for xs e) (ap (λ z. waits_for z e) same ∙ waits)
waited-by (y ∷ xs) x e (inr h) waits = or_right (waits_for y e) (is_waited_for xs e) (waited-by xs x e h waits)

-- some watcher waits for it
pub waited-some : (xs : List Watcher) (e : Event) → is_waited_for xs e ≡ true → (x : Watcher) × Has xs x × (waits_for x e ≡ true)
waited-some [] e waits = absurd cc
waited-some (y ∷ xs) e waits = go (or_cases (waits_for y e) (is_waited_for xs e) waits) (waited-some xs e)
  where
    go : (waits_for y e ≡ true) ⊎ (is_waited_for xs e ≡ true) →
        (is_waited_for xs e ≡ true → (x : Watcher) × Has xs x × (waits_for x e ≡ true)) → (x : Watcher) × Has (y ∷ xs) x × (waits_for x e ≡ true)
    go (inl k) rest = (y, inl refl, k)
    go (inr k) rest = let r = rest k in (r.0, inr r.1, r.2)

pub waited-more : (xs ys : List Watcher) (e : Event) → ((x : Watcher) → Has xs x → Has ys x) → is_waited_for xs e ≡ true →
    is_waited_for ys e ≡ true
waited-more xs ys e more waits = let r = waited-some xs e waits in waited-by ys r.0 e (more r.0 r.1) r.2

-- What is kept.

pub kept-is : (old new : World) (xs : List Watcher) →
    kept_events old new xs ≡ filter (is_waited_for xs) (old.events ++ changes_between (old.entries + 1) old.tables new.tables)
kept-is old new [] =
    sym (filter_none (is_waited_for []) (old.events ++ changes_between (old.entries + 1) old.tables new.tables)
    (λ e h. refl))
kept-is old new (x ∷ xs) = refl

pub kept-for : (old new : World) (x : Watcher) → Has new.watchers x →
    waiting_events (entered old new) x
    ≡ filter (waits_for x) old.events ++ filter (waits_for x) (changes_between (old.entries + 1) old.tables new.tables)
kept-for old new x h =
    ap (filter (waits_for x)) (kept-is old new new.watchers)
    ∙ filter_again (waits_for x) (is_waited_for new.watchers) _ (λ e waits. waited-by new.watchers x e h waits)
    ∙ filter-append (waits_for x) old.events _

kept-cases : (old new : World) (xs : List Watcher) (e : Event) → Has (kept_events old new xs) e →
    (Has old.events e ⊎ (e.entry ≡ old.entries + 1)) × (is_waited_for xs e ≡ true)
kept-cases old new xs e h =
    let r = Has-filter_cases (is_waited_for xs) _ e (subst (λ es. Has es e) (kept-is old new xs) h) in
    (go (Has-append_cases old.events _ e r.0), r.1)
  where
    go : Has old.events e ⊎ Has (changes_between (old.entries + 1) old.tables new.tables) e → Has old.events e ⊎ (e.entry ≡ old.entries + 1)
    go (inl k) = inl k
    go (inr k) = inr (changes-at (old.entries + 1) old.tables new.tables e k)

-- The law: these are all events so far, and for each watcher the world keeps those that it waits for.

abbrev pub UpTo : ℕ → List Event → Type 0
UpTo n events = (e : Event) → Has events e → e.entry ≤ n

record IsTold (w : World) (events : List Event) : Type 0 where
  pub past : UpTo w.entries events
  pub told : (x : Watcher) → Has w.watchers x → waiting_events w x ≡ filter (waits_for x) events

past-more : (n : ℕ) (events more : List Event) → UpTo n events → ((e : Event) → Has more e → e.entry ≡ n + 1) → UpTo (n + 1) (events ++ more)
past-more n events more past at e h = go (Has-append_cases events more e h)
  where
    go : Has events e ⊎ Has more e → e.entry ≤ n + 1
    go (inl k) = let le = past e k in omega arith
    go (inr k) = let is = at e k in omega arith

-- who has read up to the entry waits for nothing that has been
pub none-past : (n : ℕ) (events : List Event) (x : Watcher) → UpTo n events → x.cursor ≡ n → filter (waits_for x) events ≡ []
none-past n events x past at =
    filter_none (waits_for x) events (λ e h. waits-past x e (let le = past e h in omega (arith, at)))

none-kept : (old new : World) (x : Watcher) → UpTo old.entries old.events → x.cursor ≡ old.entries + 1 →
    filter (waits_for x) (kept_events old new new.watchers) ≡ []
none-kept old new x past at =
    none-past (old.entries + 1) (kept_events old new new.watchers) x up at
  where
    upto : (e : Event) → Has old.events e ⊎ (e.entry ≡ old.entries + 1) → e.entry ≤ old.entries + 1
    upto e (inl k) = let le = past e k in omega arith
    upto e (inr k) = omega (arith, k)

    up : UpTo (old.entries + 1) (kept_events old new new.watchers)
    up e h = upto e (kept-cases old new new.watchers e h).0

-- Facts of every world: who watches has read up to no later entry, what is kept is from no later one, and is waited for.

pub record IsWatched (w : World) : Type 0 where
  pub cursors : (x : Watcher) → Has w.watchers x → x.cursor ≤ w.entries
  pub past : UpTo w.entries w.events
  pub waited : (e : Event) → Has w.events e → is_waited_for w.watchers e ≡ true

entered-watched : (w v : World) → IsWatched w → Sees w v → IsWatched (entered w v)
entered-watched w v is sees = record {
  cursors = λ x h. cursor x (sees x h);
  past = λ e h. upto e (kept-cases w v v.watchers e h).0;
  waited = λ e h. (kept-cases w v v.watchers e h).1;
}
  where
    cursor : (x : Watcher) → IsSeen w x → x.cursor ≤ w.entries + 1
    cursor x (inl h) = let le = is.cursors x h in omega arith
    cursor x (inr at) = omega (arith, at)

    upto : (e : Event) → Has w.events e ⊎ (e.entry ≡ w.entries + 1) → e.entry ≤ w.entries + 1
    upto e (inl k) = let le = is.past e k in omega arith
    upto e (inr k) = omega (arith, k)

counted-watched : (w : World) → IsWatched w → IsWatched (record w { entries = w.entries + 1 })
counted-watched w is = record {
  cursors = λ x h. let le = is.cursors x h in omega arith;
  past = λ e h. let le = is.past e h in omega arith;
  waited = is.waited;
}

answered-watched : (w : World) (given : Answered) → IsWatched w → GivenSees w given → IsWatched (answered w given).after
answered-watched w (Ok done) is sees = entered-watched w done.1 is sees
answered-watched w (Err r) is sees = counted-watched w is

pub step-watched : (w : World) (e : What) → IsWatched w → IsWatched (step w e).after
step-watched w (what.Call c) is = answered-watched w (answer (w.entries + 1) w c) is (answer-sees w c)
step-watched w (what.Duty d) is =
    entered-watched w (effect_by (w.entries + 1) w d) is
    (same-sees w (effect_by (w.entries + 1) w d) (duty-watchers (w.entries + 1) w d))

watched-from : (w : World) (h : List Entry) → IsWatched w → IsWatched (replay_from w h)
watched-from w [] is = is
watched-from w (e ∷ h) is = watched-from (step_world w e) h (step-watched w e.what is)

pub watched-replay : (h : List Entry) → IsWatched (replay h)
watched-replay h = watched-from empty_world h (record { cursors = λ x k. absurd k; past = λ e k. absurd k; waited = λ e k. absurd k })

-- without watchers no event is kept
pub unwatched : (w : World) → IsWatched w → w.watchers ≡ [] → w.events ≡ []
unwatched w is none = go w.events (λ e h. ap (λ xs. is_waited_for xs e) (sym none) ∙ is.waited e h)
  where
    go : (events : List Event) → ((e : Event) → Has events e → is_waited_for [] e ≡ true) → events ≡ []
    go [] waited = refl
    go (e ∷ events) waited = let false_is : false ≡ true = waited e (inl refl) in absurd cc

-- where the watchers only grow in number, every kept event stays
pub kept-stay : (old new : World) → IsWatched old → ((x : Watcher) → Has old.watchers x → Has new.watchers x) →
    kept_events old new new.watchers
    ≡ old.events ++ filter (is_waited_for new.watchers) (changes_between (old.entries + 1) old.tables new.tables)
kept-stay old new is more =
    kept-is old new new.watchers
    ∙ filter-append (is_waited_for new.watchers) old.events _
    ∙ ap (λ es. es ++ filter (is_waited_for new.watchers) (changes_between (old.entries + 1) old.tables new.tables))
    (filter-all (is_waited_for new.watchers) old.events
    (λ e h. waited-more old.watchers new.watchers e more (is.waited e h)))

-- Each entry tells its changes.

entered-told : (w v : World) (events : List Event) → IsWatched w → IsTold w events → Sees w v →
    IsTold (entered w v) (events ++ changes_between (w.entries + 1) w.tables v.tables)
entered-told w v events is so sees = record {
  past = past-more w.entries events changes so.past (changes-at (w.entries + 1) w.tables v.tables);
  told = λ x h. go x h (sees x h);
}
  where
    changes : List Event
    changes = changes_between (w.entries + 1) w.tables v.tables

    go : (x : Watcher) → Has v.watchers x → IsSeen w x → waiting_events (entered w v) x ≡ filter (waits_for x) (events ++ changes)
    go x h (inl was) =
        kept-for w v x h
        ∙ ap (λ es. es ++ filter (waits_for x) changes) (so.told x was)
        ∙ sym (filter-append (waits_for x) events changes)
    go x h (inr at) =
        none-kept w v x is.past at
        ∙ sym (none-past (w.entries + 1) (events ++ changes) x
        (past-more w.entries events changes so.past (changes-at (w.entries + 1) w.tables v.tables)) at)

counted-told : (w : World) (events : List Event) → IsTold w events →
    IsTold (record w { entries = w.entries + 1 }) (events ++ changes_between (w.entries + 1) w.tables w.tables)
counted-told w events so =
    subst (IsTold (record w { entries = w.entries + 1 }))
    (sym (ap (λ es. events ++ es) (changes-none (w.entries + 1) w.tables) ∙ append-nil events))
    (record { past = λ e h. let le = so.past e h in omega arith; told = so.told })

answered-told : (w : World) (events : List Event) (given : Answered) → IsWatched w → IsTold w events → GivenSees w given →
    IsTold (answered w given).after (events ++ changes_between (w.entries + 1) w.tables (answered w given).after.tables)
answered-told w events (Ok done) is so sees = entered-told w done.1 events is so sees
answered-told w events (Err r) is so sees = counted-told w events so

step-told : (w : World) (events : List Event) (e : What) → IsWatched w → IsTold w events →
    IsTold (step w e).after (events ++ changes_between (w.entries + 1) w.tables (step w e).after.tables)
step-told w events (what.Call c) is so = answered-told w events (answer (w.entries + 1) w c) is so (answer-sees w c)
step-told w events (what.Duty d) is so =
    entered-told w (effect_by (w.entries + 1) w d) events is so
    (same-sees w (effect_by (w.entries + 1) w d) (duty-watchers (w.entries + 1) w d))

told-from : (w : World) (events : List Event) (h : List Entry) → IsWatched w → IsTold w events →
    IsTold (replay_from w h) (events ++ events_from w h)
told-from w events [] is so = subst (IsTold w) (sym (append-nil events)) so
told-from w events (e ∷ h) is so =
    subst (IsTold (replay_from (step_world w e) h))
    (append_assoc events (changes_between (w.entries + 1) w.tables (step_world w e).tables) (events_from (step_world w e) h))
    (told-from (step_world w e) _ h (step-watched w e.what is) (step-told w events e.what is so))

told-replay : (h : List Entry) → IsTold (replay h) (events_of_history h)
told-replay h =
    told-from empty_world [] h (watched-replay []) (record { past = λ e k. absurd k; told = λ x k. absurd k })

pub all-wait : WaitingLaw
all-wait h = (told-replay h).told

-- every event of a history is of one of its entries
pub events-past : (h : List Entry) → UpTo (replay h).entries (events_of_history h)
events-past h = (told-replay h).past
