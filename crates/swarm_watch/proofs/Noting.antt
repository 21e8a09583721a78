-- Events come to wait.
use Rattle.std.proofs.Common.{◌≡◌, ℕ, ◌+◌, ◌≤◌, suc, Bool, true, false, cond, List, [], ◌∷◌, ◌++◌, length, nat_lt, take, drop, refl, ap, sym, ◌∙◌, arith, inl, inr, length-append}
use Rattle.std.specs.Prelude.{filter, map, nat_le, ◌==◌, ◌||◌, ◌&&◌}
use Rattle.std.specs.List.{list_any}
use Rattle.std.proofs.lemmas.Bool.Decides.{nat_tests}
use Rattle.std.proofs.lemmas.List.{drop-append-le}
use Rattle.std.proofs.lemmas.List.Elements.{filter-append}
use Rattle.swarm_objects.specs.Watches.{filter_admits}
use Rattle.swarm_objects.proofs.Tests.{or_right}
use Rattle.swarm_objects.proofs.Filters.{filter_again}
use Rattle.swarm_objects.specs.Limits.{most_events}
use Rattle.swarm_objects.specs.Rows.{Has}
use Rattle.swarm_objects.specs.declared.watches.Event.{Event}
use Rattle.swarm_watch.proofs.Moving.{any_map, waited_append, within_more}
use Rattle.swarm_watch.specs.Calls.{hears, is_awaited}
use Rattle.swarm_watch.specs.Inside.Cursors.{AreWaited, AreWithin, IsTidy, is_admitted, is_waited_at, watching_at, watchings}
use Rattle.swarm_watch.specs.Watchings.{Few, Many, Watching, waiting_of, waits_more}
use Rattle.swarm_watch.specs.declared.cursors.Cursor.{Cursor}

-- the first so many events were put, and there is memory for the others
pub record Keeps (xs : List Cursor) (events : List Event) (index : ℕ) (kept₀ kept : List Event) (capacity₀ capacity : ℕ) : Type 0 where
  pub put : kept ≡ kept₀ ++ filter (is_admitted xs) (take index events)
  pub more : capacity₀ ≤ capacity
  pub fits : length kept + length (filter (is_admitted xs) (drop index events)) ≤ capacity

-- What waits.

pub waits_again : (before events : List Event) → waits_more (waiting_of before) events ≡ waiting_of (before ++ events)
waits_again before events = go (nat_lt most_events (length before)) refl
  where
    all : List Event
    all = before ++ events

    go : (many : Bool) → nat_lt most_events (length before) ≡ many →
        waits_more (cond many (Many (length before)) (Few before)) events ≡ waiting_of all
    go true t =
        let test : nat_lt most_events (length all) ≡ true = (let sum = length-append before events in grind (arith, nat_tests)) in
        ap Many (sym (length-append before events))
        ∙ ap (λ many. cond many (Many (length all)) (Few all)) (sym test)
    go false t = refl

pub no_item : {X : Type 0} (xs : List X) (n : ℕ) (b : Bool) → n ≡ length xs → b ≡ (n == 0) → b ≡ true → xs ≡ []
no_item [] n b count e t = refl
no_item (x ∷ xs) n b count e t = absurd (grind (arith, nat_tests))

-- where nobody watches, nothing is waited for
pub nobody_waits : (xs : List Watching) (events : List Event) → xs ≡ [] → filter (is_awaited xs) events ≡ []
nobody_waits [] [] none = refl
nobody_waits [] (e ∷ events) none = nobody_waits [] events none
nobody_waits (x ∷ xs) events none = absurd cc

any_has : (p : Cursor → Bool) (xs : List Cursor) (x : Cursor) → Has xs x → p x ≡ true → list_any p xs ≡ true
any_has p [] x h t = absurd h
any_has p (y ∷ xs) x (inl same) t = let e : p y ≡ true = ap p same ∙ t in ap (λ v. v || list_any p xs) e
any_has p (y ∷ xs) x (inr h) t = or_right (p y) (list_any p xs) (any_has p xs x h t)

hears_more : (xs : List Cursor) (kept events : List Event) (x : Cursor) → Has xs x → x.from ≤ length kept →
    watching_at (kept ++ filter (is_admitted xs) events) x ≡ hears events (watching_at kept x)
hears_more xs kept events x h le =
    let p : Event → Bool = filter_admits x.filter in
    let q : Event → Bool = is_admitted xs in
    let seen : List Event → Watching = λ es. record { id = x.id; filter = x.filter; waiting = waiting_of es } in
    ap (λ es. seen (filter p es)) (drop-append-le x.from kept (filter q events) le)
    ∙ ap seen (filter-append p (drop x.from kept) (filter q events))
    ∙ ap (λ es. seen (filter p (drop x.from kept) ++ es))
    (filter_again p q events (λ e t. any_has (λ y. filter_admits y.filter e) xs x h t))
    ∙ ap (λ waiting. record { id = x.id; filter = x.filter; waiting = waiting }) (sym (waits_again (filter p (drop x.from kept)) (filter p events)))

each_hears : (xs : List Cursor) (kept events : List Event) (ys : List Cursor) → ((y : Cursor) → Has ys y → Has xs y) → AreWithin (length kept) ys →
    watchings (kept ++ filter (is_admitted xs) events) ys ≡ map (hears events) (watchings kept ys)
each_hears xs kept events [] among within = refl
each_hears xs kept events (y ∷ ys) among within =
    ap (λ w. w ∷ watchings (kept ++ filter (is_admitted xs) events) ys) (hears_more xs kept events y (among y (inl refl)) within.0)
    ∙ ap (λ ws. hears events (watching_at kept y) ∷ ws) (each_hears xs kept events ys (λ z h. among z (inr h)) within.1)

pub all_hear : (xs : List Cursor) (kept events : List Event) → AreWithin (length kept) xs →
    watchings (kept ++ filter (is_admitted xs) events) xs ≡ map (hears events) (watchings kept xs)
all_hear xs kept events within = each_hears xs kept events xs (λ y h. h) within

-- What is kept.

waits_later : (xs : List Cursor) (n place : ℕ) (e : Event) → n ≤ place → AreWithin n xs → is_admitted xs e ≡ true → is_waited_at xs place e ≡ true
waits_later [] n place e le within t = t
waits_later (x ∷ xs) n place e le within t =
    let test : nat_le x.from place ≡ true = (let below = within.0 in grind (arith, nat_tests)) in
    ap (λ v. (v && filter_admits x.filter e) || is_waited_at xs place e) test
    ∙ go (filter_admits x.filter e) (waits_later xs n place e le within.1) t
  where
    go : (v : Bool) → (is_admitted xs e ≡ true → is_waited_at xs place e ≡ true) → (v || is_admitted xs e) ≡ true → ((true && v) || is_waited_at xs place e) ≡ true
    go true rest t = refl
    go false rest t = rest t

all_later : (xs : List Cursor) (n place : ℕ) (events : List Event) → n ≤ place → AreWithin n xs → AreWaited xs place (filter (is_admitted xs) events)
all_later xs n place [] le within = tt
all_later xs n place (e ∷ events) le within =
    go (is_admitted xs e) refl (all_later xs n place events le within) (all_later xs n (suc place) events (omega arith) within)
  where
    go : (v : Bool) → is_admitted xs e ≡ v → AreWaited xs place (filter (is_admitted xs) events) → AreWaited xs (suc place) (filter (is_admitted xs) events) →
        AreWaited xs place (cond v (e ∷ filter (is_admitted xs) events) (filter (is_admitted xs) events))
    go true t here later = (waits_later xs n place e le within t, later)
    go false t here later = here

pub tidy_more : (xs : List Cursor) (kept events : List Event) → IsTidy xs kept → IsTidy xs (kept ++ filter (is_admitted xs) events)
tidy_more xs kept events is = record {
  distinct = is.distinct;
  within = within_more (length kept) (length (kept ++ filter (is_admitted xs) events)) xs (omega (arith, length-append kept (filter (is_admitted xs) events))) is.within;
  waited = waited_append xs 0 kept (filter (is_admitted xs) events) is.waited (all_later xs (length kept) (0 + length kept) events (omega arith) is.within);
}

-- those who are seen wait for what their filters admit
pub awaited_is : (xs : List Cursor) (kept events : List Event) → filter (is_awaited (watchings kept xs)) events ≡ filter (is_admitted xs) events
awaited_is xs kept [] = refl
awaited_is xs kept (e ∷ events) =
    ap (λ v. cond v (e ∷ filter (is_awaited (watchings kept xs)) events) (filter (is_awaited (watchings kept xs)) events))
    (any_map (λ (w : Watching). filter_admits w.filter e) (λ (x : Cursor). filter_admits x.filter e) (watching_at kept) xs (λ x. refl))
    ∙ ap (λ es. cond (is_admitted xs e) (e ∷ es) es) (awaited_is xs kept events)
