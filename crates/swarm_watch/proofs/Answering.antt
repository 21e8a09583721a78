-- What calls on watchers answer.
use Rattle.std.proofs.Common.{◌≡◌, ℕ, ◌+◌, ◌-◌, ◌<◌, ◌≤◌, Bool, true, false, cond, nat_lt, List, [], ◌∷◌, ◌++◌, length, Option, Some, None, Err, Ok, Result, refl, sym, ap, ◌∙◌, subst, arith, inl, Bor, length-append}
use Rattle.std.specs.Prelude.{filter, is_some, map, not, OnErr, OnOk}
use Rattle.std.specs.Option.{option_copied, option_map}
use Rattle.std.proofs.lemmas.Bool.Decides.{nat_tests}
use Rattle.swarm_objects.specs.Limits.{most_events}
use Rattle.swarm_objects.specs.Rows.{change_row, drop_row, row_at}
use Rattle.swarm_objects.specs.declared.names.NoMemory.{NoMemory}
use Rattle.swarm_objects.specs.declared.replies.Refusal.TheVariants as refusal
use Rattle.swarm_objects.specs.declared.watches.Event.{Event}
use Rattle.swarm_watch.proofs.Noting.{all_hear, awaited_is, tidy_more}
use Rattle.swarm_watch.proofs.Places.{found_is, tidy_begun}
use Rattle.swarm_watch.specs.Calls.{AnswersAs, MayAnswerAs, finish_answer, hears, is_awaited, poll_answer, poll_waiting, without_waiting}
use Rattle.swarm_watch.specs.Inside.Cursors.{IsTidy, cursor_id, is_admitted, watching_at, watchings}
use Rattle.swarm_watch.specs.Watchings.{Few, Many, Watching, Watchings, waiting_of, watching_id}
use Rattle.swarm_watch.specs.declared.cursors.Cursor.{Cursor}

-- Who is asked for.

pub asked_for : (v : Watchings) (xs seen : List Cursor) (kept : List Event) (id : ℕ) (found : Option Cursor) → watchings kept xs ≡ v.watchers → seen ≡ xs →
    found ≡ row_at cursor_id id seen → row_at watching_id id v.watchers ≡ option_map (watching_at kept) found
asked_for v xs seen kept id found view is found_there =
    sym (ap (row_at watching_id id) view)
    ∙ found_is xs kept id
    ∙ ap (option_map (watching_at kept)) (sym (found_there ∙ ap (row_at cursor_id id) is))

pub none_copied : (r : Option (Bor Cursor)) (b : Bool) → is_some r ≡ not b → b ≡ true → option_copied r ≡ None
none_copied None b e t = refl
none_copied (Some x) true e t = absurd cc
none_copied (Some x) false e t = absurd cc

pub some_copied : (kept : List Event) (r : Option (Bor Cursor)) (b : Bool) → is_some r ≡ not b → b ≡ false → is_some (option_map (watching_at kept) (option_copied r)) ≡ true
some_copied kept (Some x) b e t = refl
some_copied kept None true e t = absurd cc
some_copied kept None false e t = absurd cc

-- Answers.

pub poll_unknown : (v : Watchings) (id : ℕ) (row : Option Watching) → row ≡ None → MayAnswerAs (poll_answer v.watchers id row) v (Err (refusal.UnknownWatcher id)) v
poll_unknown v id None e = inl (refl, refl, omega arith)
poll_unknown v id (Some x) e = absurd cc

lags : (v after : Watchings) (id : ℕ) (events : List Event) (many : Bool) → many ≡ true → after.watchers ≡ drop_row watching_id id v.watchers →
    v.room ≤ after.room →
    MayAnswerAs (poll_waiting v.watchers id (cond many (Many (length events)) (Few events))) v (Err (refusal.Lagged (length events))) after
lags v after id events true t gone room = inl (refl, gone, room)
lags v after id events false t gone room = absurd cc

tells : (v after : Watchings) (id : ℕ) (events : List Event) (many : Bool) → many ≡ false → after.watchers ≡ change_row watching_id id without_waiting v.watchers →
    v.room ≤ after.room →
    MayAnswerAs (poll_waiting v.watchers id (cond many (Many (length events)) (Few events))) v (Ok events) after
tells v after id events true t told_is room = absurd cc
tells v after id events false t told_is room = inl (refl, told_is, room)

pub poll_lags : (v after : Watchings) (id count : ℕ) (row : Option Watching) (x : Watching) (events : List Event) → row ≡ Some x → x.waiting ≡ waiting_of events →
    count ≡ length events → most_events < count → after.watchers ≡ drop_row watching_id id v.watchers → v.room ≤ after.room →
    MayAnswerAs (poll_answer v.watchers id row) v (Err (refusal.Lagged count)) after
poll_lags v after id count row x events e waits n more gone room =
    let test : nat_lt most_events (length events) ≡ true = grind (arith, nat_tests) in
    subst (λ o. MayAnswerAs (poll_answer v.watchers id o) v (Err (refusal.Lagged count)) after) (sym e)
    (subst (λ waiting. MayAnswerAs (poll_waiting v.watchers id waiting) v (Err (refusal.Lagged count)) after) (sym waits)
    (subst (λ k. MayAnswerAs (poll_waiting v.watchers id (waiting_of events)) v (Err (refusal.Lagged k)) after) (sym n)
    (lags v after id events (nat_lt most_events (length events)) test gone room)))

pub poll_tells : (v after : Watchings) (id count : ℕ) (row : Option Watching) (x : Watching) (events given : List Event) → row ≡ Some x →
    x.waiting ≡ waiting_of events → count ≡ length events → count ≤ most_events → given ≡ events →
    after.watchers ≡ change_row watching_id id without_waiting v.watchers → v.room ≤ after.room → MayAnswerAs (poll_answer v.watchers id row) v (Ok given) after
poll_tells v after id count row x events given e waits n few all told_is room =
    let test : nat_lt most_events (length events) ≡ false = grind (arith, nat_tests) in
    subst (λ o. MayAnswerAs (poll_answer v.watchers id o) v (Ok given) after) (sym e)
    (subst (λ waiting. MayAnswerAs (poll_waiting v.watchers id waiting) v (Ok given) after) (sym waits)
    (subst (λ es. MayAnswerAs (poll_waiting v.watchers id (waiting_of events)) v (Ok es) after) (sym all)
    (tells v after id events (nat_lt most_events (length events)) test told_is room)))

pub finish_unknown : (v : Watchings) (id : ℕ) (row : Option Watching) → row ≡ None → AnswersAs (finish_answer v.watchers id row) v (Err (refusal.UnknownWatcher id)) v
finish_unknown v id None e = (refl, refl, omega arith)
finish_unknown v id (Some x) e = absurd cc

pub finish_done : (v after : Watchings) (id : ℕ) (row : Option Watching) → is_some row ≡ true → after.watchers ≡ drop_row watching_id id v.watchers →
    v.room ≤ after.room → AnswersAs (finish_answer v.watchers id row) v (Ok tt) after
finish_done v after id None e gone room = absurd cc
finish_done v after id (Some x) e gone room = (refl, gone, room)

-- A push that may want memory.

pub tidy_pushed : (pushed : Bool) (xs new : List Cursor) (kept : List Event) (x : Cursor) → new ≡ cond pushed (xs ++ x ∷ []) xs → IsTidy xs kept →
    row_at watching_id x.id (watchings kept xs) ≡ None → x.from ≤ length kept → IsTidy new kept
tidy_pushed true xs new kept x e is free le = subst (λ ys. IsTidy ys kept) (sym e) (tidy_begun xs kept x is free le)
tidy_pushed false xs new kept x e is free le = subst (λ ys. IsTidy ys kept) (sym e) is

-- Events are noted, or memory is wanting.

pub tidy_noted : (r : Result (Unit {0}) NoMemory) (xs seen : List Cursor) (kept new events : List Event) → seen ≡ xs → IsTidy xs kept →
    OnOk r (new ≡ kept ++ filter (is_admitted seen) events) → OnErr r (new ≡ kept) → IsTidy xs new
tidy_noted (Ok u) xs seen kept new events same is ok err =
    subst (IsTidy xs) (sym (ok ∙ ap (λ ys. kept ++ filter (is_admitted ys) events) same)) (tidy_more xs kept events is)
tidy_noted (Err e) xs seen kept new events same is ok err = subst (IsTidy xs) (sym err) is

pub heard : (r : Result (Unit {0}) NoMemory) (xs seen : List Cursor) (kept new events : List Event) (before : List Watching) → seen ≡ xs → IsTidy xs kept →
    watchings kept xs ≡ before → OnOk r (new ≡ kept ++ filter (is_admitted seen) events) → OnOk r (watchings new xs ≡ map (hears events) before)
heard (Ok u) xs seen kept new events before same is view ok =
    ap (λ es. watchings es xs) (ok ∙ ap (λ ys. kept ++ filter (is_admitted ys) events) same)
    ∙ all_hear xs kept events is.within
    ∙ ap (map (hears events)) view
heard (Err e) xs seen kept new events before same is view ok = tt

pub awaited_count : (xs seen : List Cursor) (kept events : List Event) (before : List Watching) → seen ≡ xs → watchings kept xs ≡ before →
    length (filter (is_admitted seen) events) ≡ length (filter (is_awaited before) events)
awaited_count xs seen kept events before same view =
    ap (λ ys. length (filter (is_admitted ys) events)) same
    ∙ ap length (sym (awaited_is xs kept events))
    ∙ ap (λ ws. length (filter (is_awaited ws) events)) view

pub noted_room : (r : Result (Unit {0}) NoMemory) (kept new extra : List Event) (room len capacity new_len new_capacity count : ℕ) →
    OnOk r (new ≡ kept ++ extra) → OnErr r (new ≡ kept) → len ≡ length kept → new_len ≡ length new → capacity ≤ new_capacity → capacity - len ≡ room →
    length extra ≡ count → room ≤ new_capacity - new_len + count
noted_room (Ok u) kept new extra room len capacity new_len new_capacity count ok err old_is new_is more is counted =
    let n : length new ≡ length kept + length extra = ap length ok ∙ length-append kept extra in omega arith
noted_room (Err e) kept new extra room len capacity new_len new_capacity count ok err old_is new_is more is counted =
    let n : length new ≡ length kept = ap length err in omega arith

pub noted_full : (r : Result (Unit {0}) NoMemory) (room len capacity extra count : ℕ) → OnErr r (capacity < len + extra) → len ≤ capacity → capacity - len ≡ room →
    extra ≡ count → OnErr r (room < count)
noted_full (Ok u) room len capacity extra count full fits is counted = tt
noted_full (Err e) room len capacity extra count full fits is counted = let more : capacity < len + extra = full in omega arith
