-- The events between two lists of rows by rising id are found row by row.
use Rattle.std.proofs.Common.{◌≡◌, ℕ, ◌+◌, ◌<◌, ◌≤◌, length, append-nil, Bool, true, false, cond, eqb, ltb, List, [], ◌∷◌, ◌++◌, refl, ap, sym, ◌∙◌, subst, Option, Some, None, ◌⊎◌, inl, inr, arith, append_assoc, min}
use Rattle.std.specs.Prelude.{filter, flat_map, map, ⊤}
use Rattle.std.specs.Option.{option_map, option_to_list}
use Rattle.std.proofs.lemmas.Bool.Decides.{nat_tests}
use Rattle.std.proofs.lemmas.List.{map-append}
use Rattle.std.proofs.lemmas.List.Elements.{filter-append}
use Rattle.swarm_model.specs.Changed.{event, events_of, row_events, verb_of}
use Rattle.swarm_objects.proofs.RowLemmas.{row_at-None_below}
use Rattle.swarm_objects.proofs.RowChanges.{rising_from}
use Rattle.swarm_objects.proofs.Rising.{AllAbove, above-append, above-rising, keys-above, rising-both, rising-first, rising-second}
use Rattle.swarm_objects.specs.Rows.{Has, IsRising, RisesFrom, rising, row_at}
use Rattle.swarm_objects.specs.declared.ids.Kind.{Kind}
use Rattle.swarm_objects.specs.declared.watches.Event.{Event}
use Rattle.swarm_objects.specs.declared.watches.Verb.{Verb}
use Rattle.swarm_plain.specs.Inside.Merging.{head_at, least_key, rest_at}

-- Rows without the first one, where it has the key.

data Splits (X : Type 0) (key : X → ℕ) (id : ℕ) : List X → List X → Type 0 where
  later : {rows : List X} → RisesFrom key id rows → Splits X key id rows rows
  here : {x : X} {rows : List X} → key x ≡ id → RisesFrom key id rows → Splits X key id (x ∷ rows) rows

abbrev AtMost : {X : Type 0} → (X → ℕ) → ℕ → List X → Type 0
AtMost key id [] = ⊤
AtMost key id (x ∷ rows) = id ≤ key x

splits : {X : Type 0} (key : X → ℕ) (id : ℕ) (rows : List X) → IsRising key rows → AtMost key id rows →
    Splits X key id rows (rest_at key id rows)
splits key id [] r le = later tt
splits key id (x ∷ rows) r le = go (eqb (key x) id) refl
  where
    go : (b : Bool) → eqb (key x) id ≡ b → Splits _ key id (x ∷ rows) (cond b rows (x ∷ rows))
    go true e = let same : key x ≡ id = grind (arith, nat_tests) in here same (subst (λ k. RisesFrom key k rows) same r)
    go false e = later (grind (arith, nat_tests), r)

rises-rest : {X : Type 0} (key : X → ℕ) (id : ℕ) (rows : List X) → IsRising key rows → IsRising key (rest_at key id rows)
rises-rest key id [] r = tt
rises-rest key id (x ∷ rows) r = go (eqb (key x) id)
  where
    go : (b : Bool) → IsRising key (cond b rows (x ∷ rows))
    go true = rising_from key (key x) rows r
    go false = r

rest-above : {X : Type 0} {key : X → ℕ} {id : ℕ} {rows rest : List X} → Splits X key id rows rest → AllAbove id (map key rest)
rest-above {key = key} {id = id} (later {rows = rows} r) = keys-above key id rows r
rest-above {key = key} {id = id} (here {x = x} {rows = rows} e r) = keys-above key id rows r

-- a look-up of a greater key passes over the first row
row-later : {X : Type 0} {key : X → ℕ} {id : ℕ} {rows rest : List X} (j : ℕ) → Splits X key id rows rest → id < j →
    row_at key j rows ≡ row_at key j rest
row-later j (later r) lt = refl
row-later {key = key} j (here {x = x} {rows = rows} e r) lt =
    let other : eqb (key x) j ≡ false = grind (arith, nat_tests) in
    ap (λ b. cond b (Some x) (row_at key j rows)) other

row-none : {X : Type 0} (key : X → ℕ) (id : ℕ) (rows : List X) → RisesFrom key id rows → row_at key id rows ≡ head_at key id rows
row-none key id [] r = refl
row-none key id (x ∷ rows) r =
    let lt : id < key x = r.0 in
    let other : eqb (key x) id ≡ false = grind (arith, nat_tests) in
    rw other (row_at-None_below key (key x) id rows r.1 (omega arith))

-- and of the key itself finds it, or nothing
row-here : {X : Type 0} {key : X → ℕ} {id : ℕ} {rows rest : List X} → Splits X key id rows rest → row_at key id rows ≡ head_at key id rows
row-here {key = key} {id = id} (later {rows = rows} r) = row-none key id rows r
row-here {key = key} {id = id} (here {x = x} {rows = rows} e r) =
    let same : eqb (key x) id ≡ true = grind (arith, nat_tests, e) in
    rw same refl

pub rest-rises : {X : Type 0} (key : X → ℕ) (id : ℕ) (rows rest : List X) → IsRising key rows → rest ≡ rest_at key id rows → IsRising key rest
rest-rises key id rows rest r is = subst (IsRising key) (sym is) (rises-rest key id rows r)

-- The least key of two lists.

at_most : {X : Type 0} (key : X → ℕ) (id : ℕ) (old new : List X) → least_key key old new ≡ Some id → AtMost key id old × AtMost key id new
at_most key id [] [] e = absurd cc
at_most key id [] (y ∷ new) e = let is : key y ≡ id = cc in (tt, omega (arith, is))
at_most key id (x ∷ old) [] e = let is : key x ≡ id = cc in (omega (arith, is), tt)
at_most key id (x ∷ old) (y ∷ new) e = let is : min (key x) (key y) ≡ id = cc in (omega (arith, is), omega (arith, is))

-- one of the lists begins with it
begins : {X : Type 0} (key : X → ℕ) (id : ℕ) (old new : List X) → least_key key old new ≡ Some id →
    RisesFrom key id old → RisesFrom key id new → ⊥
begins key id [] [] e r q = absurd cc
begins key id [] (y ∷ new) e r q = let is : key y ≡ id = cc in omega (arith, is, q.0)
begins key id (x ∷ old) [] e r q = let is : key x ≡ id = cc in omega (arith, is, r.0)
begins key id (x ∷ old) (y ∷ new) e r q = let is : min (key x) (key y) ≡ id = cc in omega (arith, is, r.0, q.0)

-- Keys of both lists.

keys-next : {X : Type 0} {key : X → ℕ} {id : ℕ} {old new olds news : List X} → least_key key old new ≡ Some id →
    Splits X key id old olds → Splits X key id new news →
    rising (map key old ++ map key new) ≡ id ∷ rising (map key olds ++ map key news)
keys-next {key = key} {id = id} e (later {rows = old} r) (later {rows = new} q) = absurd (begins key id old new e r q)
keys-next {key = key} {id = id} e (here {x = x} {rows = old} i r) (later {rows = new} q) =
    ap (λ k. rising ((k ∷ map key old) ++ map key new)) i
    ∙ rising-first id (map key old) (map key new) (keys-above key id old r) (keys-above key id new q)
keys-next {key = key} {id = id} e (later {rows = old} r) (here {x = y} {rows = new} i q) =
    ap (λ k. rising (map key old ++ k ∷ map key new)) i
    ∙ rising-second id (map key old) (map key new) (keys-above key id old r) (keys-above key id new q)
keys-next {key = key} {id = id} e (here {x = x} {rows = old} i r) (here {x = y} {rows = new} j q) =
    ap (λ k. rising ((k ∷ map key old) ++ key y ∷ map key new)) i
    ∙ ap (λ k. rising ((id ∷ map key old) ++ k ∷ map key new)) j
    ∙ rising-both id (map key old) (map key new) (keys-above key id old r) (keys-above key id new q)

flat_map-same : {X Y : Type 0} (f g : X → List Y) (xs : List X) → ((x : X) → Has xs x → f x ≡ g x) → flat_map f xs ≡ flat_map g xs
flat_map-same f g [] same = refl
flat_map-same f g (x ∷ xs) same =
    ap (λ ys. ys ++ flat_map f xs) (same x (inl refl)) ∙ ap (λ ys. g x ++ ys) (flat_map-same f g xs (λ y h. same y (inr h)))

-- Events.

-- the events of the id itself come first, and then those of the rows that are left
next-split : {X : Type 0} (n : ℕ) (k : Kind) (key : X → ℕ) (same : X → X → Bool) (id : ℕ) (old new olds news : List X) →
    least_key key old new ≡ Some id → Splits X key id old olds → Splits X key id new news →
    events_of n k key same old new
    ≡ map (event n k id) (verb_of same (head_at key id old) (head_at key id new)) ++ events_of n k key same olds news
next-split n k key same id old new olds news e s t =
    ap (λ ids. flat_map (row_events n k key same old new) (rising ids)) (map-append key old new)
    ∙ ap (flat_map (row_events n k key same old new)) (keys-next e s t)
    ∙ ap (λ es. row_events n k key same old new id ++ es)
    (flat_map-same (row_events n k key same old new) (row_events n k key same olds news) left each)
    ∙ ap (λ row. map (event n k id) (verb_of same row (row_at key id new)) ++ flat_map (row_events n k key same olds news) left)
    (row-here s)
    ∙ ap (λ row. map (event n k id) (verb_of same (head_at key id old) row) ++ flat_map (row_events n k key same olds news) left)
    (row-here t)
    ∙ ap (λ ids. map (event n k id) (verb_of same (head_at key id old) (head_at key id new)) ++ flat_map (row_events n k key same olds news) (rising ids))
    (sym (map-append key olds news))
  where
    left : List ℕ
    left = rising (map key olds ++ map key news)

    above : AllAbove id left
    above =
        above-rising id (map key olds ++ map key news)
        (above-append id (map key olds) (map key news) (rest-above s) (rest-above t))

    each : (j : ℕ) → Has left j → row_events n k key same old new j ≡ row_events n k key same olds news j
    each j h =
        ap (λ row. map (event n k j) (verb_of same row (row_at key j new))) (row-later j s (above j h))
        ∙ ap (λ row. map (event n k j) (verb_of same (row_at key j olds) row)) (row-later j t (above j h))

pub next-events : {X : Type 0} (n : ℕ) (k : Kind) (key : X → ℕ) (same : X → X → Bool) (id : ℕ) (old new : List X) →
    IsRising key old → IsRising key new → least_key key old new ≡ Some id →
    events_of n k key same old new
    ≡ map (event n k id) (verb_of same (head_at key id old) (head_at key id new))
    ++ events_of n k key same (rest_at key id old) (rest_at key id new)
next-events n k key same id old new r q e =
    let le = at_most key id old new e in
    next-split n k key same id old new (rest_at key id old) (rest_at key id new) e (splits key id old r le.0) (splits key id new q le.1)

pub no-events : {X : Type 0} (n : ℕ) (k : Kind) (key : X → ℕ) (same : X → X → Bool) (old new : List X) →
    least_key key old new ≡ None → events_of n k key same old new ≡ []
no-events n k key same [] [] e = refl
no-events n k key same [] (y ∷ new) e = absurd cc
no-events n k key same (x ∷ old) [] e = absurd cc
no-events n k key same (x ∷ old) (y ∷ new) e = absurd cc

-- Going through both lists together.

rest-shorter : {X : Type 0} (key : X → ℕ) (id : ℕ) (rows : List X) → length (rest_at key id rows) ≤ length rows
rest-shorter key id [] = omega arith
rest-shorter key id (x ∷ rows) = go (eqb (key x) id)
  where
    go : (b : Bool) → length (cond b rows (x ∷ rows)) ≤ length (x ∷ rows)
    go true = omega arith
    go false = omega arith

rest-shorter_here : {X : Type 0} (key : X → ℕ) (id : ℕ) (x : X) (rows : List X) → key x ≡ id →
    length (rest_at key id (x ∷ rows)) < length (x ∷ rows)
rest-shorter_here key id x rows e =
    let same : eqb (key x) id ≡ true = grind (arith, nat_tests, e) in
    rw same (omega arith)

pub rests-shorter : {X : Type 0} (key : X → ℕ) (id : ℕ) (old new : List X) → least_key key old new ≡ Some id →
    length (rest_at key id old) + length (rest_at key id new) < length old + length new
rests-shorter key id [] [] e = absurd cc
rests-shorter key id [] (y ∷ new) e = let is : key y ≡ id = cc in omega (arith, rest-shorter_here key id y new is)
rests-shorter key id (x ∷ old) [] e = let is : key x ≡ id = cc in omega (arith, rest-shorter_here key id x old is)
rests-shorter key id (x ∷ old) (y ∷ new) e = go (either-least (key x) (key y) id cc)
  where
    either-least : (a b k : ℕ) → min a b ≡ k → (a ≡ k) ⊎ (b ≡ k)
    either-least a b k is = go' (ltb a b) refl
      where
        go' : (t : Bool) → ltb a b ≡ t → (a ≡ k) ⊎ (b ≡ k)
        go' true lt = inl (let less : a < b = grind (arith, nat_tests) in omega (arith, is, less))
        go' false lt = inr (let more : b ≤ a = grind (arith, nat_tests) in omega (arith, is, more))

    go : (key x ≡ id) ⊎ (key y ≡ id) →
        length (rest_at key id (x ∷ old)) + length (rest_at key id (y ∷ new)) < length (x ∷ old) + length (y ∷ new)
    go (inl is) = omega (arith, rest-shorter_here key id x old is, rest-shorter key id (y ∷ new))
    go (inr is) = omega (arith, rest-shorter key id (x ∷ old), rest-shorter_here key id y new is)

map-verb : (n : ℕ) (k : Kind) (id : ℕ) (verb : Option Verb) →
    option_to_list (option_map (event n k id) verb) ≡ map (event n k id) (option_to_list verb)
map-verb n k id None = refl
map-verb n k id (Some v) = refl

-- what was put so far and what the rows that are left tell are all that was to be told
pub told-next : {X : Type 0} (p : Event → Bool) (n : ℕ) (k : Kind) (key : X → ℕ) (same : X → X → Bool) (id : ℕ) (old new : List X)
    (before after : List Event) (verb : Option Verb) (found : Option Event) (olds news : List X) →
    IsRising key old → IsRising key new → least_key key old new ≡ Some id →
    option_to_list verb ≡ verb_of same (head_at key id old) (head_at key id new) → found ≡ option_map (event n k id) verb →
    after ≡ before ++ filter p (option_to_list found) → olds ≡ rest_at key id old → news ≡ rest_at key id new →
    after ++ filter p (events_of n k key same olds news) ≡ before ++ filter p (events_of n k key same old new)
told-next p n k key same id old new before after verb found olds news r q e is event_is put first second =
    ap (λ xs. after ++ filter p (events_of n k key same xs news)) first
    ∙ ap (λ xs. after ++ filter p (events_of n k key same (rest_at key id old) xs)) second
    ∙ ap (λ es. es ++ filter p rest) (put ∙ ap (λ x. before ++ filter p (option_to_list x)) event_is ∙ ap (λ es. before ++ filter p es) (map-verb n k id verb ∙ ap (map (event n k id)) is))
    ∙ append_assoc before (filter p here') (filter p rest)
    ∙ ap (λ es. before ++ es) (sym (filter-append p here' rest))
    ∙ ap (λ es. before ++ filter p es) (sym (next-events n k key same id old new r q e))
  where
    rest : List Event
    rest = events_of n k key same (rest_at key id old) (rest_at key id new)

    here' : List Event
    here' = map (event n k id) (verb_of same (head_at key id old) (head_at key id new))

pub told-end : {X : Type 0} (p : Event → Bool) (n : ℕ) (k : Kind) (key : X → ℕ) (same : X → X → Bool) (old new : List X)
    (before all : List Event) → least_key key old new ≡ None → before ++ filter p (events_of n k key same old new) ≡ all → before ≡ all
told-end p n k key same old new before all e is =
    sym (append-nil before) ∙ ap (λ es. before ++ filter p es) (sym (no-events n k key same old new e)) ∙ is
