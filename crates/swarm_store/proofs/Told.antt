-- What is remembered of changed rows tells their events.
use Rattle.std.proofs.Common.{get_or, length, append_assoc, drop, ◌≡◌, ℕ, zero, suc, ◌+◌, ◌<◌, Bool, true, false, cond, eqb, ltb, ◌⊎◌, inl, inr, List, [], ◌∷◌, ◌++◌, Option, Some, None, refl, sym, ap, ◌∙◌, subst, arith}
use Rattle.std.specs.Prelude.{flat_map, fold, is_some, map}
use Rattle.std.proofs.lemmas.Bool.Decides.{nat_tests}
use Rattle.swarm_model.specs.Changed.{event, events_of, row_events, verb_of}
use Rattle.swarm_objects.proofs.Gaps.{Has-with_number_keeps, Has-with_row, IsRising-with_row}
use Rattle.swarm_objects.proofs.RowLemmas.{Has-from_row_at, Has-map, drop_next, number_above}
use Rattle.swarm_objects.specs.Rows.{Has, IsRising, RisesFrom, has_row, itself, rising, row_at, with_number}
use Rattle.swarm_objects.specs.declared.ids.Kind.{Kind}
use Rattle.swarm_objects.specs.declared.watches.Event.{Event}
use Rattle.swarm_objects.specs.declared.watches.Verb.{Verb}
use Rattle.swarm_objects.specs.declared.watches.Verb.TheVariants as verb
use Rattle.swarm_store.proofs.Tracking.{at-restored, image, image-at, image-is}
use Rattle.swarm_store.specs.Inside.Span.{Track}
use Rattle.std.specs.Bool.{Decides}
use Rattle.std.specs.Option.{option_to_list}
use Rattle.swarm_store.specs.Inside.Tracking.{AreImages, DecidesRows, IsImage, before_id, image_events, restored}
use Rattle.swarm_store.specs.declared.tracked.Before.{Before}

-- Two rising lists of numbers that differ only where nothing is told.

from-rising : (k : ℕ) (ks : List ℕ) → RisesFrom itself k ks → IsRising itself ks
from-rising k [] r = tt
from-rising k (j ∷ ks) r = r.1

above-all : (k : ℕ) (ks : List ℕ) (j : ℕ) → RisesFrom itself k ks → Has ks j → k < j
above-all k ks j r h = number_above itself k ks j r h

abbrev Beyond : {Y : Type 0} → (ℕ → List Y) → List ℕ → List ℕ → Type 0
Beyond f xs ys = (k : ℕ) → Has xs k → (f k ≡ []) ⊎ Has ys k

drop-empty : {Y : Type 0} (f : ℕ → List Y) (x : ℕ) (xs : List ℕ) → f x ≡ [] → flat_map f (x ∷ xs) ≡ flat_map f xs
drop-empty f x xs e = ap (λ ys. ys ++ flat_map f xs) e

-- a number that is below a whole list isn't in it
not-in : (x y : ℕ) (ys : List ℕ) → x < y → RisesFrom itself y ys → Has (y ∷ ys) x → ⊥
not-in x y ys lt r (inl e) = omega (arith, lt, e)
not-in x y ys lt r (inr h) = let more = above-all y ys x r h in omega (arith, lt, more)

abbrev Same : {Y : Type 0} → (ℕ → List Y) → List ℕ → List ℕ → Type 0
Same f xs ys = IsRising itself ys → Beyond f xs ys → Beyond f ys xs → flat_map f xs ≡ flat_map f ys

without-first : {Y : Type 0} (f : ℕ → List Y) (y : ℕ) (xs ys : List ℕ) → (f y ≡ []) ⊎ ((k : ℕ) → Has xs k → y < k) →
    Beyond f xs (y ∷ ys) → Beyond f xs ys
without-first f y xs ys why beyond k h = go (beyond k h)
  where
    go : (f k ≡ []) ⊎ Has (y ∷ ys) k → (f k ≡ []) ⊎ Has ys k
    go (inl e) = inl e
    go (inr (inr m)) = inr m
    go (inr (inl e)) = elim why [
      | inl none ↦ inl (ap f (sym e) ∙ none)
      | inr above ↦ (let lt = above k h in absurd (omega (arith, lt, e)))
    ]

same-nil : {Y : Type 0} (f : ℕ → List Y) (ys : List ℕ) → Beyond f ys [] → [] ≡ flat_map f ys
same-nil f [] b = refl
same-nil f (y ∷ ys) b =
    same-nil f ys (λ k h. b k (inr h)) ∙ sym (drop-empty f y ys (elim (b y (inl refl)) [ inl e ↦ e | inr n ↦ absurd n ]))

none-or : {Y : Type 0} (f : ℕ → List Y) (x y : ℕ) (ys : List ℕ) → x < y → RisesFrom itself y ys → (f x ≡ []) ⊎ Has (y ∷ ys) x →
    f x ≡ []
none-or f x y ys lt r (inl e) = e
none-or f x y ys lt r (inr h) = absurd (not-in x y ys lt r h)

same-cons : {Y : Type 0} (f : ℕ → List Y) (x : ℕ) (xs : List ℕ) → RisesFrom itself x xs → ((ys : List ℕ) → Same f xs ys) →
    (ys : List ℕ) → Same f (x ∷ xs) ys
same-cons f x xs r below [] q a b =
    drop-empty f x xs (elim (a x (inl refl)) [ inl e ↦ e | inr n ↦ absurd n ]) ∙ below [] tt (λ k h. a k (inr h)) (λ k h. absurd h)
same-cons f x xs r below (y ∷ ys) q a b = go (ltb x y) refl (ltb y x) refl (same-cons f x xs r below ys)
  where
    go : (s : Bool) → ltb x y ≡ s → (t : Bool) → ltb y x ≡ t → Same f (x ∷ xs) ys →
        flat_map f (x ∷ xs) ≡ flat_map f (y ∷ ys)
    go true e t d more =
        let lt : x < y = grind (arith, nat_tests) in
        let none : f x ≡ [] = none-or f x y ys lt q (a x (inl refl)) in
        drop-empty f x xs none
        ∙ below (y ∷ ys) q (λ k h. a k (inr h)) (without-first f x (y ∷ ys) xs (inl none) b)
    go false e true d more =
        let lt : y < x = grind (arith, nat_tests) in
        let none : f y ≡ [] = none-or f y x xs lt r (b y (inl refl)) in
        more (from-rising y ys q) (without-first f y (x ∷ xs) ys (inl none) a) (λ k h. b k (inr h))
        ∙ sym (drop-empty f y ys none)
    go false e false d more =
        let same : x ≡ y = grind (arith, nat_tests) in
        ap (λ zs. f x ++ zs)
        (below ys (from-rising y ys q)
        (without-first f y xs ys (inr (λ k h. let lt = above-all x xs k r h in omega (arith, lt, same))) (λ k h. a k (inr h)))
        (without-first f x ys xs (inr (λ k h. let lt = above-all y ys k q h in omega (arith, lt, same))) (λ k h. b k (inr h))))
        ∙ ap (λ k. f k ++ flat_map f ys) same

same-told : {Y : Type 0} (f : ℕ → List Y) (xs : List ℕ) → IsRising itself xs → (ys : List ℕ) → Same f xs ys
same-told f [] r ys q a b = same-nil f ys b
same-told f (x ∷ xs) r ys q a b =
    same-cons f x xs r (same-told f xs (from-rising x xs r)) ys q a b

-- The ids of all rows.

rising-has : (ks acc : List ℕ) (k : ℕ) → Has acc k ⊎ Has ks k → Has (fold (λ js j. with_number j js) acc ks) k
rising-has [] acc k (inl h) = h
rising-has [] acc k (inr h) = absurd h
rising-has (j ∷ ks) acc k (inl h) = rising-has ks (with_number j acc) k (inl (Has-with_number_keeps j k acc h))
rising-has (j ∷ ks) acc k (inr (inl e)) =
    rising-has ks (with_number j acc) k (inl (subst (Has (with_number j acc)) e (Has-with_row itself j acc)))
rising-has (j ∷ ks) acc k (inr (inr h)) = rising-has ks (with_number j acc) k (inr h)

rising-rises : (ks acc : List ℕ) → IsRising itself acc → IsRising itself (fold (λ js j. with_number j js) acc ks)
rising-rises [] acc r = r
rising-rises (k ∷ ks) acc r = rising-rises ks (with_number k acc) (IsRising-with_row itself k acc r)

key-has : {X : Type 0} (key : X → ℕ) (id : ℕ) (rows : List X) (x : X) → row_at key id rows ≡ Some x → Has (map key rows) id
key-has key id rows x e =
    let r = Has-from_row_at key id rows x e in
    subst (Has (map key rows)) r.1 (Has-map key rows x r.0)

keys-append : {X : Type 0} (key : X → ℕ) (old new : List X) (id : ℕ) → Has (map key old) id ⊎ Has (map key new) id →
    Has (map key (old ++ new)) id
keys-append key [] new id (inl h) = absurd h
keys-append key [] new id (inr h) = h
keys-append key (x ∷ old) new id (inl (inl e)) = inl e
keys-append key (x ∷ old) new id (inl (inr h)) = inr (keys-append key old new id (inl h))
keys-append key (x ∷ old) new id (inr h) = inr (keys-append key old new id (inr h))

-- a row that is there before or after has its id among them; else nothing is told
told-there : {X : Type 0} (n : ℕ) (k : Kind) (key : X → ℕ) (same : X → X → Bool) (old new : List X) (id : ℕ) →
    (row_events n k key same old new id ≡ []) ⊎ Has (rising (map key (old ++ new))) id
told-there n k key same old new id = go (row_at key id old) refl (row_at key id new) refl
  where
    has : Has (map key old) id ⊎ Has (map key new) id → Has (rising (map key (old ++ new))) id
    has h = rising-has (map key (old ++ new)) [] id (inr (keys-append key old new id h))

    go : (a : Option _) → row_at key id old ≡ a → (b : Option _) → row_at key id new ≡ b →
        (map (event n k id) (verb_of same a b) ≡ []) ⊎ Has (rising (map key (old ++ new))) id
    go None e None d = inl refl
    go (Some x) e b d = inr (has (inl (key-has key id old x e)))
    go None e (Some y) d = inr (has (inr (key-has key id new y d)))

-- Events.

verb-same : {X : Type 0} (same : X → X → Bool) → ((x : X) → same x x ≡ true) → (row : Option X) → verb_of same row row ≡ []
verb-same same itself None = refl
verb-same same itself (Some x) = ap (λ b. cond b [] (verb.Updated ∷ [])) (itself x)

id-kept : {X : Type 0} (i : ℕ) (before : List (Before X)) (now : Option X) → has_row before_id i before ≡ false →
    image i before now ≡ now
id-kept i [] now e = refl
id-kept i (b ∷ before) now e = go (eqb b.id i) (id-kept i before now) e
  where
    go : (a : Bool) → (has_row before_id i before ≡ false → image i before now ≡ now) →
        is_some (cond a (Some b) (row_at before_id i before)) ≡ false → cond a b.row (image i before now) ≡ now
    go true below e = absurd cc
    go false below e = below e

there-has : {X : Type 0} (i : ℕ) (before : List (Before X)) → has_row before_id i before ≡ true → Has (map before_id before) i
there-has i [] e = absurd cc
there-has i (b ∷ before) e = go (eqb b.id i) refl (there-has i before) e
  where
    go : (a : Bool) → eqb b.id i ≡ a → (has_row before_id i before ≡ true → Has (map before_id before) i) →
        is_some (cond a (Some b) (row_at before_id i before)) ≡ true → Has (b.id ∷ map before_id before) i
    go true d below e = inl (grind (arith, nat_tests))
    go false d below e = inr (below e)

-- only what is remembered changed
told-remembered : {X : Type 0} (n : ℕ) (k : Kind) (key : X → ℕ) (same : X → X → Bool) (before : List (Before X)) (rows : List X) (id : ℕ) →
    ((x : X) → same x x ≡ true) → AreImages key before →
    (row_events n k key same (restored key before rows) rows id ≡ []) ⊎ Has (map before_id before) id
told-remembered n k key same before rows id itself are = go (has_row before_id id before) refl
  where
    go : (b : Bool) → has_row before_id id before ≡ b →
        (row_events n k key same (restored key before rows) rows id ≡ []) ⊎ Has (map before_id before) id
    go true e = inr (there-has id before e)
    go false e =
        let unchanged = at-restored key id before rows are ∙ id-kept id before (row_at key id rows) e in
        inl (ap (λ row. map (event n k id) (verb_of same row (row_at key id rows))) unchanged
        ∙ ap (map (event n k id)) (verb-same same itself (row_at key id rows)))

ids-rise : {X : Type 0} (m : ℕ) (before : List (Before X)) → RisesFrom before_id m before → RisesFrom itself m (map before_id before)
ids-rise m [] r = tt
ids-rise m (b ∷ before) r = (r.0, ids-rise b.id before r.1)

each-told : {X : Type 0} (n : ℕ) (k : Kind) (key : X → ℕ) (same : X → X → Bool) (rows start : List X) (before : List (Before X)) →
    ((b : Before X) → Has before b → row_at key b.id start ≡ b.row) →
    flat_map (image_events n k key same rows) before ≡ flat_map (row_events n k key same start rows) (map before_id before)
each-told n k key same rows start [] are = refl
each-told n k key same rows start (b ∷ before) are =
    ap (λ row. map (event n k b.id) (verb_of same row (row_at key b.id rows)) ++ flat_map (image_events n k key same rows) before)
    (sym (are b (inl refl)))
    ∙ ap (λ es. row_events n k key same start rows b.id ++ es) (each-told n k key same rows start before (λ c h. are c (inr h)))

pub all-told : {X : Type 0} (n : ℕ) (k : Kind) (key : X → ℕ) (same : X → X → Bool) (rows : List X) (before : List (Before X)) →
    DecidesRows key same → RisesFrom before_id 0 before → AreImages key before →
    flat_map (image_events n k key same rows) before ≡ events_of n k key same (restored key before rows) rows
all-told n k key same rows before decides r are =
    each-told n k key same rows (restored key before rows) before
    (λ b h. at-restored key b.id before rows are ∙ image-is 0 before b (row_at key b.id rows) r h)
    ∙ same-told (row_events n k key same (restored key before rows) rows) (map before_id before) (from-rising 0 (map before_id before) (ids-rise 0 before r))
    (rising (map key ((restored key before rows) ++ rows))) (rising-rises (map key ((restored key before rows) ++ rows)) [] tt)
    (λ id h. told-there n k key same (restored key before rows) rows id)
    (λ id h. told-remembered n k key same before rows id (λ x. (decides x x refl).1 refl) are)

pub told-view : {X : Type 0} (n : ℕ) (k : Kind) (key : X → ℕ) (same : X → X → Bool) (rows : List X) (before seen : List (Before X))
    (v : Track X) → DecidesRows key same → RisesFrom before_id 0 before → AreImages key before → seen ≡ before →
    restored key before rows ≡ v.start → rows ≡ v.rows →
    flat_map (image_events n k key same rows) seen ≡ events_of n k key same v.start v.rows
told-view n k key same rows before seen v decides r are is start now =
    ap (flat_map (image_events n k key same rows)) is
    ∙ all-told n k key same rows before decides r are
    ∙ ap (λ xs. events_of n k key same xs rows) start ∙ ap (events_of n k key same v.start) now

has-item : {X : Type 0} (xs : List X) (i : ℕ) (x : X) → i < length xs → x ≡ get_or xs i x → Has (drop i xs) x
has-item xs i x lt is = subst (λ ys. Has ys x) (sym (drop_next xs i x lt is)) (inl refl)

has-dropped : {X : Type 0} (i : ℕ) (xs : List X) (x : X) → Has (drop i xs) x → Has xs x
has-dropped i [] x h = has-none i h
  where
    has-none : (i : ℕ) → Has (drop i []) x → Has [] x
    has-none zero h = h
    has-none (suc i) h = h
has-dropped zero (y ∷ xs) x h = h
has-dropped (suc i) (y ∷ xs) x h = inr (has-dropped i xs x h)

-- the next row's event was put
pub told-next : {X : Type 0} (n : ℕ) (k : Kind) (key : X → ℕ) (same : X → X → Bool) (rows : List X) (before : List (Before X)) (i : ℕ)
    (b : Before X) (found : Option X) (verb : Option Verb) (events more all : List Event) → DecidesRows key same →
    AreImages key before → i < length before → b ≡ get_or before i b → found ≡ row_at key b.id rows →
    (((x y : X) → b.row ≡ Some x → found ≡ Some y → Decides (same x y) (x ≡ y)) → option_to_list verb ≡ verb_of same b.row found) →
    more ≡ events ++ map (event n k b.id) (option_to_list verb) →
    events ++ flat_map (image_events n k key same rows) (drop i before) ≡ all →
    more ++ flat_map (image_events n k key same rows) (drop (i + 1) before) ≡ all
told-next {X = X} n k key same rows before i b found verb events more all decides are lt is at told put so =
    ap (λ es. es ++ flat_map (image_events n k key same rows) (drop (i + 1) before))
    (put ∙ ap (λ vs. events ++ map (event n k b.id) vs)
    (told (λ x y e f. decides x y (one-key x e ∙ sym (Has-from_row_at key b.id rows y (sym at ∙ f)).1))
    ∙ ap (verb_of same b.row) at))
    ∙ append_assoc events (image_events n k key same rows b) (flat_map (image_events n k key same rows) (drop (i + 1) before))
    ∙ ap (λ bs. events ++ flat_map (image_events n k key same rows) bs) (sym (drop_next before i b lt is))
    ∙ so
  where
    one-key : (x : X) → b.row ≡ Some x → key x ≡ b.id
    one-key x e = subst (IsImage key b.id) e (image-at key before b (has-dropped i before b (has-item before i b lt is)) are)

-- the events of all kinds, one after the other
pub four-told : (none e1 e2 e3 e4 a b c d : List Event) → none ≡ [] → e1 ≡ none ++ a → e2 ≡ e1 ++ b → e3 ≡ e2 ++ c → e4 ≡ e3 ++ d →
    e4 ≡ a ++ b ++ c ++ d
four-told none e1 e2 e3 e4 a b c d n p q r s =
    s ∙ ap (λ es. es ++ d) (r ∙ ap (λ es. es ++ c) (q ∙ ap (λ es. es ++ b) (p ∙ ap (λ es. es ++ a) n)))
