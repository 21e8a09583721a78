-- Rows are put back as they were.
use Rattle.std.proofs.Common.{◌≡◌, ℕ, ◌+◌, ◌-◌, ◌<◌, ◌≤◌, Bool, true, false, cond, eqb, ltb, inl, inr, List, [], ◌∷◌, ◌++◌, length, Option, Some, None, refl, sym, ap, ◌∙◌, subst, arith}
use Rattle.std.specs.Prelude.{drop, is_some, not, slice_get, suc, take}
use Rattle.std.proofs.lemmas.Bool.Decides.{nat_tests}
use Rattle.swarm_index.specs.Index.{RowsWithRoom}
use Rattle.swarm_objects.proofs.Orders.{before-le, put_before}
use Rattle.swarm_objects.proofs.RowLemmas.{Has-from_row_at, RisesFrom-filter, row_at-None_below}
use Rattle.swarm_objects.specs.Rows.{Has, IsRising, RisesFrom, drop_row, has_row, is_some_and, row_at, rows_before, with_number, with_row}
use Rattle.swarm_store.proofs.ByKey.{at-drop, at-with, gone_twice, gone_with, rises-with, same-rows}
use Rattle.swarm_store.specs.Inside.Tracking.{AreImages, GoBackAsBefore, IsImage, IsTracked, before_id, count_back, put_back, remembered, restored}
use Rattle.swarm_store.specs.declared.tracked.Before.{Before}

abbrev before_row : {X : Type 0} → Before X → Option X
before_row b = b.row

-- the row with this id as it was, where it changed
abbrev pub image : {X : Type 0} → ℕ → List (Before X) → Option X → Option X
image i [] now = now
image i (b ∷ before) now = cond (eqb b.id i) b.row (image i before now)

at-put_back : {X : Type 0} (key : X → ℕ) (i id : ℕ) (row : Option X) (rows : List X) → IsImage key id row →
    row_at key i (elim row [ None ↦ drop_row key id rows | Some old ↦ with_row key old (drop_row key id rows) ]) ≡
    cond (eqb id i) row (row_at key i rows)
at-put_back key i id None rows is = at-drop key i id rows
at-put_back key i id (Some old) rows is =
    at-with key i old (drop_row key id rows) ∙ go (eqb id i) (eqb (key old) i) (ap (λ k. eqb k i) is) (at-drop key i id rows)
  where
    go : (a b : Bool) → b ≡ a → row_at key i (drop_row key id rows) ≡ cond a None (row_at key i rows) →
        cond b (Some old) (row_at key i (drop_row key id rows)) ≡ cond a (Some old) (row_at key i rows)
    go true true e h = refl
    go true false e h = absurd cc
    go false true e h = absurd cc
    go false false e h = h

pub at-restored : {X : Type 0} (key : X → ℕ) (i : ℕ) (before : List (Before X)) (rows : List X) → AreImages key before →
    row_at key i (restored key before rows) ≡ image i before (row_at key i rows)
at-restored key i [] rows are = refl
at-restored key i (b ∷ before) rows are =
    at-put_back key i b.id b.row (restored key before rows) are.1
    ∙ ap (cond (eqb b.id i) b.row) (at-restored key i before rows are.2)

rises-put_back : {X : Type 0} (key : X → ℕ) (id : ℕ) (row : Option X) (rows : List X) → 0 < id → IsImage key id row →
    RisesFrom key 0 rows →
    RisesFrom key 0 (elim row [ None ↦ drop_row key id rows | Some old ↦ with_row key old (drop_row key id rows) ])
rises-put_back key id None rows lt is r = RisesFrom-filter key 0 _ rows r
rises-put_back key id (Some old) rows lt is r =
    rises-with key 0 old (drop_row key id rows) (omega (arith, lt, is)) (RisesFrom-filter key 0 _ rows r)

pub rises-restored : {X : Type 0} (key : X → ℕ) (before : List (Before X)) (rows : List X) → AreImages key before →
    RisesFrom key 0 rows → RisesFrom key 0 (restored key before rows)
rises-restored key [] rows are r = r
rises-restored key (b ∷ before) rows are r =
    rises-put_back key b.id b.row (restored key before rows) are.0 are.1 (rises-restored key before rows are.2 r)

image-absent : {X : Type 0} (i : ℕ) (before : List (Before X)) (now : Option X) → row_at before_id i before ≡ None →
    image i before now ≡ now
image-absent i [] now e = refl
image-absent i (b ∷ before) now e = go (eqb b.id i) (image-absent i before now) e
  where
    go : (a : Bool) → (row_at before_id i before ≡ None → image i before now ≡ now) →
        cond a (Some b) (row_at before_id i before) ≡ None → cond a b.row (image i before now) ≡ now
    go true below e = absurd cc
    go false below e = below e

image-there : {X : Type 0} (i : ℕ) (before : List (Before X)) (now then' : Option X) → has_row before_id i before ≡ true →
    image i before now ≡ image i before then'
image-there i [] now then' e = absurd cc
image-there i (b ∷ before) now then' e = go (eqb b.id i) (image-there i before now then') e
  where
    go : (a : Bool) → (has_row before_id i before ≡ true → image i before now ≡ image i before then') →
        is_some (cond a (Some b) (row_at before_id i before)) ≡ true →
        cond a b.row (image i before now) ≡ cond a b.row (image i before then')
    go true below e = refl
    go false below e = below e

image-with : {X : Type 0} (i : ℕ) (b : Before X) (before : List (Before X)) (now : Option X) →
    image i (with_row before_id b before) now ≡ cond (eqb b.id i) b.row (image i before now)
image-with i b [] now = refl
image-with i b (c ∷ before) now =
    go (ltb b.id c.id) refl (eqb b.id c.id) refl (eqb c.id i) refl (eqb b.id i) refl (image-with i b before now)
  where
    go : (a : Bool) → ltb b.id c.id ≡ a → (e : Bool) → eqb b.id c.id ≡ e → (f : Bool) → eqb c.id i ≡ f →
        (g : Bool) → eqb b.id i ≡ g →
        image i (with_row before_id b before) now ≡ cond g b.row (image i before now) →
        image i (cond a (b ∷ c ∷ before) (cond e (b ∷ before) (c ∷ with_row before_id b before))) now ≡
        cond g b.row (cond f c.row (image i before now))
    go true p e q f r g s below = rw (r, s) refl
    go false p true q f r true s below = rw s refl
    go false p true q true r false s below = absurd (grind (arith, nat_tests))
    go false p true q false r false s below = rw s refl
    go false p false q true r true s below = absurd (grind (arith, nat_tests))
    go false p false q true r false s below = rw r refl
    go false p false q false r g s below = rw r below

pub none-there : {X : Type 0} (row : Option X) → is_some row ≡ false → row ≡ None
none-there None e = refl
none-there (Some x) e = absurd cc

image-remembered : {X : Type 0} (i : ℕ) (b : Before X) (before : List (Before X)) (was now : Option X) →
    (b.id ≡ i → b.row ≡ was) → (eqb b.id i ≡ false → now ≡ was) →
    image i (remembered b before) now ≡ image i before was
image-remembered i b before was now same other = go (has_row before_id b.id before) refl (eqb b.id i) refl
  where
    go : (a : Bool) → has_row before_id b.id before ≡ a → (e : Bool) → eqb b.id i ≡ e →
        image i (cond a before (with_row before_id b before)) now ≡ image i before was
    go true there true e =
        let is : b.id ≡ i = grind (arith, nat_tests) in
        image-there i before now was (ap (λ k. has_row before_id k before) (sym is) ∙ there)
    go true there false e = ap (image i before) (other e)
    go false there true e =
        let is : b.id ≡ i = grind (arith, nat_tests) in
        image-with i b before now ∙ ap (λ t. cond t b.row (image i before now)) e ∙ same is
        ∙ sym (image-absent i before was (none-there _ (ap (λ k. has_row before_id k before) (sym is) ∙ there)))
    go false there false e =
        image-with i b before now ∙ ap (λ t. cond t b.row (image i before now)) e ∙ ap (image i before) (other e)

images-with : {X : Type 0} (key : X → ℕ) (b : Before X) (before : List (Before X)) → 0 < b.id → IsImage key b.id b.row →
    AreImages key before → AreImages key (with_row before_id b before)
images-with key b [] lt is are = (lt, is, tt)
images-with key b (c ∷ before) lt is are =
    go (ltb b.id c.id) (eqb b.id c.id) (images-with key b before lt is are.2)
  where
    go : (a e : Bool) → AreImages key (with_row before_id b before) →
        AreImages key (cond a (b ∷ c ∷ before) (cond e (b ∷ before) (c ∷ with_row before_id b before)))
    go true e below = (lt, is, are)
    go false true below = (lt, is, are.2)
    go false false below = (are.0, are.1, below)

pub images-remembered : {X : Type 0} (key : X → ℕ) (b : Before X) (before : List (Before X)) → 0 < b.id →
    IsImage key b.id b.row → AreImages key before → AreImages key (remembered b before)
images-remembered key b before lt is are = go (has_row before_id b.id before)
  where
    go : (a : Bool) → AreImages key (cond a before (with_row before_id b before))
    go true = are
    go false = images-with key b before lt is are

pub ids-remembered : {X : Type 0} (b : Before X) (before : List (Before X)) → 0 < b.id → RisesFrom before_id 0 before →
    RisesFrom before_id 0 (remembered b before)
ids-remembered b before lt r = go (has_row before_id b.id before)
  where
    go : (a : Bool) → RisesFrom before_id 0 (cond a before (with_row before_id b before))
    go true = r
    go false = rises-with before_id 0 b before lt r

length-with : {X : Type 0} (b : Before X) (before : List (Before X)) →
    length (with_row before_id b before) ≤ length before + 1
length-with b [] = omega arith
length-with b (c ∷ before) = go (ltb b.id c.id) (eqb b.id c.id) (length-with b before)
  where
    go : (a e : Bool) → length (with_row before_id b before) ≤ length before + 1 →
        length (cond a (b ∷ c ∷ before) (cond e (b ∷ before) (c ∷ with_row before_id b before))) ≤ length (c ∷ before) + 1
    go true e below = omega arith
    go false true below = omega arith
    go false false below = omega (arith, below)

pub length-remembered : {X : Type 0} (b : Before X) (before : List (Before X)) → length (remembered b before) ≤ length before + 1
length-remembered b before = go (has_row before_id b.id before)
  where
    go : (a : Bool) → length (cond a before (with_row before_id b before)) ≤ length before + 1
    go true = omega arith
    go false = length-with b before

pub remembered-most : {X : Type 0} (b : Before X) (old made now : List (Before X)) → now ≡ remembered b made → made ≡ old →
    length now ≤ length old + 1
remembered-most b old made now next same =
    let most = length-remembered b made in omega (arith, most, ap length next, ap length same)

is-image : {X : Type 0} (key : X → ℕ) (id : ℕ) (rows : List X) → IsImage key id (row_at key id rows)
is-image key id [] = tt
is-image key id (x ∷ rows) = go (eqb (key x) id) refl (is-image key id rows)
  where
    go : (b : Bool) → eqb (key x) id ≡ b → IsImage key id (row_at key id rows) →
        IsImage key id (cond b (Some x) (row_at key id rows))
    go true e below = grind (arith, nat_tests)
    go false e below = below

pub image-of : {X : Type 0} (key : X → ℕ) (id : ℕ) (row : Option X) (rows : List X) → row ≡ row_at key id rows → IsImage key id row
image-of key id row rows e = subst (IsImage key id) (sym e) (is-image key id rows)

-- one row changed, and what it was is remembered
pub step : {X : Type 0} (key : X → ℕ) (b : Before X) (before : List (Before X)) (old new : List X) → 0 < b.id →
    b.row ≡ row_at key b.id old → AreImages key before → RisesFrom key 0 old → RisesFrom key 0 new →
    ((i : ℕ) → eqb b.id i ≡ false → row_at key i new ≡ row_at key i old) →
    restored key (remembered b before) new ≡ restored key before old
step key b before old new lt was are r q other =
    same-rows key 0 0 (restored key (remembered b before) new) (restored key before old)
    (rises-restored key (remembered b before) new more q) (rises-restored key before old are r)
    (λ i. at-restored key i (remembered b before) new more
    ∙ image-remembered i b before (row_at key i old) (row_at key i new)
    (λ is. was ∙ ap (λ k. row_at key k old) is) (other i)
    ∙ sym (at-restored key i before old are))
  where
    more : AreImages key (remembered b before)
    more = images-remembered key b before lt (image-of key b.id b.row old was) are

-- the rows with one more and without one
pub put-other : {X : Type 0} (key : X → ℕ) (new : X) (rows : List X) (i : ℕ) → eqb (key new) i ≡ false →
    row_at key i (with_row key new rows) ≡ row_at key i rows
put-other key new rows i e = at-with key i new rows ∙ ap (λ b. cond b (Some new) (row_at key i rows)) e

pub drop-other : {X : Type 0} (key : X → ℕ) (id : ℕ) (rows : List X) (i : ℕ) → eqb id i ≡ false →
    row_at key i (drop_row key id rows) ≡ row_at key i rows
drop-other key id rows i e = at-drop key i id rows ∙ ap (λ b. cond b None (row_at key i rows)) e

pub gone : {X : Type 0} (key : X → ℕ) (id k : ℕ) (rows : List X) → k ≡ id → row_at key k (drop_row key id rows) ≡ None
gone key id k rows e =
    let same : eqb id k ≡ true = grind (arith, nat_tests, e) in
    at-drop key k id rows ∙ ap (λ b. cond b None (row_at key k rows)) same

pub restored-snoc : {X : Type 0} (key : X → ℕ) (before : List (Before X)) (b : Before X) (rows : List X) →
    restored key (before ++ b ∷ []) rows ≡ restored key before (put_back key b rows)
restored-snoc key [] b rows = refl
restored-snoc key (c ∷ before) b rows = ap (put_back key c) (restored-snoc key before b rows)

pub images-first : {X : Type 0} (key : X → ℕ) (before : List (Before X)) (b : Before X) → AreImages key (before ++ b ∷ []) →
    AreImages key before
images-first key [] b are = tt
images-first key (c ∷ before) b are = (are.0, are.1, images-first key before b are.2)

pub image-last : {X : Type 0} (key : X → ℕ) (before : List (Before X)) (b : Before X) → AreImages key (before ++ b ∷ []) →
    IsImage key b.id b.row
image-last key [] b are = are.1
image-last key (c ∷ before) b are = image-last key before b are.2

number-above : {X : Type 0} (m : ℕ) (before : List (Before X)) (b : Before X) → RisesFrom before_id m before → Has before b → m < b.id
number-above m [] b r h = absurd h
number-above m (c ∷ before) b r (inl e) = omega (arith, r.0, ap before_id e)
number-above m (c ∷ before) b r (inr h) = let more = number-above c.id before b r.1 h in omega (arith, r.0, more)

-- what is remembered of a row is what it was
pub image-is : {X : Type 0} (n : ℕ) (before : List (Before X)) (b : Before X) (now : Option X) → RisesFrom before_id n before →
    Has before b → image b.id before now ≡ b.row
image-is n [] b now r h = absurd h
image-is n (c ∷ before) b now r (inl e) =
    let same : eqb c.id b.id ≡ true = grind (arith, nat_tests, ap before_id e) in
    ap (λ t. cond t c.row (image b.id before now)) same ∙ ap before_row e
image-is n (c ∷ before) b now r (inr h) =
    let above = number-above c.id before b r.1 h in
    let other : eqb c.id b.id ≡ false = grind (arith, nat_tests, above) in
    ap (λ t. cond t c.row (image b.id before now)) other ∙ image-is c.id before b now r.1 h

-- What the code finds is what it has to remember.

abbrev is_next : {X : Type 0} → (X → ℕ) → ℕ → List X → ℕ → Bool
is_next key k rows n = is_some_and (λ row. eqb (key row) k) (slice_get rows n)

next-has : {X : Type 0} (key : X → ℕ) (m k : ℕ) (rows : List X) → RisesFrom key m rows →
    is_next key k rows (rows_before key k rows) ≡ has_row key k rows
next-has key m k [] r = refl
next-has key m k (x ∷ rows) r = go (ltb (key x) k) refl (eqb (key x) k) refl (next-has key (key x) k rows r.1)
  where
    go : (a : Bool) → ltb (key x) k ≡ a → (b : Bool) → eqb (key x) k ≡ b →
        is_next key k rows (rows_before key k rows) ≡ has_row key k rows →
        is_next key k (x ∷ rows) (cond a (suc (rows_before key k rows)) 0) ≡ is_some (cond b (Some x) (row_at key k rows))
    go true p true q below = absurd (grind (arith, nat_tests))
    go true p false q below = below
    go false p true q below = q
    go false p false q below =
        let lt : k < key x = grind (arith, nat_tests) in
        q ∙ sym (ap is_some (row_at-None_below key (key x) k rows r.1 (omega (arith, lt))))

abbrev found_at : {X : Type 0} → Before X → List (Before X) → Bool
found_at b before = is_next before_id b.id before (rows_before before_id b.id before)

pub known : {X : Type 0} (b : Before X) (before : List (Before X)) → RisesFrom before_id 0 before → found_at b before ≡ true →
    before ≡ remembered b before
known b before r e =
    sym (ap (λ t. cond t before (with_row before_id b before)) (sym (next-has before_id 0 b.id before r) ∙ e))

pub unknown : {X : Type 0} (b : Before X) (before : List (Before X)) → RisesFrom before_id 0 before → found_at b before ≡ false →
    take (rows_before before_id b.id before) before ++ b ∷ drop (rows_before before_id b.id before) before ≡ remembered b before
unknown b before r e =
    put_before before_id b before e
    ∙ sym (ap (λ t. cond t before (with_row before_id b before)) (sym (next-has before_id 0 b.id before r) ∙ e))

pub at-most : {X : Type 0} (b : Before X) (before : List (Before X)) → rows_before before_id b.id before ≤ length before
at-most b before = before-le before_id b.id before

-- One change.

kept-step : {X : Type 0} (key : X → ℕ) (b : Before X) (b0 b1 b2 : List (Before X)) (r0 r1 r2 : RowsWithRoom X) →
    IsTracked key b0 r0 → r1.rows ≡ r0.rows → b1 ≡ b0 → length b0 + 2 ≤ r1.room → 0 < b.id → b.row ≡ row_at key b.id r1.rows →
    b2 ≡ remembered b b1 → r1.room ≤ r2.room + 1 → RisesFrom key 0 r2.rows →
    ((i : ℕ) → eqb b.id i ≡ false → row_at key i r2.rows ≡ row_at key i r1.rows) → GoBackAsBefore key b0 r0 b2 r2
kept-step key b b0 b1 b2 r0 r1 r2 is rows before room lt was next left rising other =
    let now : b2 ≡ remembered b b0 = next ∙ ap (remembered b) before in
    let was' : b.row ≡ row_at key b.id r0.rows = was ∙ ap (row_at key b.id) rows in (
      record {
        rising = rising;
        ids = subst (RisesFrom before_id 0) (sym now) (ids-remembered b b0 lt is.ids);
        images = subst (AreImages key) (sym now) (images-remembered key b b0 lt (image-of key b.id b.row r0.rows was') is.images);
        room = (let most = length-remembered b b0 in omega (arith, most, ap length now, room, left));
      },
      ap (λ xs. restored key xs r2.rows) now
          ∙ step key b b0 r0.rows r2.rows lt was' is.images is.rising rising
          (λ i e. other i e ∙ ap (row_at key i) rows),
    )

pub kept-put : {X : Type 0} (key : X → ℕ) (row : X) (b : Before X) (b0 b1 b2 : List (Before X)) (r0 r1 r2 : RowsWithRoom X) →
    IsTracked key b0 r0 → r1.rows ≡ r0.rows → b1 ≡ b0 → length b0 + 2 ≤ r1.room → 0 < key row → b.id ≡ key row →
    b.row ≡ row_at key (key row) r1.rows → b2 ≡ remembered b b1 → r1.room ≤ r2.room + 1 → r2.rows ≡ with_row key row r1.rows →
    GoBackAsBefore key b0 r0 b2 r2
kept-put key row b b0 b1 b2 r0 r1 r2 is rows before room lt id was next left put =
    let rises : RisesFrom key 0 r1.rows = subst (RisesFrom key 0) (sym rows) is.rising in
    kept-step key b b0 b1 b2 r0 r1 r2 is rows before room (omega (arith, lt, id)) (was ∙ ap (λ k. row_at key k r1.rows) (sym id))
    next left (subst (RisesFrom key 0) (sym put) (rises-with key 0 row r1.rows lt rises))
    (λ i e. ap (row_at key i) put ∙ put-other key row r1.rows i (ap (λ k. eqb k i) (sym id) ∙ e))

pub kept-drop : {X : Type 0} (key : X → ℕ) (b : Before X) (b0 b1 b2 : List (Before X)) (r0 r1 r2 : RowsWithRoom X) →
    IsTracked key b0 r0 → r1.rows ≡ r0.rows → b1 ≡ b0 → length b0 + 2 ≤ r1.room → 0 < b.id →
    b.row ≡ row_at key b.id r1.rows → b2 ≡ remembered b b1 → r1.room ≤ r2.room → r2.rows ≡ drop_row key b.id r1.rows →
    GoBackAsBefore key b0 r0 b2 r2
kept-drop key b b0 b1 b2 r0 r1 r2 is rows before room lt was next left put =
    let rises : RisesFrom key 0 r1.rows = subst (RisesFrom key 0) (sym rows) is.rising in
    kept-step key b b0 b1 b2 r0 r1 r2 is rows before room lt was next (omega (arith, left))
    (subst (RisesFrom key 0) (sym put) (RisesFrom-filter key 0 _ r1.rows rises))
    (λ i e. ap (row_at key i) put ∙ drop-other key b.id r1.rows i e)

-- Putting back.

pub next-back : {X : Type 0} (key : X → ℕ) (all left : List (Before X)) (b : Before X) (rows now start : List X) →
    all ≡ left ++ b ∷ [] → now ≡ put_back key b rows → restored key all rows ≡ start → restored key left now ≡ start
next-back key all left b rows now start is put so =
    ap (restored key left) put ∙ sym (restored-snoc key left b rows) ∙ ap (λ xs. restored key xs rows) (sym is) ∙ so

rises-first : {X : Type 0} (key : X → ℕ) (m : ℕ) (rows : List X) (x : X) → RisesFrom key m (rows ++ x ∷ []) → RisesFrom key m rows
rises-first key m [] x r = tt
rises-first key m (y ∷ rows) x r = (r.0, rises-first key (key y) rows x r.1)

id-last : {X : Type 0} (key : X → ℕ) (before : List (Before X)) (b : Before X) → AreImages key (before ++ b ∷ []) → 0 < b.id
id-last key [] b are = are.0
id-last key (c ∷ before) b are = id-last key before b are.2

length-last : {X : Type 0} (xs : List X) (x : X) → length (xs ++ x ∷ []) ≡ length xs + 1
length-last [] x = refl
length-last (y ∷ xs) x = (let more = length-last xs x in omega (arith, more))

pub popped-tracked : {X : Type 0} (key : X → ℕ) (all left : List (Before X)) (b : Before X) (rows now : RowsWithRoom X) →
    IsTracked key all rows → all ≡ left ++ b ∷ [] → now.rows ≡ put_back key b rows.rows → rows.room ≤ now.room + 1 →
    IsTracked key left now
popped-tracked key all left b rows now is same put room =
    let are : AreImages key (left ++ b ∷ []) = subst (AreImages key) same is.images in
    record {
      rising =
          subst (RisesFrom key 0) (sym put)
          (rises-put_back key b.id b.row rows.rows (id-last key left b are) (image-last key left b are) is.rising);
      ids = rises-first before_id 0 left b (subst (RisesFrom before_id 0) same is.ids);
      images = images-first key left b are;
      room = (let was = is.room in omega (arith, was, room, ap length same, length-last left b));
    }

pub found-as : {X : Type 0} (b : Before X) (before seen again : List (Before X)) (n : ℕ) (r t : Bool) → seen ≡ before → again ≡ before →
    n ≡ rows_before before_id b.id seen → r ≡ is_next before_id b.id again n → r ≡ t →
    (n ≡ rows_before before_id b.id before) × (found_at b before ≡ t)
found-as b before seen again n r t s a is at e =
    let m : n ≡ rows_before before_id b.id before = is ∙ ap (rows_before before_id b.id) s in (
      m,
      ap (is_next before_id b.id before) (sym m) ∙ ap (λ xs. is_next before_id b.id xs n) (sym a) ∙ sym at ∙ e,
    )

pub image-at : {X : Type 0} (key : X → ℕ) (before : List (Before X)) (b : Before X) → Has before b → AreImages key before →
    IsImage key b.id b.row
image-at key [] b h are = absurd h
image-at key (c ∷ before) b (inl e) are = subst (λ (x : Before _). IsImage key x.id x.row) e are.1
image-at key (c ∷ before) b (inr h) are = image-at key before b h are.2

-- Counts.

rising-rest : {X : Type 0} (key : X → ℕ) (n : ℕ) (rows : List X) → RisesFrom key n rows → IsRising key rows
rising-rest key n [] r = tt
rising-rest key n (x ∷ rows) r = r.1

pub length-put-rising : {X : Type 0} (key : X → ℕ) (new : X) (rows : List X) → IsRising key rows →
    length (with_row key new rows) ≡ cond (has_row key (key new) rows) (length rows) (length rows + 1)
length-put-rising key new [] r = refl
length-put-rising key new (x ∷ rows) r =
    go (ltb (key new) (key x)) refl (eqb (key new) (key x)) refl (eqb (key x) (key new)) refl
    (length-put-rising key new rows (rising-rest key (key x) rows r))
  where
    go : (a : Bool) → ltb (key new) (key x) ≡ a → (b : Bool) → eqb (key new) (key x) ≡ b → (c : Bool) → eqb (key x) (key new) ≡ c →
        length (with_row key new rows) ≡ cond (has_row key (key new) rows) (length rows) (length rows + 1) →
        length (cond a (new ∷ x ∷ rows) (cond b (new ∷ rows) (x ∷ with_row key new rows))) ≡
        cond (is_some (cond c (Some x) (row_at key (key new) rows))) (length (x ∷ rows)) (length (x ∷ rows) + 1)
    go true p b q true s below = absurd (grind (arith, nat_tests))
    go true p b q false s below =
        let lt : key new < key x = grind (arith, nat_tests) in
        let none = row_at-None_below key (key x) (key new) rows r (omega (arith, lt)) in
        sym (ap (λ o. cond (is_some o) (length (x ∷ rows)) (length (x ∷ rows) + 1)) none ∙ omega arith)
    go false p true q true s below = refl
    go false p true q false s below = absurd (grind (arith, nat_tests))
    go false p false q true s below = absurd (grind (arith, nat_tests))
    go false p false q false s below = last (has_row key (key new) rows) below
      where
        last : (h : Bool) → length (with_row key new rows) ≡ cond h (length rows) (length rows + 1) →
            length (x ∷ with_row key new rows) ≡ cond h (length (x ∷ rows)) (length (x ∷ rows) + 1)
        last true e = omega (arith, e)
        last false e = omega (arith, e)

pub length-put : {X : Type 0} (key : X → ℕ) (n : ℕ) (new : X) (rows : List X) → RisesFrom key n rows →
    length (with_row key new rows) ≡ cond (has_row key (key new) rows) (length rows) (length rows + 1)
length-put key n new rows r = length-put-rising key new rows (rising-rest key n rows r)

pub length-with_number : (k : ℕ) (ks : List ℕ) → length (with_number k ks) ≤ length ks + 1
length-with_number k [] = omega arith
length-with_number k (j ∷ ks) = go (ltb k j) (eqb k j) (length-with_number k ks)
  where
    go : (a b : Bool) → length (with_number k ks) ≤ length ks + 1 →
        length (cond a (k ∷ j ∷ ks) (cond b (k ∷ ks) (j ∷ with_number k ks))) ≤ length (j ∷ ks) + 1
    go true b le = omega arith
    go false true le = omega arith
    go false false le = omega (arith, le)

pub has-there : {X : Type 0} (key : X → ℕ) (rows : List X) (x : X) → Has rows x → has_row key (key x) rows ≡ true
has-there key [] x h = absurd h
has-there key (y ∷ rows) x h = go (eqb (key y) (key x)) refl h (has-there key rows x)
  where
    go : (b : Bool) → eqb (key y) (key x) ≡ b → Has (y ∷ rows) x → (Has rows x → has_row key (key x) rows ≡ true) →
        is_some (cond b (Some y) (row_at key (key x) rows)) ≡ true
    go true e h below = refl
    go false e (inl same) below = absurd (grind (arith, nat_tests, ap key same))
    go false e (inr there) below = below there

has-length : {X : Type 0} (rows : List X) (x : X) → Has rows x → 0 < length rows
has-length [] x h = absurd h
has-length (y ∷ rows) x h = omega arith

drop-above : {X : Type 0} (key : X → ℕ) (n id : ℕ) (rows : List X) → RisesFrom key n rows → id ≤ n → drop_row key id rows ≡ rows
drop-above key n id [] r le = refl
drop-above key n id (x ∷ rows) r le =
    let lt : n < key x = r.0 in
    let other : eqb (key x) id ≡ false = grind (arith, nat_tests, lt, le) in
    ap (λ b. cond (not b) (x ∷ drop_row key id rows) (drop_row key id rows)) other
    ∙ ap (λ xs. x ∷ xs) (drop-above key (key x) id rows r.1 (omega (arith, lt, le)))

pub length-drop_row : {X : Type 0} (key : X → ℕ) (n id : ℕ) (rows : List X) → RisesFrom key n rows →
    length (drop_row key id rows) ≡ cond (has_row key id rows) (length rows - 1) (length rows)
length-drop_row key n id [] r = refl
length-drop_row key n id (x ∷ rows) r = go (eqb (key x) id) refl (length-drop_row key (key x) id rows r.1)
  where
    go : (b : Bool) → eqb (key x) id ≡ b →
        length (drop_row key id rows) ≡ cond (has_row key id rows) (length rows - 1) (length rows) →
        length (cond (not b) (x ∷ drop_row key id rows) (drop_row key id rows)) ≡
        cond (is_some (cond b (Some x) (row_at key id rows))) (length (x ∷ rows) - 1) (length (x ∷ rows))
    go true e below =
        let is : key x ≡ id = grind (arith, nat_tests) in
        ap length (drop-above key (key x) id rows r.1 (omega (arith, is))) ∙ omega arith
    go false e below = last (row_at key id rows) refl below
      where
        last : (o : Option _) → row_at key id rows ≡ o → length (drop_row key id rows) ≡ cond (is_some o) (length rows - 1) (length rows) →
            length (x ∷ drop_row key id rows) ≡ cond (is_some o) (length (x ∷ rows) - 1) (length (x ∷ rows))
        last None f h = omega (arith, h)
        last (Some y) f h =
            let some = (Has-from_row_at key id rows y f).0 in
            let more = has-length rows y some in
            omega (arith, h, more)

pub counted-put : {X : Type 0} (key : X → ℕ) (row : X) (id count next : ℕ) (rows new : List X) → RisesFrom key 0 rows → id ≡ key row →
    next ≡ cond (has_row key id rows) count (count + 1) → count ≡ length rows → new ≡ with_row key row rows → next ≡ length new
counted-put key row id count next rows new r same is counted put =
    is ∙ ap (λ k. cond (has_row key k rows) count (count + 1)) same
    ∙ ap (λ n. cond (has_row key (key row) rows) n (n + 1)) counted
    ∙ sym (ap length put ∙ length-put key 0 row rows r)

pub counted-drop : {X : Type 0} (key : X → ℕ) (id count next : ℕ) (rows new : List X) → RisesFrom key 0 rows →
    next ≡ cond (has_row key id rows) (count - 1) count → count ≡ length rows → new ≡ drop_row key id rows → next ≡ length new
counted-drop key id count next rows new r is counted put =
    is ∙ ap (λ n. cond (has_row key id rows) (n - 1) n) counted ∙ sym (ap length put ∙ length-drop_row key 0 id rows r)

-- One row that is put back, with all others as they are, and how many there are then.

others-of : {X : Type 0} (key : X → ℕ) (id : ℕ) (row : Option X) (rows : List X) → IsImage key id row →
    drop_row key id (elim row [ None ↦ drop_row key id rows | Some old ↦ with_row key old (drop_row key id rows) ]) ≡
    drop_row key id rows
others-of key id None rows is = gone_twice key id rows
others-of key id (Some old) rows is =
    ap (λ k. drop_row key k (with_row key old (drop_row key id rows))) (sym is) ∙ gone_with key old (drop_row key id rows)
    ∙ ap (λ k. drop_row key k (drop_row key id rows)) is ∙ gone_twice key id rows

pub others-back : {X : Type 0} (key : X → ℕ) (b : Before X) (rows now : List X) → IsImage key b.id b.row →
    now ≡ put_back key b rows → drop_row key b.id now ≡ drop_row key b.id rows
others-back key b rows now is put = ap (drop_row key b.id) put ∙ others-of key b.id b.row rows is

length-of : {X : Type 0} (key : X → ℕ) (id : ℕ) (row : Option X) (rows : List X) → RisesFrom key 0 rows → IsImage key id row →
    length {A = X} (elim row [ None ↦ drop_row key id rows | Some old ↦ with_row key old (drop_row key id rows) ]) ≡
    count_back (has_row key id rows) (is_some row) (length rows)
length-of key id None rows r is = length-drop_row key 0 id rows r
length-of {X} key id (Some old) rows r is =
    let left : List X = drop_row key id rows in
    length-put key 0 old left (RisesFrom-filter key 0 _ rows r)
    ∙ ap (λ (o : Option X). cond (is_some o) (length {A = X} left) (length {A = X} left + 1)) (gone key id (key old) rows is)
    ∙ ap (λ (n : ℕ). n + 1) (length-drop_row key 0 id rows r)

pub counted-last : {X : Type 0} (key : X → ℕ) (b : Before X) (row : Option X) (is_there was_there : Bool) (count new : ℕ)
    (rows now : List X) → RisesFrom key 0 rows → IsImage key b.id b.row → row ≡ row_at key b.id rows → is_there ≡ is_some row →
    was_there ≡ is_some b.row → count ≡ length rows → new ≡ count_back is_there was_there count → now ≡ put_back key b rows →
    new ≡ length now
counted-last key b row is_there was_there count new rows now r is there is_so was_so counted back put =
    back ∙ ap (λ t. count_back t was_there count) (is_so ∙ ap is_some there)
    ∙ ap (λ t. count_back (has_row key b.id rows) t count) was_so
    ∙ ap (count_back (has_row key b.id rows) (is_some b.row)) counted
    ∙ sym (ap length put ∙ length-of key b.id b.row rows r is)
