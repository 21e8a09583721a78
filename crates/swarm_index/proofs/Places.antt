-- The place of a row among rising ones.
use Rattle.std.proofs.Common.{◌≡◌, ℕ, ◌<◌, ◌≤◌, Bool, true, false, cond, eqb, ltb, ◌&&◌, List, [], ◌∷◌, ◌++◌, Option, Some, None, length, take, drop, get_or, suc, zero, refl, sym, ap, ◌∙◌, subst, arith}
use Rattle.std.proofs.lemmas.Bool.Decides.{nat_tests}
use Rattle.std.specs.List.{insert, remove}
use Rattle.std.proofs.lemmas.Option.{get_or_from_slice_get}
use Rattle.std.specs.Prelude.{filter, is_some, not, slice_get}
use Rattle.swarm_index.proofs.RowsAt.{weaker}
use Rattle.swarm_objects.proofs.Orders.{put_before}
use Rattle.swarm_objects.proofs.RowLemmas.{row_at-None_below}
use Rattle.swarm_objects.specs.Rows.{IsRising, RisesFrom, drop_row, is_some_and, row_above, row_at, rows_before, with_row}

-- the row at the place, where it has the key
abbrev pub at_place : {X : Type 0} → (X → ℕ) → ℕ → Option X → Option X
at_place key k None = None
at_place key k (Some x) = cond (eqb (key x) k) (Some x) None

pub place_at : {X : Type 0} (key : X → ℕ) (k : ℕ) (rows : List X) → IsRising key rows → at_place key k (slice_get rows (rows_before key k rows)) ≡ row_at key k rows
place_at key k [] r = refl
place_at key k (x ∷ rows) r = go (ltb (key x) k) refl (eqb (key x) k) refl (place_at key k rows (weaker key (key x) rows r))
  where
    go : (a : Bool) → ltb (key x) k ≡ a → (b : Bool) → eqb (key x) k ≡ b → at_place key k (slice_get rows (rows_before key k rows)) ≡ row_at key k rows
        → at_place key k (slice_get (x ∷ rows) (cond a (suc (rows_before key k rows)) 0)) ≡ cond b (Some x) (row_at key k rows)
    go true p true q below = absurd (grind (arith, nat_tests, p, q))
    go true p false q below = below
    go false p true q below = ap (λ t. cond t (Some x) None) q
    go false p false q below = ap (λ t. cond t (Some x) None) q ∙ sym (row_at-None_below key (key x) k rows r (grind (arith, nat_tests, p)))

next_test : {X : Type 0} (key : X → ℕ) (k : ℕ) (o : Option X) → is_some_and (λ row. eqb (key row) k) o ≡ is_some (at_place key k o)
next_test key k None = refl
next_test key k (Some x) = go (eqb (key x) k)
  where
    go : (b : Bool) → b ≡ is_some (cond b (Some x) None)
    go true = refl
    go false = refl

pub put_at_place : {X : Type 0} (key : X → ℕ) (new : X) (rows : List X) (n : ℕ) → IsRising key rows → row_at key (key new) rows ≡ None → n ≡ rows_before key (key new) rows
    → take n rows ++ new ∷ drop n rows ≡ with_row key new rows
put_at_place key new rows n r none e = subst (λ i. take i rows ++ new ∷ drop i rows ≡ with_row key new rows) (sym e)
    (put_before key new rows (next_test key (key new) (slice_get rows (rows_before key (key new) rows)) ∙ ap is_some (place_at key (key new) rows r ∙ none)))

-- the row at its place goes

none_left : {X : Type 0} (key : X → ℕ) (n i : ℕ) (rows : List X) → RisesFrom key n rows → i ≤ n → drop_row key i rows ≡ rows
none_left key n i [] r le = refl
none_left key n i (x ∷ rows) r le = grind (arith, nat_tests, none_left key (key x) i rows r.1, r.0)

removed_there : {X : Type 0} (key : X → ℕ) (k : ℕ) (rows : List X) → IsRising key rows → is_some (row_at key k rows) ≡ true → remove rows (rows_before key k rows) ≡ drop_row key k rows
removed_there key k [] r some = let no : false ≡ true = some in absurd cc
removed_there key k (x ∷ rows) r some = go (ltb (key x) k) refl (eqb (key x) k) refl some (removed_there key k rows (weaker key (key x) rows r))
  where
    go : (a : Bool) → ltb (key x) k ≡ a → (b : Bool) → eqb (key x) k ≡ b → is_some (cond b (Some x) (row_at key k rows)) ≡ true
        → (is_some (row_at key k rows) ≡ true → remove rows (rows_before key k rows) ≡ drop_row key k rows)
        → remove (x ∷ rows) (cond a (suc (rows_before key k rows)) 0) ≡ cond (not b) (x ∷ drop_row key k rows) (drop_row key k rows)
    go true p true q s below = absurd (grind (arith, nat_tests, p, q))
    go true p false q s below = ap (λ zs. x ∷ zs) (below s)
    go false p true q s below = sym (none_left key (key x) k rows r (grind (arith, nat_tests, q)))
    go false p false q s below =
        let none : row_at key k rows ≡ None = row_at-None_below key (key x) k rows r (grind (arith, nat_tests, p)) in
        let no : false ≡ true = subst (λ o. is_some o ≡ true) none s in absurd cc

there_is : {X : Type 0} (key : X → ℕ) (k : ℕ) (o : Option X) (x : X) → o ≡ Some x → eqb (key x) k ≡ true → at_place key k o ≡ Some x
there_is key k o x e t = ap (at_place key k) e ∙ ap (λ b. cond b (Some x) None) t

-- what is taken out at the place is the row with the key
pub take_at_place : {X : Type 0} (key : X → ℕ) (k : ℕ) (rows : List X) (n : ℕ) (x : X) → IsRising key rows → n ≡ rows_before key k rows → slice_get rows n ≡ Some x → eqb (key x) k ≡ true
    → (remove rows n ≡ drop_row key k rows) × (Some x ≡ row_at key k rows)
take_at_place key k rows n x r e at t =
    let here : slice_get rows (rows_before key k rows) ≡ Some x = subst (λ i. slice_get rows i ≡ Some x) e at in
    let is : Some x ≡ row_at key k rows = sym (there_is key k (slice_get rows (rows_before key k rows)) x here t) ∙ place_at key k rows r in
    (subst (λ i. remove rows i ≡ drop_row key k rows) (sym e) (removed_there key k rows r (ap is_some (sym is))), is)

-- nothing is there
pub none_at_place : {X : Type 0} (key : X → ℕ) (k : ℕ) (rows : List X) (n : ℕ) → IsRising key rows → n ≡ rows_before key k rows → at_place key k (slice_get rows n) ≡ None → None ≡ row_at key k rows
none_at_place key k rows n r e none = sym (subst (λ i. at_place key k (slice_get rows i) ≡ None) e none) ∙ place_at key k rows r

pub dropped_none : {X : Type 0} (key : X → ℕ) (k : ℕ) (rows : List X) → row_at key k rows ≡ None → drop_row key k rows ≡ rows
dropped_none key k [] none = refl
dropped_none key k (x ∷ rows) none = go (eqb (key x) k) none (dropped_none key k rows)
  where
    go : (b : Bool) → cond b (Some x) (row_at key k rows) ≡ None → (row_at key k rows ≡ None → drop_row key k rows ≡ rows) → cond (not b) (x ∷ drop_row key k rows) (drop_row key k rows) ≡ x ∷ rows
    go true n below = cc
    go false n below = ap (λ zs. x ∷ zs) (below n)

nothing : {X : Type 0} (key : X → ℕ) (k : ℕ) (o : Option X) → is_some_and (λ row. eqb (key row) k) o ≡ false → at_place key k o ≡ None
nothing key k None e = refl
nothing key k (Some x) e = ap (λ b. cond b (Some x) None) e

within : {X : Type 0} (xs : List X) (n : ℕ) (y : X) → slice_get xs n ≡ Some y → n < length xs
within [] n y e = let no : None ≡ Some y = e in cc
within (x ∷ xs) zero y e = omega arith
within (x ∷ xs) (suc n) y e = let lt : n < length xs = within xs n y e in omega arith

-- a row at its place, as code finds it
pub insert_place : {X : Type 0} (key : X → ℕ) (new : X) (rows items slice : List X) (n k : ℕ) → slice ≡ items → items ≡ rows → k ≡ key new → n ≡ rows_before key k slice → IsRising key rows → row_at key (key new) rows ≡ None
    → insert items n new ≡ with_row key new rows
insert_place key new rows items slice n k s i e at r none =
    ap (λ xs. insert xs n new) i ∙ put_at_place key new rows n r none (at ∙ ap (λ xs. rows_before key k xs) (s ∙ i) ∙ ap (λ j. rows_before key j rows) e)

-- the row at its place, as code takes it out
pub remove_place : {X : Type 0} (key : X → ℕ) (id : ℕ) (rows items one two : List X) (n : ℕ) (x : X) → one ≡ items → two ≡ items → items ≡ rows → n ≡ rows_before key id one → IsRising key rows → is_some_and (λ row. eqb (key row) id) (slice_get two n) ≡ true
    → x ≡ get_or items n x → (n < length items) × (remove items n ≡ drop_row key id rows) × (Some x ≡ row_at key id rows)
remove_place {X} key id rows items one two n x s t i at r test is = go (slice_get items n) refl (subst (λ xs. is_some_and (λ row. eqb (key row) id) (slice_get xs n) ≡ true) t test)
  where
    place : n ≡ rows_before key id rows
    place = at ∙ ap (λ xs. rows_before key id xs) (s ∙ i)

    go : (o : Option X) → slice_get items n ≡ o → is_some_and (λ row. eqb (key row) id) o ≡ true → (n < length items) × (remove items n ≡ drop_row key id rows) × (Some x ≡ row_at key id rows)
    go None e h = let no : false ≡ true = h in absurd cc
    go (Some y) e h =
        let same : x ≡ y = is ∙ get_or_from_slice_get items n y x e in
        let there : slice_get rows n ≡ Some x = subst (λ xs. slice_get xs n ≡ Some x) i (e ∙ ap Some (sym same)) in
        let taken = take_at_place key id rows n x r place there (subst (λ z. eqb (key z) id ≡ true) (sym same) h) in
        (within items n y e, ap (λ xs. remove xs n) i ∙ taken.0, taken.1)

-- no row has the id, as code finds it
pub no_place : {X : Type 0} (key : X → ℕ) (id : ℕ) (rows items one two : List X) (n : ℕ) → one ≡ items → two ≡ items → items ≡ rows → n ≡ rows_before key id one → IsRising key rows → is_some_and (λ row. eqb (key row) id) (slice_get two n) ≡ false
    → (rows ≡ drop_row key id rows) × (None ≡ row_at key id rows)
no_place key id rows items one two n s t i at r test =
    let place : n ≡ rows_before key id rows = at ∙ ap (λ xs. rows_before key id xs) (s ∙ i) in
    let other : is_some_and (λ row. eqb (key row) id) (slice_get rows n) ≡ false = subst (λ xs. is_some_and (λ row. eqb (key row) id) (slice_get xs n) ≡ false) (t ∙ i) test in
    let none : None ≡ row_at key id rows = none_at_place key id rows n r place (nothing key id (slice_get rows n) other) in
    (sym (dropped_none key id rows (sym none)), none)

-- going over rows for the first above a number that passes

pub step_found : {X : Type 0} (key : X → ℕ) (p : X → Bool) (after : ℕ) (rows rest : List X) (x : X) → rows ≡ x ∷ rest → (ltb after (key x) && p x) ≡ true → Some x ≡ row_above key after (filter p rows)
step_found {X} key p after rows rest x e t = go (ltb after (key x)) refl (p x) refl t ∙ sym (ap (λ xs. row_above key after (filter p xs)) e)
  where
    go : (a : Bool) → ltb after (key x) ≡ a → (b : Bool) → p x ≡ b → (a && b) ≡ true → Some x ≡ row_above key after (cond (p x) (x ∷ filter p rest) (filter p rest))
    go true f true g h = sym (ap (λ b. row_above key after (cond b (x ∷ filter p rest) (filter p rest))) g ∙ ap (λ b. cond b (Some x) (row_above key after (filter p rest))) f)
    go true f false g h = let no : false ≡ true = h in absurd cc
    go false f b g h = let no : false ≡ true = h in absurd cc

pub step_passed : {X : Type 0} (key : X → ℕ) (p : X → Bool) (after : ℕ) (rows rest : List X) (x : X) → rows ≡ x ∷ rest → (ltb after (key x) && p x) ≡ false → row_above key after (filter p rest) ≡ row_above key after (filter p rows)
step_passed {X} key p after rows rest x e t = go (ltb after (key x)) refl (p x) refl t ∙ sym (ap (λ xs. row_above key after (filter p xs)) e)
  where
    go : (a : Bool) → ltb after (key x) ≡ a → (b : Bool) → p x ≡ b → (a && b) ≡ false → row_above key after (filter p rest) ≡ row_above key after (cond (p x) (x ∷ filter p rest) (filter p rest))
    go true f true g h = let no : true ≡ false = h in absurd cc
    go a f false g h = sym (ap (λ b. row_above key after (cond b (x ∷ filter p rest) (filter p rest))) g)
    go false f true g h = sym (ap (λ b. row_above key after (cond b (x ∷ filter p rest) (filter p rest))) g ∙ ap (λ b. cond b (Some x) (row_above key after (filter p rest))) f)
