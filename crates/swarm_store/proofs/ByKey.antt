-- Rows by key: with a row, without one, and that rising rows are told by what is there.
use Rattle.std.proofs.Common.{◌≡◌, ℕ, ◌<◌, Bool, true, false, cond, eqb, ltb, ◌⊎◌, inl, inr, List, [], ◌∷◌, ◌++◌, Option, Some, None, refl, sym, ap, ◌∙◌, subst, arith}
use Rattle.std.specs.Prelude.{is_some, not}
use Rattle.std.proofs.lemmas.Bool.Decides.{nat_tests}
use Rattle.swarm_objects.proofs.RowLemmas.{Has-from_row_at, change_row_above, number_above, row_at-None_below}
use Rattle.swarm_objects.specs.Rows.{IsBelow, RisesFrom, drop_row, has_row, put_row, row_at, with_row}

pub at-with : {X : Type 0} (key : X → ℕ) (id : ℕ) (new : X) (rows : List X) →
    row_at key id (with_row key new rows) ≡ cond (eqb (key new) id) (Some new) (row_at key id rows)
at-with key id new [] = refl
at-with key id new (x ∷ rows) =
    go (ltb (key new) (key x)) refl (eqb (key new) (key x)) refl (eqb (key x) id) refl (eqb (key new) id) refl
    (at-with key id new rows)
  where
    go : (a : Bool) → ltb (key new) (key x) ≡ a → (b : Bool) → eqb (key new) (key x) ≡ b → (c : Bool) → eqb (key x) id ≡ c →
        (d : Bool) → eqb (key new) id ≡ d →
        row_at key id (with_row key new rows) ≡ cond d (Some new) (row_at key id rows) →
        row_at key id (cond a (new ∷ x ∷ rows) (cond b (new ∷ rows) (x ∷ with_row key new rows))) ≡
        cond d (Some new) (cond c (Some x) (row_at key id rows))
    go true p b q c r d s below = rw (r, s) refl
    go false p true q c r true s below = rw s refl
    go false p true q true r false s below = absurd (grind (arith, nat_tests))
    go false p true q false r false s below = rw s refl
    go false p false q true r true s below = absurd (grind (arith, nat_tests))
    go false p false q true r false s below = rw r refl
    go false p false q false r d s below = rw r below

either-way : {X : Type 0} (x : X) (b : Bool) → x ≡ cond b x x
either-way x true = refl
either-way x false = refl

pub at-drop : {X : Type 0} (key : X → ℕ) (id k : ℕ) (rows : List X) →
    row_at key id (drop_row key k rows) ≡ cond (eqb k id) None (row_at key id rows)
at-drop key id k [] = either-way None (eqb k id)
at-drop key id k (x ∷ rows) = go (eqb (key x) k) refl (eqb (key x) id) refl (eqb k id) refl (at-drop key id k rows)
  where
    go : (a : Bool) → eqb (key x) k ≡ a → (b : Bool) → eqb (key x) id ≡ b → (c : Bool) → eqb k id ≡ c →
        row_at key id (drop_row key k rows) ≡ cond c None (row_at key id rows) →
        row_at key id (cond (not a) (x ∷ drop_row key k rows) (drop_row key k rows)) ≡
        cond c None (cond b (Some x) (row_at key id rows))
    go true p b q true r below = below
    go true p true q false r below = absurd (grind (arith, nat_tests))
    go true p false q false r below = below
    go false p true q true r below = absurd (grind (arith, nat_tests))
    go false p true q false r below = rw q refl
    go false p false q c r below = rw q below

pub rises-with : {X : Type 0} (key : X → ℕ) (n : ℕ) (new : X) (rows : List X) → n < key new → RisesFrom key n rows →
    RisesFrom key n (with_row key new rows)
rises-with key n new [] lt r = (lt, tt)
rises-with key n new (x ∷ rows) lt r =
    go (ltb (key new) (key x)) refl (eqb (key new) (key x)) refl (λ p. rises-with key (key x) new rows p r.1)
  where
    go : (a : Bool) → ltb (key new) (key x) ≡ a → (b : Bool) → eqb (key new) (key x) ≡ b →
        (key x < key new → RisesFrom key (key x) (with_row key new rows)) →
        RisesFrom key n (cond a (new ∷ x ∷ rows) (cond b (new ∷ rows) (x ∷ with_row key new rows)))
    go true p b q below = (lt, (grind (arith, nat_tests), r.1))
    go false p true q below =
        let same : key x ≡ key new = grind (arith, nat_tests) in
        (lt, subst (λ k. RisesFrom key k rows) same r.1)
    go false p false q below = (r.0, below (grind (arith, nat_tests)))

-- a row with a key above all others comes last
pub with-last : {X : Type 0} (key : X → ℕ) (new : X) (rows : List X) → IsBelow key (key new) rows →
    with_row key new rows ≡ rows ++ new ∷ []
with-last key new [] b = refl
with-last key new (x ∷ rows) b =
    let lt : key x < key new = b.0 in
    let less : ltb (key new) (key x) ≡ false = grind (arith, nat_tests) in
    let same : eqb (key new) (key x) ≡ false = grind (arith, nat_tests) in
    rw (less, same) (ap (λ xs. x ∷ xs) (with-last key new rows b.1))

no-row : {X : Type 0} (row : Option X) → row ≡ None → is_some row ≡ true → ⊥
no-row None e h = absurd cc
no-row (Some x) e h = absurd cc

-- a row whose key is there takes its place
pub with-put : {X : Type 0} (key : X → ℕ) (n : ℕ) (new : X) (rows : List X) → RisesFrom key n rows →
    has_row key (key new) rows ≡ true → with_row key new rows ≡ put_row key new rows
with-put key n new [] r there = absurd cc
with-put key n new (x ∷ rows) r there =
    go (ltb (key new) (key x)) refl (eqb (key new) (key x)) refl (eqb (key x) (key new)) refl
    (λ h. with-put key (key x) new rows r.1 h) there
  where
    go : (a : Bool) → ltb (key new) (key x) ≡ a → (b : Bool) → eqb (key new) (key x) ≡ b →
        (c : Bool) → eqb (key x) (key new) ≡ c →
        (has_row key (key new) rows ≡ true → with_row key new rows ≡ put_row key new rows) →
        is_some (cond c (Some x) (row_at key (key new) rows)) ≡ true →
        cond a (new ∷ x ∷ rows) (cond b (new ∷ rows) (x ∷ with_row key new rows)) ≡ cond c new x ∷ put_row key new rows
    go true p b q true s below h = absurd (grind (arith, nat_tests))
    go true p b q false s below h =
        let lt : key new < key x = grind (arith, nat_tests) in
        let none : row_at key (key new) rows ≡ None = row_at-None_below key (key x) (key new) rows r.1 (omega arith) in
        absurd (no-row _ none h)
    go false p true q true s below h =
        let same : key x ≡ key new = grind (arith, nat_tests) in
        ap (λ xs. new ∷ xs)
        (sym (change_row_above key (key x) (key new) (λ _. new) rows r.1 (omega (arith, same))))
    go false p true q false s below h = absurd (grind (arith, nat_tests))
    go false p false q true s below h = absurd (grind (arith, nat_tests))
    go false p false q false s below h = ap (λ xs. x ∷ xs) (below h)

at-first : {X : Type 0} (key : X → ℕ) (x : X) (xs : List X) → row_at key (key x) (x ∷ xs) ≡ Some x
at-first key x xs = let same : eqb (key x) (key x) ≡ true = grind (arith, nat_tests) in rw same refl

-- the first row of rising ones is at their head, or behind it with a greater key
head-or-later : {X : Type 0} (key : X → ℕ) (x y : X) (ys : List X) → RisesFrom key (key y) ys →
    Some x ≡ row_at key (key x) (y ∷ ys) → (x ≡ y) ⊎ (key y < key x)
head-or-later key x y ys r e = go (eqb (key y) (key x)) e
  where
    go : (b : Bool) → Some x ≡ cond b (Some y) (row_at key (key x) ys) → (x ≡ y) ⊎ (key y < key x)
    go true e = inl cc
    go false e = inr (number_above key (key y) ys x r (Has-from_row_at key (key x) ys x (sym e)).0)

tails : {X : Type 0} (key : X → ℕ) (x : X) (xs ys : List X) → RisesFrom key (key x) xs → RisesFrom key (key x) ys →
    ((id : ℕ) → row_at key id (x ∷ xs) ≡ row_at key id (x ∷ ys)) → (id : ℕ) → row_at key id xs ≡ row_at key id ys
tails key x xs ys r q same id = go (eqb (key x) id) refl (same id)
  where
    go : (b : Bool) → eqb (key x) id ≡ b →
        cond b (Some x) (row_at key id xs) ≡ cond b (Some x) (row_at key id ys) → row_at key id xs ≡ row_at key id ys
    go true e k =
        let is : key x ≡ id = grind (arith, nat_tests) in
        row_at-None_below key (key x) id xs r (omega (arith, is))
        ∙ sym (row_at-None_below key (key x) id ys q (omega (arith, is)))
    go false e k = k

-- rising rows are told by what is there
pub same-rows : {X : Type 0} (key : X → ℕ) (m n : ℕ) (xs ys : List X) → RisesFrom key m xs → RisesFrom key n ys →
    ((id : ℕ) → row_at key id xs ≡ row_at key id ys) → xs ≡ ys
same-rows key m n [] [] r q same = refl
same-rows key m n [] (y ∷ ys) r q same =
    let none : None ≡ Some y = same (key y) ∙ at-first key y ys in absurd cc
same-rows key m n (x ∷ xs) [] r q same =
    let none : Some x ≡ None = sym (at-first key x xs) ∙ same (key x) in absurd cc
same-rows key m n (x ∷ xs) (y ∷ ys) r q same =
    go (head-or-later key x y ys q.1 (sym (at-first key x xs) ∙ same (key x)))
    (head-or-later key y x xs r.1 (sym (at-first key y ys) ∙ sym (same (key y))))
    (λ zs r' same'. same-rows key (key x) (key x) xs zs r.1 r' same')
  where
    go : (x ≡ y) ⊎ (key y < key x) → (y ≡ x) ⊎ (key x < key y) →
        ((zs : List _) → RisesFrom key (key x) zs → ((id : ℕ) → row_at key id xs ≡ row_at key id zs) → xs ≡ zs) →
        x ∷ xs ≡ y ∷ ys
    go (inl e) k below =
        let r' : RisesFrom key (key x) ys = subst (λ z. RisesFrom key (key z) ys) (sym e) q.1 in
        let same' : (id : ℕ) → row_at key id (x ∷ xs) ≡ row_at key id (x ∷ ys) =
        subst (λ z. (id : ℕ) → row_at key id (x ∷ xs) ≡ row_at key id (z ∷ ys)) (sym e) same in
        ap (λ zs. x ∷ zs) (below ys r' (tails key x xs ys r.1 r' same')) ∙ ap (λ z. z ∷ ys) e
    go (inr lt) (inl e) below = absurd (let is : key y ≡ key x = ap key e in omega (arith, lt, is))
    go (inr lt) (inr gt) below = absurd (omega (arith, lt, gt))

-- without one row, whether it was put or dropped before
pub gone_with : {X : Type 0} (key : X → ℕ) (new : X) (rows : List X) →
    drop_row key (key new) (with_row key new rows) ≡ drop_row key (key new) rows
gone_with key new [] = go (eqb (key new) (key new)) refl
  where
    go : (b : Bool) → eqb (key new) (key new) ≡ b → cond (not b) (new ∷ []) [] ≡ []
    go true p = refl
    go false p = absurd (grind (arith, nat_tests))
gone_with key new (x ∷ rows) =
    go (ltb (key new) (key x)) refl (eqb (key new) (key x)) refl (eqb (key new) (key new)) refl (eqb (key x) (key new)) refl
    (gone_with key new rows)
  where
    go : (a : Bool) → ltb (key new) (key x) ≡ a → (b : Bool) → eqb (key new) (key x) ≡ b → (c : Bool) → eqb (key new) (key new) ≡ c →
        (d : Bool) → eqb (key x) (key new) ≡ d →
        drop_row key (key new) (with_row key new rows) ≡ drop_row key (key new) rows →
        drop_row key (key new) (cond a (new ∷ x ∷ rows) (cond b (new ∷ rows) (x ∷ with_row key new rows))) ≡
        cond (not d) (x ∷ drop_row key (key new) rows) (drop_row key (key new) rows)
    go a p b q false r d s below = absurd (grind (arith, nat_tests))
    go true p b q true r d s below = rw (r, s) refl
    go false p true q true r true s below = rw r refl
    go false p true q true r false s below = absurd (grind (arith, nat_tests))
    go false p false q true r true s below = absurd (grind (arith, nat_tests))
    go false p false q true r false s below = rw s (ap (λ ys. x ∷ ys) below)

pub gone_twice : {X : Type 0} (key : X → ℕ) (id : ℕ) (rows : List X) → drop_row key id (drop_row key id rows) ≡ drop_row key id rows
gone_twice key id [] = refl
gone_twice key id (x ∷ rows) = go (eqb (key x) id) refl (gone_twice key id rows)
  where
    go : (b : Bool) → eqb (key x) id ≡ b → drop_row key id (drop_row key id rows) ≡ drop_row key id rows →
        drop_row key id (cond (not b) (x ∷ drop_row key id rows) (drop_row key id rows)) ≡
        cond (not b) (x ∷ drop_row key id rows) (drop_row key id rows)
    go true p below = below
    go false p below = rw p (ap (λ ys. x ∷ ys) below)
