-- Rising rows, by their look-ups.
use Rattle.std.proofs.Common.{◌≡◌, ℕ, ◌<◌, Bool, true, false, cond, eqb, ltb, inl, inr, List, [], ◌∷◌, Some, None, refl, sym, ap, ◌∙◌, subst, arith}
use Rattle.std.specs.Prelude.{not, is_some}
use Rattle.std.proofs.lemmas.Bool.Decides.{nat_tests}
use Rattle.swarm_index.specs.Inside.Merged.{with_all}
use Rattle.swarm_objects.proofs.Gaps.{IsRising-filter, IsRising-with_row}
use Rattle.swarm_objects.proofs.RowLemmas.{Has-from_row_at, RisesFrom-map, row_at-None_below, row_at-Some, number_above}
use Rattle.swarm_objects.specs.Rows.{Has, IsRising, RisesFrom, drop_row, put_row, row_at, with_row}

-- look-ups after a change

pub at_with : {X : Type 0} (key : X → ℕ) (new : X) (rows : List X) (i : ℕ) → row_at key i (with_row key new rows) ≡ cond (eqb (key new) i) (Some new) (row_at key i rows)
at_with key new [] i = refl
at_with key new (x ∷ rows) i = go (ltb (key new) (key x)) (eqb (key new) (key x)) refl (eqb (key new) i) refl (eqb (key x) i) refl (at_with key new rows i)
  where
    go : (a b : Bool) → eqb (key new) (key x) ≡ b → (c : Bool) → eqb (key new) i ≡ c → (e : Bool) → eqb (key x) i ≡ e
        → row_at key i (with_row key new rows) ≡ cond c (Some new) (row_at key i rows)
        → row_at key i (cond a (new ∷ x ∷ rows) (cond b (new ∷ rows) (x ∷ with_row key new rows))) ≡ cond c (Some new) (cond e (Some x) (row_at key i rows))
    go true b p c q e r below = grind (arith, q, r)
    go false true p c q e r below = grind (arith, nat_tests, p, q, r)
    go false false p c q e r below = grind (arith, nat_tests, p, q, r, below)

pub at_drop : {X : Type 0} (key : X → ℕ) (id : ℕ) (rows : List X) (i : ℕ) → row_at key i (drop_row key id rows) ≡ cond (eqb id i) None (row_at key i rows)
at_drop key id [] i = grind (arith, nat_tests)
at_drop key id (x ∷ rows) i = grind (arith, nat_tests, at_drop key id rows i)

pub at_put : {X : Type 0} (key : X → ℕ) (new : X) (rows : List X) (i : ℕ) → row_at key i (put_row key new rows) ≡ cond (eqb (key new) i) (cond (is_some (row_at key i rows)) (Some new) None) (row_at key i rows)
at_put key new [] i = grind (arith, nat_tests)
at_put key new (x ∷ rows) i = grind (arith, nat_tests, at_put key new rows i)

-- rows in order stay so

pub rising_drop : {X : Type 0} (key : X → ℕ) (id : ℕ) (rows : List X) → IsRising key rows → IsRising key (drop_row key id rows)
rising_drop key id rows r = IsRising-filter key (λ row. not (eqb (key row) id)) rows r

same_key : {X : Type 0} (key : X → ℕ) (new x : X) → key (cond (eqb (key x) (key new)) new x) ≡ key x
same_key key new x = grind (arith, nat_tests)

pub rising_put : {X : Type 0} (key : X → ℕ) (new : X) (rows : List X) → IsRising key rows → IsRising key (put_row key new rows)
rising_put key new [] r = tt
rising_put key new (x ∷ rows) r = subst (λ k. RisesFrom key k (put_row key new rows)) (sym (same_key key new x)) (RisesFrom-map key (key x) (λ y. cond (eqb (key y) (key new)) new y) rows (same_key key new) r)

pub rising_all : {X : Type 0} (key : X → ℕ) (xs rows : List X) → IsRising key rows → IsRising key (with_all key xs rows)
rising_all key [] rows r = r
rising_all key (x ∷ xs) rows r = IsRising-with_row key x (with_all key xs rows) (rising_all key xs rows r)

pub weaker : {X : Type 0} (key : X → ℕ) (n : ℕ) (rows : List X) → RisesFrom key n rows → IsRising key rows
weaker key n [] r = tt
weaker key n (x ∷ rows) r = r.1

-- look-ups decide rows in order

pub at_member : {X : Type 0} (key : X → ℕ) (rows : List X) (x : X) → IsRising key rows → Has rows x → row_at key (key x) rows ≡ Some x
at_member key [] x r h = absurd h
at_member key (y ∷ rows) x r (inl e) = grind (arith, nat_tests, e)
at_member key (y ∷ rows) x r (inr h) = let above = number_above key (key y) rows x r h in grind (arith, nat_tests, above, row_at-Some key (key y) rows x r h)

first_at : {X : Type 0} (key : X → ℕ) (x : X) (rows : List X) → row_at key (key x) (x ∷ rows) ≡ Some x
first_at key x rows = grind (arith, nat_tests)

past_first : {X : Type 0} (key : X → ℕ) (x : X) (rows : List X) (i : ℕ) → RisesFrom key (key x) rows → row_at key i rows ≡ cond (eqb (key x) i) None (row_at key i (x ∷ rows))
past_first key x rows i r = grind (arith, nat_tests, row_at-None_below key (key x) i rows r)

same_from : {X : Type 0} (key : X → ℕ) (xs ys : List X) → IsRising key xs → IsRising key ys → ((i : ℕ) → row_at key i xs ≡ row_at key i ys) → xs ≡ ys
same_from key [] [] r s same = refl
same_from key [] (y ∷ ys) r s same = let e : None ≡ Some y = same (key y) ∙ first_at key y ys in cc
same_from key (x ∷ xs) [] r s same = let e : Some x ≡ None = sym (first_at key x xs) ∙ same (key x) in cc
same_from key (x ∷ xs) (y ∷ ys) r s same =
    let a : row_at key (key x) (y ∷ ys) ≡ Some x = sym (same (key x)) ∙ first_at key x xs in
    let b : row_at key (key y) (x ∷ xs) ≡ Some y = same (key y) ∙ first_at key y ys in
    let first : x ≡ y = heads a b in
    let rest : (i : ℕ) → row_at key i xs ≡ row_at key i ys =
    λ i. past_first key x xs i r ∙ ap (λ o. cond (eqb (key x) i) None o) (same i) ∙ ap (λ z. cond (eqb (key z) i) None (row_at key i (y ∷ ys))) first ∙ sym (past_first key y ys i s) in
    ap (λ z. z ∷ xs) first ∙ ap (λ zs. y ∷ zs) (same_from key xs ys (weaker key (key x) xs r) (weaker key (key y) ys s) rest)
  where
    heads : row_at key (key x) (y ∷ ys) ≡ Some x → row_at key (key y) (x ∷ xs) ≡ Some y → x ≡ y
    heads a b = go (eqb (key y) (key x)) refl (eqb (key x) (key y)) refl a b
      where
        go : (p : Bool) → eqb (key y) (key x) ≡ p → (q : Bool) → eqb (key x) (key y) ≡ q
            → cond p (Some y) (row_at key (key x) ys) ≡ Some x → cond q (Some x) (row_at key (key y) xs) ≡ Some y → x ≡ y
        go true e q f c d = cc
        go false e true f c d = cc
        go false e false f c d =
            let above : key y < key x = number_above key (key y) ys x s (Has-from_row_at key (key x) ys x c).0 in
            let below : key x < key y = number_above key (key x) xs y r (Has-from_row_at key (key y) xs y d).0 in
            absurd (omega arith)

pub same_rows : {X : Type 0} (key : X → ℕ) (xs ys : List X) → IsRising key xs → IsRising key ys → ((i : ℕ) → row_at key i xs ≡ row_at key i ys) → xs ≡ ys
same_rows = same_from
