-- Two lists of rows as one: look-ups, changes, and what comes next.
use Rattle.std.proofs.Common.{◌≡◌, ℕ, ◌<◌, ◌≤◌, Bool, true, false, cond, eqb, ltb, ◌⊎◌, inl, inr, List, [], ◌∷◌, Option, Some, None, refl, sym, ap, ◌∙◌, subst, arith}
use Rattle.std.specs.Prelude.{filter, is_some}
use Rattle.std.proofs.lemmas.Bool.Decides.{nat_tests}
use Rattle.swarm_index.proofs.Nexts.{IsNext, filter_all, next_holds, next_is}
use Rattle.swarm_index.proofs.RowsAt.{at_drop, at_member, at_put, at_with, rising_all, rising_drop, rising_put, same_rows}
use Rattle.swarm_index.specs.Inside.Merged.{AreApart, first_some, lesser, with_all}
use Rattle.swarm_objects.proofs.Gaps.{IsRising-with_row}
use Rattle.swarm_objects.proofs.RowLemmas.{Has-from_row_at}
use Rattle.swarm_objects.specs.Rows.{Has, IsRising, drop_row, put_row, row_above, row_at, with_row}

pub at_all : {X : Type 0} (key : X → ℕ) (xs rows : List X) (i : ℕ) → row_at key i (with_all key xs rows) ≡ first_some (row_at key i xs) (row_at key i rows)
at_all key [] rows i = refl
at_all key (x ∷ xs) rows i = at_with key x (with_all key xs rows) i ∙ go (eqb (key x) i) (at_all key xs rows i)
  where
    go : (b : Bool) → row_at key i (with_all key xs rows) ≡ first_some (row_at key i xs) (row_at key i rows)
        → cond b (Some x) (row_at key i (with_all key xs rows)) ≡ first_some (cond b (Some x) (row_at key i xs)) (row_at key i rows)
    go true e = refl
    go false e = e

-- a row more, in one of the lists

with_second : {X : Type 0} (c : Bool) (new : X) (a b : Option X) → (c ≡ true → a ≡ None) → first_some a (cond c (Some new) b) ≡ cond c (Some new) (first_some a b)
with_second true new None b none = refl
with_second true new (Some x) b none = let e : Some x ≡ None = none refl in cc
with_second false new a b none = refl

pub insert_second : {X : Type 0} (key : X → ℕ) (new : X) (xs rows : List X) → IsRising key rows → row_at key (key new) xs ≡ None → with_all key xs (with_row key new rows) ≡ with_row key new (with_all key xs rows)
insert_second key new xs rows r none =
    same_rows key _ _ (rising_all key xs (with_row key new rows) (IsRising-with_row key new rows r)) (IsRising-with_row key new (with_all key xs rows) (rising_all key xs rows r))
    (λ i. at_all key xs (with_row key new rows) i ∙ ap (λ o. first_some (row_at key i xs) o) (at_with key new rows i)
    ∙ with_second (eqb (key new) i) new (row_at key i xs) (row_at key i rows) (λ t. let e : key new ≡ i = grind (arith, nat_tests, t) in subst (λ n. row_at key n xs ≡ None) e none)
    ∙ sym (at_with key new (with_all key xs rows) i ∙ ap (λ o. cond (eqb (key new) i) (Some new) o) (at_all key xs rows i)))

with_first : {X : Type 0} (c : Bool) (new : X) (a b : Option X) → first_some (cond c (Some new) a) b ≡ cond c (Some new) (first_some a b)
with_first true new a b = refl
with_first false new a b = refl

pub insert_first : {X : Type 0} (key : X → ℕ) (new : X) (xs rows : List X) → IsRising key rows → with_all key (with_row key new xs) rows ≡ with_row key new (with_all key xs rows)
insert_first key new xs rows r =
    same_rows key _ _ (rising_all key (with_row key new xs) rows r) (IsRising-with_row key new (with_all key xs rows) (rising_all key xs rows r))
    (λ i. at_all key (with_row key new xs) rows i ∙ ap (λ o. first_some o (row_at key i rows)) (at_with key new xs i)
    ∙ with_first (eqb (key new) i) new (row_at key i xs) (row_at key i rows)
    ∙ sym (at_with key new (with_all key xs rows) i ∙ ap (λ o. cond (eqb (key new) i) (Some new) o) (at_all key xs rows i)))

-- another row in the place of one

put_second_at : {X : Type 0} (c : Bool) (new : X) (a b : Option X) → (c ≡ true → a ≡ None) → first_some a (cond c (cond (is_some b) (Some new) None) b) ≡ cond c (cond (is_some (first_some a b)) (Some new) None) (first_some a b)
put_second_at true new None b none = refl
put_second_at true new (Some x) b none = let e : Some x ≡ None = none refl in cc
put_second_at false new a b none = refl

pub put_second : {X : Type 0} (key : X → ℕ) (new : X) (xs rows : List X) → IsRising key rows → row_at key (key new) xs ≡ None → with_all key xs (put_row key new rows) ≡ put_row key new (with_all key xs rows)
put_second key new xs rows r none =
    same_rows key _ _ (rising_all key xs (put_row key new rows) (rising_put key new rows r)) (rising_put key new (with_all key xs rows) (rising_all key xs rows r))
    (λ i. at_all key xs (put_row key new rows) i ∙ ap (λ o. first_some (row_at key i xs) o) (at_put key new rows i)
    ∙ put_second_at (eqb (key new) i) new (row_at key i xs) (row_at key i rows) (λ t. let e : key new ≡ i = grind (arith, nat_tests, t) in subst (λ n. row_at key n xs ≡ None) e none)
    ∙ sym (at_put key new (with_all key xs rows) i ∙ ap (λ o. cond (eqb (key new) i) (cond (is_some o) (Some new) None) o) (at_all key xs rows i)))

put_first_at : {X : Type 0} (c : Bool) (new : X) (a b : Option X) → (c ≡ true → is_some a ≡ true) → first_some (cond c (cond (is_some a) (Some new) None) a) b ≡ cond c (cond (is_some (first_some a b)) (Some new) None) (first_some a b)
put_first_at true new None b some = let e : false ≡ true = some refl in cc
put_first_at true new (Some x) b some = refl
put_first_at false new a b some = refl

pub put_first : {X : Type 0} (key : X → ℕ) (new : X) (xs rows : List X) → IsRising key xs → IsRising key rows → is_some (row_at key (key new) xs) ≡ true → with_all key (put_row key new xs) rows ≡ put_row key new (with_all key xs rows)
put_first key new xs rows s r some =
    same_rows key _ _ (rising_all key (put_row key new xs) rows r) (rising_put key new (with_all key xs rows) (rising_all key xs rows r))
    (λ i. at_all key (put_row key new xs) rows i ∙ ap (λ o. first_some o (row_at key i rows)) (at_put key new xs i)
    ∙ put_first_at (eqb (key new) i) new (row_at key i xs) (row_at key i rows) (λ t. let e : key new ≡ i = grind (arith, nat_tests, t) in subst (λ n. is_some (row_at key n xs) ≡ true) e some)
    ∙ sym (at_put key new (with_all key xs rows) i ∙ ap (λ o. cond (eqb (key new) i) (cond (is_some o) (Some new) None) o) (at_all key xs rows i)))

-- a row moves from the second list, changed, to the first
move_at : {X : Type 0} (c : Bool) (new : X) (a b : Option X) → (c ≡ true → is_some b ≡ true) → first_some (cond c (Some new) a) (cond c None b) ≡ cond c (cond (is_some (first_some a b)) (Some new) None) (first_some a b)
move_at true new None None some = let e : false ≡ true = some refl in cc
move_at true new None (Some y) some = refl
move_at true new (Some x) b some = refl
move_at false new a b some = refl

pub put_moved : {X : Type 0} (key : X → ℕ) (new : X) (xs rows : List X) → IsRising key rows → is_some (row_at key (key new) rows) ≡ true → with_all key (with_row key new xs) (drop_row key (key new) rows) ≡ put_row key new (with_all key xs rows)
put_moved key new xs rows r some =
    same_rows key _ _ (rising_all key (with_row key new xs) (drop_row key (key new) rows) (rising_drop key (key new) rows r)) (rising_put key new (with_all key xs rows) (rising_all key xs rows r))
    (λ i. at_all key (with_row key new xs) (drop_row key (key new) rows) i ∙ ap (λ o. first_some o (row_at key i (drop_row key (key new) rows))) (at_with key new xs i)
    ∙ ap (λ o. first_some (cond (eqb (key new) i) (Some new) (row_at key i xs)) o) (at_drop key (key new) rows i)
    ∙ move_at (eqb (key new) i) new (row_at key i xs) (row_at key i rows) (λ t. let e : key new ≡ i = grind (arith, nat_tests, t) in subst (λ n. is_some (row_at key n rows) ≡ true) e some)
    ∙ sym (at_put key new (with_all key xs rows) i ∙ ap (λ o. cond (eqb (key new) i) (cond (is_some o) (Some new) None) o) (at_all key xs rows i)))

-- a row less

drop_at : {X : Type 0} (c : Bool) (a b : Option X) → (c ≡ true → a ≡ None) → first_some a (cond c None b) ≡ cond c None (first_some a b)
drop_at true None b none = refl
drop_at true (Some x) b none = let e : Some x ≡ None = none refl in cc
drop_at false a b none = refl

pub drop_second : {X : Type 0} (key : X → ℕ) (id : ℕ) (xs rows : List X) → IsRising key rows → row_at key id xs ≡ None → with_all key xs (drop_row key id rows) ≡ drop_row key id (with_all key xs rows)
drop_second key id xs rows r none =
    same_rows key _ _ (rising_all key xs (drop_row key id rows) (rising_drop key id rows r)) (rising_drop key id (with_all key xs rows) (rising_all key xs rows r))
    (λ i. at_all key xs (drop_row key id rows) i ∙ ap (λ o. first_some (row_at key i xs) o) (at_drop key id rows i)
    ∙ drop_at (eqb id i) (row_at key i xs) (row_at key i rows) (λ t. let e : id ≡ i = grind (arith, nat_tests, t) in subst (λ n. row_at key n xs ≡ None) e none)
    ∙ sym (at_drop key id (with_all key xs rows) i ∙ ap (λ o. cond (eqb id i) None o) (at_all key xs rows i)))

drop_both : {X : Type 0} (c : Bool) (a b : Option X) → (c ≡ true → b ≡ None) → first_some (cond c None a) b ≡ cond c None (first_some a b)
drop_both true a b none = none refl
drop_both false a b none = refl

pub drop_first : {X : Type 0} (key : X → ℕ) (id : ℕ) (xs rows : List X) → IsRising key rows → row_at key id rows ≡ None → with_all key (drop_row key id xs) rows ≡ drop_row key id (with_all key xs rows)
drop_first key id xs rows r none =
    same_rows key _ _ (rising_all key (drop_row key id xs) rows r) (rising_drop key id (with_all key xs rows) (rising_all key xs rows r))
    (λ i. at_all key (drop_row key id xs) rows i ∙ ap (λ o. first_some o (row_at key i rows)) (at_drop key id xs i)
    ∙ drop_both (eqb id i) (row_at key i xs) (row_at key i rows) (λ t. let e : id ≡ i = grind (arith, nat_tests, t) in subst (λ n. row_at key n rows ≡ None) e none)
    ∙ sym (at_drop key id (with_all key xs rows) i ∙ ap (λ o. cond (eqb id i) None o) (at_all key xs rows i)))

-- the lists stay apart

pub apart_with_second : {X : Type 0} (key : X → ℕ) (new : X) (xs rows : List X) → AreApart key xs rows → row_at key (key new) xs ≡ None → AreApart key xs (with_row key new rows)
apart_with_second {X} key new xs rows apart none i some = at_with key new rows i ∙ go (eqb (key new) i) refl
  where
    go : (c : Bool) → eqb (key new) i ≡ c → cond c (Some new) (row_at key i rows) ≡ None
    go true t = let e : key new ≡ i = grind (arith, nat_tests, t) in let n : row_at key i xs ≡ None = subst (λ n. row_at key n xs ≡ None) e none in let bad : false ≡ true = subst (λ o. is_some o ≡ true) n some in cc
    go false t = apart i some

pub apart_with_first : {X : Type 0} (key : X → ℕ) (new : X) (xs rows : List X) → AreApart key xs rows → row_at key (key new) rows ≡ None → AreApart key (with_row key new xs) rows
apart_with_first {X} key new xs rows apart none i some = go (eqb (key new) i) refl (subst (λ o. is_some o ≡ true) (at_with key new xs i) some)
  where
    go : (c : Bool) → eqb (key new) i ≡ c → is_some (cond c (Some new) (row_at key i xs)) ≡ true → row_at key i rows ≡ None
    go true t s = let e : key new ≡ i = grind (arith, nat_tests, t) in subst (λ n. row_at key n rows ≡ None) e none
    go false t s = apart i s

pub apart_put_second : {X : Type 0} (key : X → ℕ) (new : X) (xs rows : List X) → AreApart key xs rows → AreApart key xs (put_row key new rows)
apart_put_second {X} key new xs rows apart i some = at_put key new rows i ∙ go (eqb (key new) i) (row_at key i rows) (apart i some)
  where
    go : (c : Bool) (o : Option X) → o ≡ None → cond c (cond (is_some o) (Some new) None) o ≡ None
    go true None e = refl
    go true (Some x) e = cc
    go false o e = e

pub apart_put_first : {X : Type 0} (key : X → ℕ) (new : X) (xs rows : List X) → AreApart key xs rows → AreApart key (put_row key new xs) rows
apart_put_first {X} key new xs rows apart i some = apart i (go (eqb (key new) i) (row_at key i xs) (subst (λ o. is_some o ≡ true) (at_put key new xs i) some))
  where
    go : (c : Bool) (o : Option X) → is_some (cond c (cond (is_some o) (Some new) None) o) ≡ true → is_some o ≡ true
    go true None e = e
    go true (Some x) e = refl
    go false o e = e

pub apart_drop_second : {X : Type 0} (key : X → ℕ) (id : ℕ) (xs rows : List X) → AreApart key xs rows → AreApart key xs (drop_row key id rows)
apart_drop_second {X} key id xs rows apart i some = at_drop key id rows i ∙ go (eqb id i) (apart i some)
  where
    go : (c : Bool) → row_at key i rows ≡ None → cond c None (row_at key i rows) ≡ None
    go true e = refl
    go false e = e

pub apart_drop_first : {X : Type 0} (key : X → ℕ) (id : ℕ) (xs rows : List X) → AreApart key xs rows → AreApart key (drop_row key id xs) rows
apart_drop_first {X} key id xs rows apart i some = apart i (go (eqb id i) (row_at key i xs) (subst (λ o. is_some o ≡ true) (at_drop key id xs i) some))
  where
    go : (c : Bool) (o : Option X) → is_some (cond c None o) ≡ true → is_some o ≡ true
    go true o e = let no : false ≡ true = e in cc
    go false o e = e

-- the next of both

from_at : {X : Type 0} (key : X → ℕ) (rows : List X) (i : ℕ) (y : X) → row_at key i rows ≡ Some y → Has rows y
from_at key rows i y e = (Has-from_row_at key i rows y e).0

in_first : {X : Type 0} (key : X → ℕ) (xs rows : List X) (y : X) → IsRising key xs → Has xs y → Has (with_all key xs rows) y
in_first key xs rows y s h = from_at key (with_all key xs rows) (key y) y (at_all key xs rows (key y) ∙ ap (λ o. first_some o (row_at key (key y) rows)) (at_member key xs y s h))

in_second : {X : Type 0} (key : X → ℕ) (xs rows : List X) (y : X) → IsRising key rows → AreApart key xs rows → Has rows y → Has (with_all key xs rows) y
in_second {X} key xs rows y r apart h = from_at key (with_all key xs rows) (key y) y (at_all key xs rows (key y) ∙ go (row_at key (key y) xs) (apart (key y)))
  where
    at : row_at key (key y) rows ≡ Some y
    at = at_member key rows y r h

    go : (o : Option X) → (is_some o ≡ true → row_at key (key y) rows ≡ None) → first_some o (row_at key (key y) rows) ≡ Some y
    go None f = at
    go (Some x) f = let none : row_at key (key y) rows ≡ None = f refl in let some : row_at key (key y) rows ≡ Some y = at in cc

in_either : {X : Type 0} (key : X → ℕ) (xs rows : List X) (y : X) → IsRising key rows → Has (with_all key xs rows) y → Has xs y ⊎ Has rows y
in_either {X} key xs rows y r h = go (row_at key (key y) xs) refl (sym (at_all key xs rows (key y)) ∙ at_member key (with_all key xs rows) y (rising_all key xs rows r) h)
  where
    go : (o : Option X) → row_at key (key y) xs ≡ o → first_some o (row_at key (key y) rows) ≡ Some y → Has xs y ⊎ Has rows y
    go None f e = inr (from_at key rows (key y) y e)
    go (Some x) f e = inl (from_at key xs (key y) y (f ∙ e))

lesser_next : {X : Type 0} (key : X → ℕ) (p : X → Bool) (after : ℕ) (xs rows : List X) (a b : Option X) → IsRising key xs → IsRising key rows → AreApart key xs rows
    → IsNext key p after xs a → IsNext key p after rows b → IsNext key p after (with_all key xs rows) (lesser key a b)
lesser_next key p after xs rows None None s r apart h k = λ y there t l. elim (in_either key xs rows y r there) [ inl m ↦ h y m t l | inr m ↦ k y m t l ]
lesser_next key p after xs rows None (Some z) s r apart h k = record {
  there = in_second key xs rows z r apart k.there;
  passes = k.passes;
  above = k.above;
  least = λ y there t l. elim (in_either key xs rows y r there) [ inl m ↦ absurd (h y m t l) | inr m ↦ k.least y m t l ];
}
lesser_next key p after xs rows (Some x) None s r apart h k = record {
  there = in_first key xs rows x s h.there;
  passes = h.passes;
  above = h.above;
  least = λ y there t l. elim (in_either key xs rows y r there) [ inl m ↦ h.least y m t l | inr m ↦ absurd (k y m t l) ];
}
lesser_next key p after xs rows (Some x) (Some z) s r apart h k = go (ltb (key z) (key x)) refl
  where
    go : (c : Bool) → ltb (key z) (key x) ≡ c → IsNext key p after (with_all key xs rows) (cond c (Some z) (Some x))
    go true e = let lt : key z < key x = grind (arith, nat_tests, e) in record {
      there = in_second key xs rows z r apart k.there;
      passes = k.passes;
      above = k.above;
      least = λ y there t l. elim (in_either key xs rows y r there) [ inl m ↦ (let q : key x ≤ key y = h.least y m t l in omega arith) | inr m ↦ k.least y m t l ];
    }
    go false e = let le : key x ≤ key z = grind (arith, nat_tests, e) in record {
      there = in_first key xs rows x s h.there;
      passes = h.passes;
      above = h.above;
      least = λ y there t l. elim (in_either key xs rows y r there) [ inl m ↦ h.least y m t l | inr m ↦ (let q : key z ≤ key y = k.least y m t l in omega arith) ];
    }

pub next_of_both : {X : Type 0} (key : X → ℕ) (p : X → Bool) (after : ℕ) (xs rows : List X) → IsRising key xs → IsRising key rows → AreApart key xs rows
    → lesser key (row_above key after (filter p xs)) (row_above key after (filter p rows)) ≡ row_above key after (filter p (with_all key xs rows))
next_of_both key p after xs rows s r apart = next_is key p after (with_all key xs rows) _ (rising_all key xs rows r)
    (lesser_next key p after xs rows _ _ s r apart (next_holds key p after xs s) (next_holds key p after rows r))

pub above_of_both : {X : Type 0} (key : X → ℕ) (after : ℕ) (xs rows : List X) → IsRising key xs → IsRising key rows → AreApart key xs rows
    → lesser key (row_above key after xs) (row_above key after rows) ≡ row_above key after (with_all key xs rows)
above_of_both key after xs rows s r apart =
    ap (λ zs. lesser key (row_above key after zs) (row_above key after rows)) (sym (filter_all xs))
    ∙ ap (λ zs. lesser key (row_above key after (filter (λ _. true) xs)) (row_above key after zs)) (sym (filter_all rows))
    ∙ next_of_both key (λ _. true) after xs rows s r apart
    ∙ ap (λ zs. row_above key after zs) (filter_all (with_all key xs rows))
