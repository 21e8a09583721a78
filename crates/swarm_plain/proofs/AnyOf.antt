-- Any of a list that is made of parts.
use Rattle.std.proofs.Common.{◌≡◌, ℕ, Bool, true, false, cond, eqb, List, [], ◌∷◌, refl, sym, ap, ◌∙◌, arith}
use Rattle.std.specs.Prelude.{◌||◌, ◌&&◌, map, filter}
use Rattle.std.specs.List.{list_any}
use Rattle.std.proofs.lemmas.Bool.Decides.{nat_tests}

pub or_swap : (a b c : Bool) → ((a || b) || c) ≡ (b || (a || c))
or_swap true true c = refl
or_swap true false c = refl
or_swap false true c = refl
or_swap false false c = refl

pub and_true : (b : Bool) → (b && true) ≡ b
and_true true = refl
and_true false = refl

pub and_false : (b : Bool) → (b && false) ≡ false
and_false true = refl
and_false false = refl

pub any_none : {X : Type 0} (p : X → Bool) (rows : List X) → ((x : X) → p x ≡ false) → list_any p rows ≡ false
any_none p [] no' = refl
any_none p (x ∷ rows) no' = ap (λ b. b || list_any p rows) (no' x) ∙ any_none p rows no'

or_step : (a b c d : Bool) → (a ≡ true → b ≡ true) → (c ≡ true → d ≡ true) → (a || c) ≡ true → (b || d) ≡ true
or_step a true c d one rest e = refl
or_step true false c d one rest e = absurd (let q : false ≡ true = one refl in cc)
or_step false false c d one rest e = rest e

pub any_where : {X Y : Type 0} (p : Y → Bool) (f : X → Y) (test : X → Bool) (rows : List X) →
    list_any p (map f (filter test rows)) ≡ list_any (λ x. p (f x) && test x) rows
any_where p f test [] = refl
any_where p f test (x ∷ rows) = go (test x) (any_where p f test rows)
  where
    go : (a : Bool) → list_any p (map f (filter test rows)) ≡ list_any (λ y. p (f y) && test y) rows →
        list_any p (map f (cond a (x ∷ filter test rows) (filter test rows)))
        ≡ ((p (f x) && a) || list_any (λ y. p (f y) && test y) rows)
    go true e =
        ap (λ c. p (f x) || c) e
        ∙ ap (λ c. c || list_any (λ y. p (f y) && test y) rows) (sym (and_true (p (f x))))
    go false e = e ∙ ap (λ c. c || list_any (λ y. p (f y) && test y) rows) (sym (and_false (p (f x))))

-- where none passes, none is left
pub none_left : {X : Type 0} (p : X → Bool) (rows : List X) → list_any p rows ≡ false → filter p rows ≡ []
none_left p [] e = refl
none_left p (x ∷ rows) e = go (p x) (none_left p rows) e
  where
    go : (b : Bool) → (list_any p rows ≡ false → filter p rows ≡ []) → (b || list_any p rows) ≡ false →
        cond b (x ∷ filter p rows) (filter p rows) ≡ []
    go true below no' = absurd cc
    go false below no' = below no'

pub any_more : {X : Type 0} (p q : X → Bool) (rows : List X) → ((x : X) → p x ≡ true → q x ≡ true) →
    list_any p rows ≡ true → list_any q rows ≡ true
any_more p q [] each e = e
any_more p q (x ∷ rows) each e =
    or_step (p x) (q x) (list_any p rows) (list_any q rows) (each x) (any_more p q rows each) e

-- Numbers.

pub turned : (a b : ℕ) → eqb a b ≡ eqb b a
turned a b = grind (arith, nat_tests)

pub one_number : (a b : ℕ) → (eqb a b && true) ≡ eqb b a
one_number a b = and_true (eqb a b) ∙ turned a b
