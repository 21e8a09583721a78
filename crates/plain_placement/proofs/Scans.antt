-- Steps of the loops of this crate.
use Rattle.std.proofs.Common.{◌≡◌, ℕ, ◌+◌, ◌<◌, Bool, true, false, cond, List, [], ◌∷◌, ◌++◌, length, get_or, take, add-one, zero, suc, refl, sym, ap, ◌∙◌, arith}
use Rattle.std.specs.Prelude.{filter}

-- the items up to a loop's index, and the one there
pub take_next : {X : Type 0} (xs : List X) (i : ℕ) (x : X) → i < length xs → x ≡ get_or xs i x → take (i + 1) xs ≡ take i xs ++ x ∷ []
take_next [] i x lt is = absurd (omega arith)
take_next (y ∷ ys) zero x lt is = ap (λ z. z ∷ []) (sym is)
take_next (y ∷ ys) (suc i) x lt is = rw add-one (ap (λ zs. y ∷ zs) (ap (λ n. take n ys) (sym (add-one i)) ∙ take_next ys i x (omega arith) is))

filter_last : {X : Type 0} (p : X → Bool) (xs : List X) (x : X) → filter p (xs ++ x ∷ []) ≡ cond (p x) (filter p xs ++ x ∷ []) (filter p xs)
filter_last p [] x = refl
filter_last p (y ∷ ys) x = go (p y) (p x) (filter_last p ys x)
  where
    go : (a b : Bool) → filter p (ys ++ x ∷ []) ≡ cond b (filter p ys ++ x ∷ []) (filter p ys)
        → cond a (y ∷ filter p (ys ++ x ∷ [])) (filter p (ys ++ x ∷ [])) ≡ cond b (cond a (y ∷ filter p ys) (filter p ys) ++ x ∷ []) (cond a (y ∷ filter p ys) (filter p ys))
    go true true e = ap (λ zs. y ∷ zs) e
    go true false e = ap (λ zs. y ∷ zs) e
    go false true e = e
    go false false e = e

-- the ones that pass a test
pub passed_next : {X : Type 0} (p : X → Bool) (xs : List X) (i : ℕ) (x : X) → i < length xs → x ≡ get_or xs i x → filter p (take (i + 1) xs) ≡ cond (p x) (filter p (take i xs) ++ x ∷ []) (filter p (take i xs))
passed_next p xs i x lt is = ap (filter p) (take_next xs i x lt is) ∙ filter_last p (take i xs) x
