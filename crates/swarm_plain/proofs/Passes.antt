-- The rows that pass a test, and the last one of them.
use Rattle.std.proofs.Common.{◌≡◌, ℕ, ◌+◌, ◌<◌, Bool, true, false, cond, List, [], ◌∷◌, ◌++◌, length, get_or, take, Some, None, refl, sym, ap, subst, ◌∙◌, append-nil}
use Rattle.std.proofs.lemmas.List.Elements.{filter_more}
use Rattle.std.proofs.lemmas.List.{map_more}
use Rattle.std.specs.List.{last_or, list_any}
use Rattle.std.specs.Prelude.{◌&&◌, ◌||◌, filter, map}
use Rattle.swarm_objects.proofs.Newest.{last_last}

-- both tests at once
pub any_both : {X : Type 0} (p test : X → Bool) (xs : List X) →
    list_any (λ x. p x && test x) xs ≡ list_any test (filter p xs)
any_both p test [] = refl
any_both p test (x ∷ xs) = go (p x) (any_both p test xs)
  where
    go : (b : Bool) → list_any (λ x. p x && test x) xs ≡ list_any test (filter p xs) →
        (b && test x || list_any (λ x. p x && test x) xs) ≡
        list_any test (cond b (x ∷ filter p xs) (filter p xs))
    go true e = ap (λ c. test x || c) e
    go false e = e

-- the row at a loop's index passes, so it is the last one so far
pub last_passed : {X : Type 0} (p : X → Bool) (xs : List X) (i : ℕ) (x : X) → i < length xs → x ≡ get_or xs i x →
    p x ≡ true → Some x ≡ last_or None (filter p (take (i + 1) xs))
last_passed p xs i x lt is passes =
    sym (ap (last_or None) (subst (λ y. filter p (take (i + 1) xs) ≡ filter p (take i xs) ++ cond (p y) (y ∷ []) [])
    (sym is) (filter_more p xs i x lt)
    ∙ ap (λ b. filter p (take i xs) ++ cond b (x ∷ []) []) passes)
    ∙ last_last None (filter p (take i xs)) x)

-- it doesn't, so they stay the same
pub none_passed : {X : Type 0} (p : X → Bool) (xs : List X) (i : ℕ) (x : X) → i < length xs → x ≡ get_or xs i x →
    p x ≡ false → filter p (take i xs) ≡ filter p (take (i + 1) xs)
none_passed p xs i x lt is fails =
    sym (subst (λ y. filter p (take (i + 1) xs) ≡ filter p (take i xs) ++ cond (p y) (y ∷ []) [])
    (sym is) (filter_more p xs i x lt)
    ∙ ap (λ b. filter p (take i xs) ++ cond b (x ∷ []) []) fails
    ∙ append-nil (filter p (take i xs)))

-- the rows made of those before a loop's index, and one more
pub mapped_next : {X Y : Type 0} (f : X → Y) (xs : List X) (i : ℕ) (x : X) (rows more : List Y) (y : Y) →
    i < length xs → x ≡ get_or xs i x → rows ≡ map f (take i xs) → y ≡ f x → more ≡ rows ++ y ∷ [] →
    more ≡ map f (take (i + 1) xs)
mapped_next f xs i x rows more y lt is before one next =
    next
    ∙ ap (λ zs. zs ++ y ∷ []) before
    ∙ ap (λ z. map f (take i xs) ++ z ∷ []) (one ∙ ap f is)
    ∙ sym (map_more f xs i x lt)
