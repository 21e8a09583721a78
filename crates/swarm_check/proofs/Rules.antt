-- Two lists of rules, one after the other.
use Rattle.std.proofs.Common.{◌≡◌, Bool, List, ◌++◌, Some, None, find, ap, sym, ◌∙◌}
use Rattle.std.specs.Option.{option_or}
use Rattle.std.proofs.lemmas.List.Folds.{find-append}

-- a rule of the first list is broken
pub find-front : {X : Type 0} (p : X → Bool) (xs ys : List X) (r : X) → Some r ≡ find p xs → Some r ≡ find p (xs ++ ys)
find-front p xs ys r is = ap (λ o. option_or o (find p ys)) is ∙ sym (find-append p xs ys)

-- none of the first list is
pub find-back : {X : Type 0} (p : X → Bool) (xs ys : List X) → None ≡ find p xs → find p ys ≡ find p (xs ++ ys)
find-back p xs ys none = ap (λ o. option_or o (find p ys)) none ∙ sym (find-append p xs ys)
