-- Sums over the rows that pass a test.
use Rattle.std.proofs.Common.{◌≡◌, ℕ, ◌+◌, ◌<◌, Bool, true, false, cond, List}
use Rattle.std.proofs.Common.{[], ◌∷◌, ◌++◌, length, get_or, take, sym, ap, ◌∙◌, arith}
use Rattle.std.specs.Prelude.{filter, sum_by}
use Rattle.std.proofs.lemmas.List.Sums.{sum_by_push}
use Rattle.plain_placement.proofs.Scans.{passed_next}

-- one row more adds what it counts, where it passes
pub counted_next : {X : Type 0} (f : X → ℕ) (p : X → Bool) (xs : List X) (i : ℕ) (x : X) → i < length xs →
    x ≡ get_or xs i x → sum_by f (filter p (take (i + 1) xs)) ≡ sum_by f (filter p (take i xs)) + cond (p x) (f x) 0
counted_next f p xs i x lt is = ap (sum_by f) (passed_next p xs i x lt is) ∙ go (p x)
  where
    go : (b : Bool) →
        sum_by f (cond b (filter p (take i xs) ++ x ∷ []) (filter p (take i xs)))
        ≡ sum_by f (filter p (take i xs)) + cond b (f x) 0
    go true = sum_by_push f (filter p (take i xs)) x
    go false = omega arith

-- a row that passes is added
pub added : {X : Type 0} (f : X → ℕ) (p : X → Bool) (xs : List X) (i : ℕ) (x : X) (passes : Bool) (sum more after : ℕ) →
    i < length xs → x ≡ get_or xs i x → passes ≡ p x → passes ≡ true → sum ≡ sum_by f (filter p (take i xs)) →
    more ≡ f x → after ≡ sum + more → after ≡ sum_by f (filter p (take (i + 1) xs))
added f p xs i x passes sum more after lt is test yes' so_far counts plus =
    omega (arith, counted_next f p xs i x lt is, ap (λ b. cond b (f x) 0) (sym test ∙ yes'), so_far, counts, plus)

-- one that doesn't is passed by
pub passed_by : {X : Type 0} (f : X → ℕ) (p : X → Bool) (xs : List X) (i : ℕ) (x : X) (passes : Bool) (sum after : ℕ) →
    i < length xs → x ≡ get_or xs i x → passes ≡ p x → passes ≡ false → sum ≡ sum_by f (filter p (take i xs)) →
    after ≡ sum → after ≡ sum_by f (filter p (take (i + 1) xs))
passed_by f p xs i x passes sum after lt is test no' so_far same =
    omega (arith, counted_next f p xs i x lt is, ap (λ b. cond b (f x) 0) (sym test ∙ no'), so_far, same)
