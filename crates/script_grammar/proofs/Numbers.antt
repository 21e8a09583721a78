-- A number's one spelling.
use Rattle.std.proofs.Common.{◌≡◌, ◌≢◌, ℕ, ◌<◌, ◌^◌, List, [], ◌∷◌, Bool, true, false, cond, ◌&&◌, refl, sym, ◌∙◌, ap, subst, Option, Some, None, arith, decimal, nat_lt}
use Rattle.std.specs.List.{AllByRecursion, list_all}
use Rattle.std.specs.Str.{bytes_eq}
use Rattle.std.specs.Str.Parse.{digits_value}
use Rattle.std.proofs.lemmas.Slice.Eq.{bytes_eq-Decides}
use Rattle.std.proofs.lemmas.Bool.Decides.{nat_tests}
use Rattle.std.proofs.lemmas.Fmt.{decimal_is_IsNumeral}
use Rattle.swarm_objects.proofs.Tests.{both, both_are}
use Rattle.script_grammar.specs.Words.{number_below}

pub test_yes : {A : Type 0} (b : Bool) (x : A) → b ≡ true → cond b (Some x) None ≡ Some x
test_yes true x e = refl
test_yes false x e = cc

pub test_some : {A : Type 0} (b : Bool) (x y : A) → cond b (Some x) None ≡ Some y → (b ≡ true) × (x ≡ y)
test_some true x y e = (refl, cc)
test_some false x y e = cc

pub same_bytes : (w : List ℕ) → bytes_eq w w ≡ true
same_bytes w = (bytes_eq-Decides w w).1 refl

pub below_yes : (n k : ℕ) → n < k → nat_lt n k ≡ true
below_yes n k h = grind (arith, nat_tests)

pub below_only : (n k : ℕ) → nat_lt n k ≡ true → n < k
below_only n k e = grind (arith, nat_tests)

pub not_below : (n k : ℕ) → nat_lt n k ≡ false → n < k → ⊥
not_below n k e h = let y = below_yes n k h in let z : true ≡ false = sym y ∙ e in cc

pub number_yes : (limit n : ℕ) → n < limit → n < 2 ^ 64 → number_below limit (decimal n) ≡ Some n
number_yes limit n h byte_number =
    let v = (decimal_is_IsNumeral n byte_number).1 in
    subst (λ (m : ℕ). cond (nat_lt m limit && bytes_eq (decimal n) (decimal m)) (Some m) None ≡ Some n) (sym v)
    (test_yes (nat_lt n limit && bytes_eq (decimal n) (decimal n)) n (both (nat_lt n limit) (bytes_eq (decimal n) (decimal n)) (below_yes n limit h) (same_bytes (decimal n))))

pub number_only : (limit n : ℕ) (w : List ℕ) → number_below limit w ≡ Some n → (w ≡ decimal n) × (n < limit)
number_only limit n w e =
    let v = digits_value 10 w in
    let t = test_some (nat_lt v limit && bytes_eq w (decimal v)) v n e in
    let b = both_are (nat_lt v limit) (bytes_eq w (decimal v)) t.0 in
    ((bytes_eq-Decides w (decimal v)).0 b.1 ∙ ap decimal t.1, subst (λ m. m < limit) t.1 (below_only v limit b.0))

no_number : (o : Option ℕ) → ((n : ℕ) → o ≡ Some n → ⊥) → o ≡ None
no_number None h = refl
no_number (Some n) h = absurd (h n refl)

pub number_no : (limit : ℕ) (w : List ℕ) → ((n : ℕ) → n < limit → w ≢ decimal n) → number_below limit w ≡ None
number_no limit w h = no_number (number_below limit w) (λ n e. let o = number_only limit n w e in h n o.1 o.0)

pub all_of : {A : Type 0} (p : A → Bool) (xs : List A) → list_all p xs ≡ true → AllByRecursion (λ x. p x ≡ true) xs
all_of p [] h = tt
all_of p (x ∷ xs) h = let b = both_are (p x) (list_all p xs) h in (b.0, all_of p xs b.1)
