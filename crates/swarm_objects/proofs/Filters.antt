-- Filters and what they give together.
use Rattle.std.proofs.Common.{Bool, List, [], ap, cond, false, inl, inr, length, refl, sym, true, ◌∙◌, ◌∷◌, ◌≡◌}
use Rattle.std.proofs.lemmas.List.Sums.{length-filter}
use Rattle.std.specs.Prelude.{count_by, filter, map, ◌&&◌}
use Rattle.swarm_objects.specs.Rows.{Has}

pub filter_same : {X : Type 0} (p q : X → Bool) (xs : List X) → ((x : X) → p x ≡ q x) → filter p xs ≡ filter q xs
filter_same p q [] same = refl
filter_same p q (x ∷ xs) same =
    ap (λ b. cond b (x ∷ filter p xs) (filter p xs)) (same x)
    ∙ ap (λ ys. cond (q x) (x ∷ ys) ys) (filter_same p q xs same)

pub filter_none : {X : Type 0} (p : X → Bool) (xs : List X) → ((x : X) → Has xs x → p x ≡ false) → filter p xs ≡ []
filter_none p [] none = refl
filter_none p (x ∷ xs) none =
    ap (λ b. cond b (x ∷ filter p xs) (filter p xs)) (none x (inl refl))
    ∙ filter_none p xs (λ y h. none y (inr h))

-- a test that implies an earlier one makes the earlier one idle
pub filter_again : {X : Type 0} (p q : X → Bool) (xs : List X) → ((x : X) → p x ≡ true → q x ≡ true)
    → filter p (filter q xs) ≡ filter p xs
filter_again p q [] implies = refl
filter_again p q (x ∷ xs) implies = go (p x) refl (q x) refl (filter_again p q xs implies)
  where
    go : (a : Bool) → p x ≡ a → (b : Bool) → q x ≡ b → filter p (filter q xs) ≡ filter p xs
        → filter p (cond b (x ∷ filter q xs) (filter q xs)) ≡ cond a (x ∷ filter p xs) (filter p xs)
    go true e true f k = ap (λ c. cond c (x ∷ filter p (filter q xs)) (filter p (filter q xs))) e ∙ ap (λ ys. x ∷ ys) k
    go true e false f k = absurd (differs (sym f ∙ implies x e))
      where
        differs : false ≡ true → ⊥
        differs d = absurd cc
    go false e true f k = ap (λ c. cond c (x ∷ filter p (filter q xs)) (filter p (filter q xs))) e ∙ k
    go false e false f k = k

-- those that pass both tests are those of the first that pass the second
pub filter_both : {X : Type 0} (p q : X → Bool) (xs : List X) → filter (λ x. p x && q x) xs ≡ filter q (filter p xs)
filter_both p q [] = refl
filter_both p q (x ∷ xs) = go (p x) (filter_both p q xs)
  where
    go : (a : Bool) → filter (λ y. p y && q y) xs ≡ filter q (filter p xs) →
        cond (a && q x) (x ∷ filter (λ y. p y && q y) xs) (filter (λ y. p y && q y) xs)
        ≡ filter q (cond a (x ∷ filter p xs) (filter p xs))
    go true e = ap (λ zs. cond (q x) (x ∷ zs) zs) e
    go false e = e

pub count_both : {X : Type 0} (p q : X → Bool) (xs : List X) → count_by (λ x. p x && q x) xs ≡ count_by q (filter p xs)
count_both p q xs =
    sym (length-filter (λ x. p x && q x) xs) ∙ ap length (filter_both p q xs) ∙ length-filter q (filter p xs)

pub filter_map : {X : Type 0} (p : X → Bool) (g : X → X) (xs : List X) → ((x : X) → p (g x) ≡ p x) → filter p (map g xs)
    ≡ map g (filter p xs)
filter_map p g [] same = refl
filter_map p g (x ∷ xs) same =
    ap (λ b. cond b (g x ∷ filter p (map g xs)) (filter p (map g xs))) (same x) ∙ go (p x) (filter_map p g xs same)
  where
    go : (b : Bool) → filter p (map g xs) ≡ map g (filter p xs)
        → cond b (g x ∷ filter p (map g xs)) (filter p (map g xs)) ≡ map g (cond b (x ∷ filter p xs) (filter p xs))
    go true e = ap (λ zs. g x ∷ zs) e
    go false e = e

-- one test after the other, as one
pub filter_within : {X : Type 0} (p q : X → Bool) (xs : List X) → filter q (filter p xs) ≡ filter (λ x. q x && p x) xs
filter_within p q [] = refl
filter_within p q (x ∷ xs) = go (p x) (q x) refl (filter_within p q xs)
  where
    go : (a b : Bool) → q x ≡ b → filter q (filter p xs) ≡ filter (λ y. q y && p y) xs
        → filter q (cond a (x ∷ filter p xs) (filter p xs))
        ≡ cond (b && a) (x ∷ filter (λ y. q y && p y) xs) (filter (λ y. q y && p y) xs)
    go true true is below =
        ap (λ b. cond b (x ∷ filter q (filter p xs)) (filter q (filter p xs))) is ∙ ap (λ ys. x ∷ ys) below
    go true false is below = ap (λ b. cond b (x ∷ filter q (filter p xs)) (filter q (filter p xs))) is ∙ below
    go false true is below = below
    go false false is below = below
