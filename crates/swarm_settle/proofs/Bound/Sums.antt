-- Sums over rows that change, come and go.
use Rattle.std.proofs.Common.{Bool, List, [], ap, arith, cond, eqb, false, inl, inr, map, refl, subst, sym, true, ℕ, ◌+◌, ◌∙◌, ◌∷◌, ◌≡◌, ◌≤◌}
use Rattle.std.proofs.lemmas.Bool.Decides.{nat_tests}
use Rattle.std.proofs.lemmas.List.Sums.{sum_by-cons}
use Rattle.std.specs.Prelude.{count_by, filter, sum_by}
use Rattle.swarm_objects.specs.Rows.{Has, change_row}

-- Row by row.

pub sum-le : {X : Type 0} (f g : X → ℕ) (xs : List X) → ((x : X) → Has xs x → f x ≤ g x) → sum_by f xs ≤ sum_by g xs
sum-le f g [] each = omega arith
sum-le f g (x ∷ xs) each =
    omega (arith, sum_by-cons f x xs, sum_by-cons g x xs, each x (inl refl), sum-le f g xs (λ y h. each y (inr h)))

pub sum-same : {X : Type 0} (f g : X → ℕ) (xs : List X) → ((x : X) → Has xs x → f x ≡ g x) → sum_by f xs ≡ sum_by g xs
sum-same f g [] each = refl
sum-same f g (x ∷ xs) each =
    omega (arith, sum_by-cons f x xs, sum_by-cons g x xs, each x (inl refl), sum-same f g xs (λ y h. each y (inr h)))

-- all stay, and one falls by an amount
pub sum-falls : {X : Type 0} (f g : X → ℕ) (d : ℕ) (xs : List X) (x : X) → Has xs x → f x + d ≤ g x →
    ((y : X) → Has xs y → f y ≤ g y) → sum_by f xs + d ≤ sum_by g xs
sum-falls f g d [] x h one each = absurd h
sum-falls f g d (y ∷ ys) x (inl e) one each =
    let here : f y + d ≤ g y = subst (λ z. f z + d ≤ g z) (sym e) one in
    omega (arith, sum_by-cons f y ys, sum_by-cons g y ys, here, sum-le f g ys (λ z h. each z (inr h)))
sum-falls f g d (y ∷ ys) x (inr h) one each =
    omega (arith, sum_by-cons f y ys, sum_by-cons g y ys, each y (inl refl), sum-falls f g d ys x h one (λ z k. each z (inr k)))

-- each falls by its own amount
pub sum-fall : {X : Type 0} (f g d : X → ℕ) (xs : List X) → ((x : X) → Has xs x → f x + d x ≤ g x) →
    sum_by f xs + sum_by d xs ≤ sum_by g xs
sum-fall f g d [] each = omega arith
sum-fall f g d (x ∷ xs) each =
    omega (arith, sum_by-cons f x xs, sum_by-cons g x xs, sum_by-cons d x xs, each x (inl refl), sum-fall f g d xs (λ y h. each y (inr h)))

pub sum-map : {X Y : Type 0} (f : Y → ℕ) (h : X → Y) (xs : List X) → sum_by f (map h xs) ≡ sum_by (λ x. f (h x)) xs
sum-map f h [] = refl
sum-map f h (x ∷ xs) =
    omega (arith, sum_by-cons f (h x) (map h xs), sum_by-cons (λ y. f (h y)) x xs, sum-map f h xs)

pub sum-join : {X : Type 0} (f g : X → ℕ) (xs : List X) → sum_by (λ x. f x + g x) xs ≡ sum_by f xs + sum_by g xs
sum-join f g [] = refl
sum-join f g (x ∷ xs) =
    omega (
      arith,
      sum_by-cons (λ y. f y + g y) x xs,
      sum_by-cons f x xs,
      sum_by-cons g x xs,
      sum-join f g xs,
    )

-- Changed rows: no more than before; less by an amount, where one row is.

pub mapped-le : {X : Type 0} (f g : X → ℕ) (h : X → X) (xs : List X) → ((x : X) → Has xs x → f (h x) ≤ g x) →
    sum_by f (map h xs) ≤ sum_by g xs
mapped-le f g h xs each = omega (arith, sum-map f h xs, sum-le (λ x. f (h x)) g xs each)

pub mapped-falls : {X : Type 0} (f g : X → ℕ) (h : X → X) (d : ℕ) (xs : List X) (x : X) → Has xs x → f (h x) + d ≤ g x →
    ((y : X) → Has xs y → f (h y) ≤ g y) → sum_by f (map h xs) + d ≤ sum_by g xs
mapped-falls f g h d xs x there one each = omega (arith, sum-map f h xs, sum-falls (λ y. f (h y)) g d xs x there one each)

pub changed-le : {X : Type 0} (key : X → ℕ) (id : ℕ) (f g : X → ℕ) (h : X → X) (xs : List X) →
    ((x : X) → Has xs x → key x ≡ id → f (h x) ≤ g x) → ((x : X) → Has xs x → f x ≤ g x) →
    sum_by f (change_row key id h xs) ≤ sum_by g xs
changed-le key id f g h xs one each =
    mapped-le f g (λ x. cond (eqb (key x) id) (h x) x) xs (λ x there. go x there (eqb (key x) id) refl)
  where
    go : (x : _) → Has xs x → (b : Bool) → eqb (key x) id ≡ b → f (cond b (h x) x) ≤ g x
    go x there true e = one x there (grind (arith, nat_tests, e))
    go x there false e = each x there

-- the row with the number falls
pub changed-falls : {X : Type 0} (key : X → ℕ) (id : ℕ) (f g : X → ℕ) (h : X → X) (d : ℕ) (xs : List X) (x : X) →
    Has xs x → key x ≡ id → ((y : X) → Has xs y → key y ≡ id → f (h y) + d ≤ g y) → ((y : X) → Has xs y → f y ≤ g y) →
    sum_by f (change_row key id h xs) + d ≤ sum_by g xs
changed-falls key id f g h d xs x there is one each =
    mapped-falls f g (λ y. cond (eqb (key y) id) (h y) y) d xs x there (go x there (eqb (key x) id) refl is)
    (λ y k. stays y k (eqb (key y) id) refl)
  where
    go : (y : _) → Has xs y → (b : Bool) → eqb (key y) id ≡ b → key y ≡ id → f (cond b (h y) y) + d ≤ g y
    go y k true e at = one y k at
    go y k false e at = absurd (let q : eqb (key y) id ≡ true = grind (arith, nat_tests, at) in
        let wrong : false ≡ true = sym e ∙ q in cc)

    stays : (y : _) → Has xs y → (b : Bool) → eqb (key y) id ≡ b → f (cond b (h y) y) ≤ g y
    stays y k true e = omega (arith, one y k (grind (arith, nat_tests, e)))
    stays y k false e = each y k

-- all stay, and one of those with the number falls
pub row-falls : {X : Type 0} (key : X → ℕ) (id : ℕ) (f g : X → ℕ) (h : X → X) (d : ℕ) (xs : List X) (x : X) →
    Has xs x → key x ≡ id → f (h x) + d ≤ g x → ((y : X) → Has xs y → key y ≡ id → f (h y) ≤ g y) →
    ((y : X) → Has xs y → f y ≤ g y) → sum_by f (change_row key id h xs) + d ≤ sum_by g xs
row-falls key id f g h d xs x there is one changed each =
    mapped-falls f g (λ y. cond (eqb (key y) id) (h y) y) d xs x there (here (eqb (key x) id) refl)
    (λ y k. stays y k (eqb (key y) id) refl)
  where
    here : (b : Bool) → eqb (key x) id ≡ b → f (cond b (h x) x) + d ≤ g x
    here true e = one
    here false e = absurd (let q : eqb (key x) id ≡ true = grind (arith, nat_tests, is) in
        let wrong : false ≡ true = sym e ∙ q in cc)

    stays : (y : _) → Has xs y → (b : Bool) → eqb (key y) id ≡ b → f (cond b (h y) y) ≤ g y
    stays y k true e = changed y k (grind (arith, nat_tests, e))
    stays y k false e = each y k

-- Some rows go.

pub filtered-le : {X : Type 0} (f : X → ℕ) (p : X → Bool) (xs : List X) → sum_by f (filter p xs) ≤ sum_by f xs
filtered-le f p [] = omega arith
filtered-le f p (x ∷ xs) = omega (arith, sum_by-cons f x xs, go (p x) (filtered-le f p xs))
  where
    go : (b : Bool) → sum_by f (filter p xs) ≤ sum_by f xs → sum_by f (cond b (x ∷ filter p xs) (filter p xs)) ≤ f x + sum_by f xs
    go true rest = omega (arith, sum_by-cons f x (filter p xs), rest)
    go false rest = omega (arith, rest)

-- what one row that goes had is gone
pub filtered-falls : {X : Type 0} (f : X → ℕ) (p : X → Bool) (xs : List X) (x : X) → Has xs x → p x ≡ false →
    sum_by f (filter p xs) + f x ≤ sum_by f xs
filtered-falls f p [] x there out = absurd there
filtered-falls f p (y ∷ ys) x (inl e) out = omega (arith, sum_by-cons f y ys, go (p y) refl)
  where
    gone : p y ≡ false
    gone = subst (λ z. p z ≡ false) (sym e) out

    go : (b : Bool) → p y ≡ b → sum_by f (cond b (y ∷ filter p ys) (filter p ys)) + f x ≤ f y + sum_by f ys
    go true t = absurd (let wrong : false ≡ true = sym gone ∙ t in cc)
    go false t = omega (arith, filtered-le f p ys, ap f e)
filtered-falls f p (y ∷ ys) x (inr h) out = omega (arith, sum_by-cons f y ys, go (p y) (filtered-falls f p ys x h out))
  where
    go : (b : Bool) → sum_by f (filter p ys) + f x ≤ sum_by f ys →
        sum_by f (cond b (y ∷ filter p ys) (filter p ys)) + f x ≤ f y + sum_by f ys
    go true rest = omega (arith, sum_by-cons f y (filter p ys), rest)
    go false rest = omega (arith, rest)

-- Counts.

pub bit-le : (a b : Bool) → (a ≡ true → b ≡ true) → ◌≤◌ (cond {A = ℕ} a 1 0) (cond {A = ℕ} b 1 0)
bit-le true true up = omega arith
bit-le true false up = absurd (let wrong : false ≡ true = up refl in cc)
bit-le false true up = omega arith
bit-le false false up = omega arith

pub count-le : {X : Type 0} (p q : X → Bool) (xs : List X) → ((x : X) → Has xs x → p x ≡ true → q x ≡ true) →
    count_by p xs ≤ count_by q xs
count-le p q xs up =
    sum-le (λ x. cond {A = ℕ} (p x) 1 0) (λ x. cond {A = ℕ} (q x) 1 0) xs (λ x h. bit-le (p x) (q x) (up x h))
