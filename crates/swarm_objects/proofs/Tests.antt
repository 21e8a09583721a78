-- Tests joined by `&&` and `||`, and what a test finds in a list.
use Rattle.std.proofs.Common.{Bool, List, None, Option, Some, [], ap, cond, false, inl, inr, refl, subst, sym, true, ◌∙◌, ◌∷◌, ◌≡◌, ◌⊎◌}
use Rattle.std.proofs.lemmas.List.Folds.{list_any-append}
use Rattle.std.specs.List.{list_all, list_any}
use Rattle.std.specs.Prelude.{filter, find, flat_map, map, ◌&&◌, ◌||◌}
use Rattle.swarm_objects.specs.Rows.{Has, is_some_and}
use Rattle.swarm_objects.specs.Same.{same_bool}
pub use Rattle.std.proofs.lemmas.Bool.{false_from_ne_true, not-true, not_from_false, or_cases, or_left, or_right, true_from_ne_false}
pub use Rattle.std.specs.Cmp.{first_so, second_so}

pub both : (a b : Bool) → a ≡ true → b ≡ true → (a && b) ≡ true
both true b e f = f
both false b e f = absurd cc

pub both_are : (a b : Bool) → (a && b) ≡ true → (a ≡ true) × (b ≡ true)
both_are true b e = (refl, e)
both_are false b e = absurd cc

pub and_fails : (a b : Bool) → b ≡ false → (a && b) ≡ false
and_fails true b e = e
and_fails false b e = refl

pub neither : (a b : Bool) → a ≡ false → b ≡ false → (a || b) ≡ false
neither true b e f = absurd cc
neither false b e f = f

pub neither_left : (a b : Bool) → (a || b) ≡ false → a ≡ false
neither_left true b e = absurd cc
neither_left false b e = refl

pub neither_right : (a b : Bool) → (a || b) ≡ false → b ≡ false
neither_right true b e = absurd cc
neither_right false b e = e

pub never-both : {A : Type 0} (b : Bool) → b ≡ false → b ≡ true → A
never-both true e f = absurd cc
never-both false e f = absurd cc

-- tests that imply each other are the same
pub same_test : (a b : Bool) → (a ≡ true → b ≡ true) → (b ≡ true → a ≡ true) → a ≡ b
same_test true true there back = refl
same_test true false there back = let e : false ≡ true = there refl in cc
same_test false true there back = let e : false ≡ true = back refl in cc
same_test false false there back = refl

pub same_bool_is : (a b : Bool) → same_bool a b ≡ true → a ≡ b
same_bool_is true true e = refl
same_bool_is true false e = cc
same_bool_is false true e = cc
same_bool_is false false e = refl

pub or_false : (b : Bool) → (b || false) ≡ b
or_false true = refl
or_false false = refl

pub or_assoc : (a b c : Bool) → ((a || b) || c) ≡ (a || (b || c))
or_assoc true b c = refl
or_assoc false b c = refl

pub true-or-false : (b : Bool) → (b ≡ true) ⊎ (b ≡ false)
true-or-false true = inl refl
true-or-false false = inr refl

-- of a list

-- one of them passes
pub any-has : {X : Type 0} (test : X → Bool) (xs : List X) → list_any test xs ≡ true → (x : X) × Has xs x ×
    (test x ≡ true)
any-has test [] e = absurd cc
any-has test (x ∷ xs) e = go (test x) refl e (any-has test xs)
  where
    go : (b : Bool) → test x ≡ b → (b || list_any test xs) ≡ true →
        (list_any test xs ≡ true → (y : _) × Has xs y × (test y ≡ true)) → (y : _) × Has (x ∷ xs) y × (test y ≡ true)
    go true t k rest = (x, inl refl, t)
    go false t k rest = let r = rest k in (r.0, inr r.1, r.2)

pub has-any : {X : Type 0} (test : X → Bool) (xs : List X) (x : X) → Has xs x → test x ≡ true → list_any test xs ≡ true
has-any test [] x h e = absurd h
has-any test (y ∷ ys) x (inl same) e = ap (λ (b : Bool). b || list_any test ys) (ap test same ∙ e)
has-any test (y ∷ ys) x (inr h) e = go (test y) (has-any test ys x h e)
  where
    go : (b : Bool) → list_any test ys ≡ true → (b || list_any test ys) ≡ true
    go true k = refl
    go false k = k

-- all of them pass
pub all-pass : {X : Type 0} (test : X → Bool) (xs : List X) → ((x : X) → Has xs x → test x ≡ true) →
    list_all test xs ≡ true
all-pass test [] each = refl
all-pass test (x ∷ xs) each =
    both (test x) (list_all test xs) (each x (inl refl)) (all-pass test xs (λ y h. each y (inr h)))

pub of-all : {X : Type 0} (test : X → Bool) (xs : List X) (x : X) → list_all test xs ≡ true → Has xs x → test x ≡ true
of-all test [] x all h = absurd h
of-all test (y ∷ ys) x all (inl same) = ap test (sym same) ∙ first_so (test y) (list_all test ys) all
of-all test (y ∷ ys) x all (inr h) = of-all test ys x (second_so (test y) (list_all test ys) all) h

-- any of a list that is made of others

pub any_same : {X : Type 0} (p q : X → Bool) (rows : List X) → ((x : X) → p x ≡ q x) → list_any p rows ≡ list_any q rows
any_same p q [] same = refl
any_same p q (x ∷ rows) same = ap (λ b. b || list_any p rows) (same x) ∙ ap (λ b. q x || b) (any_same p q rows same)

pub any_map : {X Y : Type 0} (p : Y → Bool) (f : X → Y) (rows : List X) →
    list_any p (map f rows) ≡ list_any (λ x. p (f x)) rows
any_map p f [] = refl
any_map p f (x ∷ rows) = ap (λ b. p (f x) || b) (any_map p f rows)

pub any_each : {X Y : Type 0} (p : Y → Bool) (f : X → List Y) (rows : List X) →
    list_any p (flat_map f rows) ≡ list_any (λ x. list_any p (f x)) rows
any_each p f [] = refl
any_each p f (x ∷ rows) =
    list_any-append p (f x) (flat_map f rows) ∙ ap (λ b. list_any p (f x) || b) (any_each p f rows)

pub any_filter : {X : Type 0} (p q : X → Bool) (xs : List X) → list_any q (filter p xs) ≡ list_any (λ x. p x && q x) xs
any_filter p q [] = refl
any_filter p q (x ∷ xs) = go (p x) (any_filter p q xs)
  where
    go : (b : Bool) → list_any q (filter p xs) ≡ list_any (λ y. p y && q y) xs →
        list_any q (cond b (x ∷ filter p xs) (filter p xs)) ≡ ((b && q x) || list_any (λ y. p y && q y) xs)
    go true e = ap (λ b. q x || b) e
    go false e = e

-- the first that passes
pub find_has : {X : Type 0} (p : X → Bool) (xs : List X) (x : X) → find p xs ≡ Some x → Has xs x × (p x ≡ true)
find_has p [] x e = cc
find_has p (y ∷ ys) x e = go (p y) refl (find_has p ys x) e
  where
    go : (b : Bool) → p y ≡ b → (find p ys ≡ Some x → Has ys x × (p x ≡ true)) → cond b (Some y) (find p ys) ≡ Some x →
        Has (y ∷ ys) x × (p x ≡ true)
    go true t below k = let same : y ≡ x = cc in (inl same, subst (λ z. p z ≡ true) same t)
    go false t below k = let r = below k in (inr r.0, r.1)

-- of a row that may be there

pub some-and : {X : Type 0} (test : X → Bool) (o : Option X) (x : X) → o ≡ Some x → test x ≡ true →
    is_some_and test o ≡ true
some-and test o x e t = subst (λ z. is_some_and test z ≡ true) (sym e) t

pub some-and-cases : {X : Type 0} (test : X → Bool) (o : Option X) → is_some_and test o ≡ true →
    (x : X) × (o ≡ Some x) × (test x ≡ true)
some-and-cases test None e = absurd cc
some-and-cases test (Some x) e = (x, refl, e)
