-- What a step does to a table: rows change in their place or go, and further rows come behind them.
use Rattle.std.proofs.Common.{◌≡◌, ℕ, ◌+◌, ◌<◌, ◌≤◌, Bool, true, false, cond, eqb, ltb, ◌⊎◌, inl, inr, List, [], ◌∷◌, ◌++◌, refl, sym, ap, ◌∙◌, subst, arith, Some}
use Rattle.std.specs.Prelude.{map, filter, ⊤, is_some}
use Rattle.std.proofs.lemmas.Bool.Decides.{nat_tests}
use Rattle.swarm_objects.specs.Rows.{Has, change_row, has_row, row_at, with_row}

-- each row stands for one that was there, changed as R says, in their order; the further rows follow
abbrev pub Becomes : {X : Type 0} → (X → X → Type 0) → List X → List X → List X → Type 0
Becomes R more [] new = new ≡ more
Becomes R more (x ∷ xs) [] = Becomes R more xs []
Becomes R more (x ∷ xs) (y ∷ ys) = Becomes R more xs (y ∷ ys) ⊎ (R x y × Becomes R more xs ys)

-- the keys rise, the first from the low number on, and the last is below the high one
abbrev pub RisesBetween : {X : Type 0} → (X → ℕ) → ℕ → ℕ → List X → Type 0
RisesBetween key low high [] = ⊤
RisesBetween key low high (x ∷ xs) = (low ≤ key x) × (key x < high) × RisesBetween key (key x + 1) high xs

-- Becoming.

-- the first row goes
skip : {X : Type 0} (R : X → X → Type 0) (more : List X) (x : X) (xs new : List X) → Becomes R more xs new →
    Becomes R more (x ∷ xs) new
skip R more x xs [] h = h
skip R more x xs (y ∷ ys) h = inl h

pub becomes-same : {X : Type 0} (R : X → X → Type 0) → ((x : X) → R x x) → (xs : List X) → Becomes R [] xs xs
becomes-same R same [] = refl
becomes-same R same (x ∷ xs) = inr (same x, becomes-same R same xs)

pub becomes-map : {X : Type 0} (R : X → X → Type 0) (f : X → X) (xs : List X) → ((x : X) → Has xs x → R x (f x)) →
    Becomes R [] xs (map f xs)
becomes-map R f [] each = refl
becomes-map R f (x ∷ xs) each = inr (each x (inl refl), becomes-map R f xs (λ y h. each y (inr h)))

pub becomes-filter : {X : Type 0} (R : X → X → Type 0) (p : X → Bool) → ((x : X) → R x x) → (xs : List X) →
    Becomes R [] xs (filter p xs)
becomes-filter R p same [] = refl
becomes-filter R p same (x ∷ xs) = go (p x) (becomes-filter R p same xs)
  where
    go : (b : Bool) → Becomes R [] xs (filter p xs) → Becomes R [] (x ∷ xs) (cond b (x ∷ filter p xs) (filter p xs))
    go true h = inr (same x, h)
    go false h = skip R [] x xs (filter p xs) h

pub becomes-more : {X : Type 0} (R : X → X → Type 0) (more old new : List X) → Becomes R [] old new →
    Becomes R more old (new ++ more)
becomes-more R more [] new e = ap (λ z. z ++ more) e
becomes-more R more (x ∷ xs) [] h = skip R more x xs more (becomes-more R more xs [] h)
becomes-more R more (x ∷ xs) (y ∷ ys) (inl h) = inl (becomes-more R more xs (y ∷ ys) h)
becomes-more R more (x ∷ xs) (y ∷ ys) (inr h) = inr (h.0, becomes-more R more xs ys h.1)

-- one after the other
pub becomes-then : {X : Type 0} (R : X → X → Type 0) → ((x y z : X) → R x y → R y z → R x z) → (m1 m2 a b c : List X) →
    Becomes R m1 a b → Becomes R m2 b c → (m : List X) × Becomes R m a c × Becomes R m2 m1 m
becomes-then R join m1 m2 [] b c e h = (c, refl, subst (λ z. Becomes R m2 z c) e h)
becomes-then R join m1 m2 (x ∷ xs) [] c h k =
    let r = becomes-then R join m1 m2 xs [] c h k in (r.0, skip R r.0 x xs c r.1, r.2)
becomes-then R join m1 m2 (x ∷ xs) (y ∷ ys) c (inl h) k =
    let r = becomes-then R join m1 m2 xs (y ∷ ys) c h k in (r.0, skip R r.0 x xs c r.1, r.2)
becomes-then R join m1 m2 (x ∷ xs) (y ∷ ys) [] (inr h) k =
    let r = becomes-then R join m1 m2 xs ys [] h.1 k in (r.0, r.1, r.2)
becomes-then R join m1 m2 (x ∷ xs) (y ∷ ys) (z ∷ zs) (inr h) (inl k) =
    let r = becomes-then R join m1 m2 xs ys (z ∷ zs) h.1 k in (r.0, inl r.1, r.2)
becomes-then R join m1 m2 (x ∷ xs) (y ∷ ys) (z ∷ zs) (inr h) (inr k) =
    let r = becomes-then R join m1 m2 xs ys zs h.1 k.1 in (r.0, inr (join x y z h.0 k.0, r.1), r.2)

-- a row of the new list was there, or came
pub becomes-cases : {X : Type 0} (R : X → X → Type 0) (more old new : List X) → Becomes R more old new → (y : X) →
    Has new y → ((x : X) × Has old x × R x y) ⊎ Has more y
becomes-cases R more [] new e y h = inr (subst (λ z. Has z y) e h)
becomes-cases R more (x ∷ xs) [] b y h = absurd h
becomes-cases R more (x ∷ xs) (z ∷ zs) (inl b) y h =
    elim (becomes-cases R more xs (z ∷ zs) b y h) [ inl r ↦ inl (r.0, inr r.1, r.2) | inr m ↦ inr m ]
becomes-cases R more (x ∷ xs) (z ∷ zs) (inr b) y (inl e) = inl (x, inl refl, subst (R x) e b.0)
becomes-cases R more (x ∷ xs) (z ∷ zs) (inr b) y (inr h) =
    elim (becomes-cases R more xs zs b.1 y h) [ inl r ↦ inl (r.0, inr r.1, r.2) | inr m ↦ inr m ]

-- Keys.

pub between-lower : {X : Type 0} (key : X → ℕ) (low mid high : ℕ) (xs : List X) → low ≤ mid → RisesBetween key mid high xs →
    RisesBetween key low high xs
between-lower key low mid high [] le h = tt
between-lower key low mid high (x ∷ xs) le h = (omega (arith, le, h.0), h.1, h.2)

pub between-higher : {X : Type 0} (key : X → ℕ) (low mid high : ℕ) (xs : List X) → mid ≤ high → RisesBetween key low mid xs →
    RisesBetween key low high xs
between-higher key low mid high [] le h = tt
between-higher key low mid high (x ∷ xs) le h =
    (h.0, omega (arith, le, h.1), between-higher key (key x + 1) mid high xs le h.2)

pub between-has : {X : Type 0} (key : X → ℕ) (low high : ℕ) (xs : List X) (x : X) → RisesBetween key low high xs → Has xs x →
    (low ≤ key x) × (key x < high)
between-has key low high [] x r h = absurd h
between-has key low high (y ∷ ys) x r (inl e) =
    (subst (λ z. low ≤ key z) e r.0, subst (λ z. key z < high) e r.1)
between-has key low high (y ∷ ys) x r (inr h) =
    let rest = between-has key (key y + 1) high ys x r.2 h in (omega (arith, rest.0, r.0), rest.1)

-- a key is one row's alone
pub between-one : {X : Type 0} (key : X → ℕ) (low high : ℕ) (xs : List X) (x y : X) → RisesBetween key low high xs → Has xs x →
    Has xs y → key x ≡ key y → x ≡ y
between-one key low high [] x y r h k e = absurd h
between-one key low high (z ∷ zs) x y r (inl a) (inl b) e = sym a ∙ b
between-one key low high (z ∷ zs) x y r (inl a) (inr k) e =
    let above = between-has key (key z + 1) high zs y r.2 k in
    absurd (omega (arith, above.0, e, ap key a))
between-one key low high (z ∷ zs) x y r (inr h) (inl b) e =
    let above = between-has key (key z + 1) high zs x r.2 h in
    absurd (omega (arith, above.0, e, ap key b))
between-one key low high (z ∷ zs) x y r (inr h) (inr k) e = between-one key (key z + 1) high zs x y r.2 h k e

-- rows that keep their keys, and further ones above them, rise
pub between-becomes : {X : Type 0} (R : X → X → Type 0) (key : X → ℕ) → ((x y : X) → R x y → key y ≡ key x) →
    (low mid high : ℕ) (more old new : List X) → low ≤ mid → mid ≤ high → RisesBetween key low mid old →
    RisesBetween key mid high more → Becomes R more old new → RisesBetween key low high new
between-becomes R key keeps low mid high more [] new le up r m e =
    subst (λ z. RisesBetween key low high z) (sym e) (between-lower key low mid high more le m)
between-becomes R key keeps low mid high more (x ∷ xs) [] le up r m b = tt
between-becomes R key keeps low mid high more (x ∷ xs) (y ∷ ys) le up r m (inl b) =
    between-lower key low (key x + 1) high (y ∷ ys) (omega (arith, r.0))
    (between-becomes R key keeps (key x + 1) mid high more xs (y ∷ ys) (omega (arith, r.1)) up r.2 m b)
between-becomes R key keeps low mid high more (x ∷ xs) (y ∷ ys) le up r m (inr b) =
    let same = keeps x y b.0 in (
      omega (arith, same, r.0),
      omega (arith, same, r.1, up),
      subst (λ k. RisesBetween key (k + 1) high ys) (sym same)
          (between-becomes R key keeps (key x + 1) mid high more xs ys (omega (arith, r.1)) up r.2 m b.1),
    )

-- the bound may be higher
pub rows-stay : {X : Type 0} (key : X → ℕ) (next high : ℕ) (rows : List X) → next ≤ high → RisesBetween key 1 next rows →
    RisesBetween key 1 high rows
rows-stay key next high rows up rises = between-higher key 1 next high rows up rises

-- rows that keep their keys
pub between-map : {X : Type 0} (key : X → ℕ) (low high : ℕ) (f : X → X) (rows : List X) → ((x : X) → key (f x) ≡ key x) →
    RisesBetween key low high rows → RisesBetween key low high (map f rows)
between-map key low high f [] same rises = tt
between-map key low high f (x ∷ xs) same rises = (
  omega (arith, same x, rises.0),
  omega (arith, same x, rises.1),
  subst (λ k. RisesBetween key (k + 1) high (map f xs)) (sym (same x)) (between-map key (key x + 1) high f xs same rises.2),
)

-- the row with a number is changed
pub between-change : {X : Type 0} (key : X → ℕ) (low high id : ℕ) (f : X → X) (rows : List X) → ((x : X) → key (f x) ≡ key x) →
    RisesBetween key low high rows → RisesBetween key low high (change_row key id f rows)
between-change key low high id f rows same rises =
    between-map key low high (λ x. cond (eqb (key x) id) (f x) x) rows (λ x. go x (eqb (key x) id)) rises
  where
    go : (x : _) (b : Bool) → key (cond b (f x) x) ≡ key x
    go x true = same x
    go x false = refl

-- some rows go
pub between-filter : {X : Type 0} (key : X → ℕ) (low high : ℕ) (p : X → Bool) (rows : List X) → RisesBetween key low high rows →
    RisesBetween key low high (filter p rows)
between-filter key low high p [] rises = tt
between-filter key low high p (x ∷ xs) rises = go (p x) (between-filter key (key x + 1) high p xs rises.2)
  where
    go : (b : Bool) → RisesBetween key (key x + 1) high (filter p xs) →
        RisesBetween key low high (cond b (x ∷ filter p xs) (filter p xs))
    go true rest = (rises.0, rises.1, rest)
    go false rest = between-lower key low (key x + 1) high (filter p xs) (omega (arith, rises.0)) rest

-- a row more behind them
pub between-push : {X : Type 0} (key : X → ℕ) (low next : ℕ) (new : X) (rows : List X) → low ≤ next → key new ≡ next →
    RisesBetween key low next rows → RisesBetween key low (next + 1) (rows ++ new ∷ [])
between-push key low next new [] le is rises = (omega (arith, is, le), omega (arith, is), tt)
between-push key low next new (x ∷ xs) le is rises =
    (rises.0, omega (arith, rises.1), between-push key (key x + 1) next new xs (omega (arith, rises.1)) is rises.2)

-- a row more among them
pub between-with_row : {X : Type 0} (key : X → ℕ) (low high : ℕ) (new : X) (rows : List X) → low ≤ key new → key new < high →
    RisesBetween key low high rows → RisesBetween key low high (with_row key new rows)
between-with_row key low high new [] least most rises = (least, most, tt)
between-with_row key low high new (x ∷ xs) least most rises =
    go (ltb (key new) (key x)) (eqb (key new) (key x)) refl refl
    (λ above. between-with_row key (key x + 1) high new xs above most rises.2)
  where
    go : (less same : Bool) → ltb (key new) (key x) ≡ less → eqb (key new) (key x) ≡ same →
        (key x + 1 ≤ key new → RisesBetween key (key x + 1) high (with_row key new xs)) →
        RisesBetween key low high (cond less (new ∷ x ∷ xs) (cond same (new ∷ xs) (x ∷ with_row key new xs)))
    go true same l s rest =
        let below : key new < key x = grind (arith, nat_tests, l) in
        (least, most, (omega (arith, below), rises.1, rises.2))
    go false true l s rest =
        let is : key new ≡ key x = grind (arith, nat_tests, s) in
        (least, most, subst (λ k. RisesBetween key (k + 1) high xs) (sym is) rises.2)
    go false false l s rest =
        let above : key x + 1 ≤ key new = grind (arith, nat_tests, l, s) in
        (rises.0, rises.1, rest above)

-- Changes of rows.

-- the row with this number is changed
pub becomes-change : {X : Type 0} (R : X → X → Type 0) (key : X → ℕ) (low high : ℕ) (f : X → X) (xs : List X) (x : X) →
    ((y : X) → R y y) → RisesBetween key low high xs → Has xs x → R x (f x) →
    Becomes R [] xs (change_row key (key x) f xs)
becomes-change R key low high f xs x same rises has one =
    becomes-map R (λ y. cond (eqb (key y) (key x)) (f y) y) xs (λ y h. go y h (eqb (key y) (key x)) refl)
  where
    go : (y : _) → Has xs y → (b : Bool) → eqb (key y) (key x) ≡ b → R y (cond b (f y) y)
    go y h true e =
        let is : x ≡ y = between-one key low high xs x y rises has h (grind (arith, nat_tests, e)) in
        subst (λ z. R z (f z)) is one
    go y h false e = same y

-- whatever row has the number
pub becomes-change_any : {X : Type 0} (R : X → X → Type 0) (key : X → ℕ) (id : ℕ) (f : X → X) (xs : List X) →
    ((y : X) → R y y) → ((y : X) → Has xs y → R y (f y)) → Becomes R [] xs (change_row key id f xs)
becomes-change_any R key id f xs same each =
    becomes-map R (λ y. cond (eqb (key y) id) (f y) y) xs (λ y h. go y h (eqb (key y) id))
  where
    go : (y : _) → Has xs y → (b : Bool) → R y (cond b (f y) y)
    go y h true = each y h
    go y h false = same y

-- whatever row has the number, which the change may lean on
pub becomes-change_at : {X : Type 0} (R : X → X → Type 0) (key : X → ℕ) (id : ℕ) (f : X → X) (xs : List X) →
    ((y : X) → R y y) → ((y : X) → Has xs y → key y ≡ id → R y (f y)) → Becomes R [] xs (change_row key id f xs)
becomes-change_at R key id f xs same each =
    becomes-map R (λ y. cond (eqb (key y) id) (f y) y) xs (λ y h. go y h (eqb (key y) id) refl)
  where
    go : (y : _) → Has xs y → (b : Bool) → eqb (key y) id ≡ b → R y (cond b (f y) y)
    go y h true e = each y h (grind (arith, nat_tests, e))
    go y h false e = same y

-- each row that passes a test is changed
pub becomes-where : {X : Type 0} (R : X → X → Type 0) (test : X → Bool) (f : X → X) (xs : List X) → ((y : X) → R y y) →
    ((y : X) → Has xs y → test y ≡ true → R y (f y)) → Becomes R [] xs (map (λ y. cond (test y) (f y) y) xs)
becomes-where R test f xs same each =
    becomes-map R (λ y. cond (test y) (f y) y) xs (λ y h. go y h (test y) refl)
  where
    go : (y : _) → Has xs y → (b : Bool) → test y ≡ b → R y (cond b (f y) y)
    go y h true e = each y h e
    go y h false e = same y

-- a row that is there is found by its number
pub has_row-Has : {X : Type 0} (key : X → ℕ) (xs : List X) (x : X) (id : ℕ) → Has xs x → key x ≡ id → has_row key id xs ≡ true
has_row-Has key [] x id h e = absurd h
has_row-Has key (y ∷ ys) x id h e = go (eqb (key y) id) refl h (has_row-Has key ys x id)
  where
    go : (b : Bool) → eqb (key y) id ≡ b → Has (y ∷ ys) x → (Has ys x → key x ≡ id → has_row key id ys ≡ true) →
        is_some (cond b (Some y) (row_at key id ys)) ≡ true
    go true t h rest = refl
    go false t (inl same) rest = absurd (let wrong : eqb (key y) id ≡ true = grind (arith, nat_tests, e, ap key same) in
        let both : false ≡ true = sym t ∙ wrong in cc)
    go false t (inr h) rest = rest h e
