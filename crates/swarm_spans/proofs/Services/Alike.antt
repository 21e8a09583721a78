-- Lists whose items show the same, one by one: what reads no more than that is the same of both.
use Rattle.std.proofs.Common.{Bool, List, None, Option, Some, [], ap, cond, eqb, false, ltb, fold, refl, sym, true, ℕ, arith, ◌∙◌, ◌∷◌, ◌≡◌}
use Rattle.std.proofs.lemmas.Bool.Decides.{nat_tests}
use Rattle.std.proofs.lemmas.List.Sums.{sum_by-cons}
use Rattle.std.specs.List.{last_or, list_any}
use Rattle.std.specs.Option.{option_map}
use Rattle.std.specs.Prelude.{count_by, filter, find, map, ◌||◌}
use Rattle.swarm_objects.proofs.RowLemmas.{RisesFrom-filter, row_at-None_below}
use Rattle.swarm_objects.specs.Rows.{RisesFrom, is_some_and, row_at}

-- Rising rows of which each number shows the same.

drop-first : {X S : Type 0} (key : X → ℕ) (show : X → S) (x y : X) (xs ys : List X) → RisesFrom key (key x) xs
    → RisesFrom key (key y) ys → key x ≡ key y
    → ((id : ℕ) → option_map show (row_at key id (x ∷ xs)) ≡ option_map show (row_at key id (y ∷ ys)))
    → (id : ℕ) → option_map show (row_at key id xs) ≡ option_map show (row_at key id ys)
drop-first {X} {S} key show x y xs ys r q same each id = go (eqb (key x) id) refl (eqb (key y) id) refl (each id)
  where
    go : (a : Bool) → eqb (key x) id ≡ a → (b : Bool) → eqb (key y) id ≡ b
        → option_map show (cond a (Some x) (row_at key id xs)) ≡ option_map show (cond b (Some y) (row_at key id ys))
        → option_map show (row_at key id xs) ≡ option_map show (row_at key id ys)
    go false e false f k = k
    go true e b f k =
        let one : row_at key id xs ≡ None = row_at-None_below key (key x) id xs r (grind (arith, nat_tests, e)) in
        let two : row_at key id ys ≡ None = row_at-None_below key (key y) id ys q (grind (arith, nat_tests, e, same)) in
        ap (option_map show) one ∙ sym (ap (option_map show) two)
    go false e true f k = absurd (grind (arith, nat_tests, e, f, same))

pub shown-rows : {X S : Type 0} (key : X → ℕ) (show : X → S) (n m : ℕ) (xs ys : List X) → RisesFrom key n xs
    → RisesFrom key m ys
    → ((id : ℕ) → option_map show (row_at key id xs) ≡ option_map show (row_at key id ys)) → map show xs ≡ map show ys
shown-rows key show n m [] [] r q each = refl
shown-rows key show n m (x ∷ xs) [] r q each =
    let self : eqb (key x) (key x) ≡ true = grind (arith, nat_tests) in
    let e = ap (λ b. option_map show (cond b (Some x) (row_at key (key x) xs))) (sym self) ∙ each (key x) in
    absurd cc
shown-rows key show n m [] (y ∷ ys) r q each =
    let self : eqb (key y) (key y) ≡ true = grind (arith, nat_tests) in
    let e = each (key y) ∙ ap (λ b. option_map show (cond b (Some y) (row_at key (key y) ys))) self in
    absurd cc
shown-rows {X} {S} key show n m (x ∷ xs) (y ∷ ys) r q each =
    let same : key x ≡ key y = heads (eqb (key y) (key x)) refl (eqb (key x) (key y)) refl (each (key x)) (each (key y)) in
    let first : show x ≡ show y = tops same (each (key x)) in
    ap (λ z. z ∷ map show xs) first
    ∙ ap (λ zs. show y ∷ zs)
    (shown-rows key show (key x) (key y) xs ys r.1 q.1 (drop-first key show x y xs ys r.1 q.1 same each))
  where
    self : (z : X) → eqb (key z) (key z) ≡ true
    self z = grind (arith, nat_tests)

    tops : key x ≡ key y → option_map show (row_at key (key x) (x ∷ xs)) ≡ option_map show (row_at key (key x) (y ∷ ys))
        → show x ≡ show y
    tops same k =
        let one = ap (λ b. option_map show (cond b (Some x) (row_at key (key x) xs))) (self x) in
        let is : eqb (key y) (key x) ≡ true = grind (arith, nat_tests, same) in
        let two = ap (λ b. option_map show (cond b (Some y) (row_at key (key x) ys))) is in
        let both : Some (show x) ≡ Some (show y) = sym one ∙ k ∙ two in
        cc

    missing : {A : Type 0} (z : X) (zs : List X) (o : Option X)
        → option_map show (row_at key (key z) (z ∷ zs)) ≡ option_map show o → o ≡ None → A
    missing z zs o k none =
        let one = ap (λ b. option_map show (cond b (Some z) (row_at key (key z) zs))) (self z) in
        let both : Some (show z) ≡ None = sym one ∙ k ∙ ap (option_map show) none in
        absurd cc

    heads : (a : Bool) → eqb (key y) (key x) ≡ a → (b : Bool) → eqb (key x) (key y) ≡ b
        → option_map show (row_at key (key x) (x ∷ xs)) ≡ option_map show (cond a (Some y) (row_at key (key x) ys))
        → option_map show (cond b (Some x) (row_at key (key y) xs)) ≡ option_map show (row_at key (key y) (y ∷ ys))
        → key x ≡ key y
    heads true e b f k l = grind (arith, nat_tests, e)
    heads false e true f k l = grind (arith, nat_tests, f)
    heads false e false f k l = apart (ltb (key x) (key y)) refl
      where
        apart : (c : Bool) → ltb (key x) (key y) ≡ c → key x ≡ key y
        apart true lt =
            missing x xs (row_at key (key x) ys) k
            (row_at-None_below key (key y) (key x) ys q.1 (grind (arith, nat_tests, lt)))
        apart false ge =
            missing y ys (row_at key (key y) xs) (sym l)
            (row_at-None_below key (key x) (key y) xs r.1 (grind (arith, nat_tests, ge)))

-- Of rows that pass a test: a look-up among them.

abbrev pub keep : {X : Type 0} → (X → Bool) → Option X → Option X
keep p None = None
keep p (Some x) = cond (p x) (Some x) None

pub row_at-filter : {X : Type 0} (key : X → ℕ) (n id : ℕ) (p : X → Bool) (rows : List X) → RisesFrom key n rows
    → row_at key id (filter p rows) ≡ keep p (row_at key id rows)
row_at-filter key n id p [] r = refl
row_at-filter {X} key n id p (x ∷ rows) r = go (p x) refl (eqb (key x) id) refl (row_at-filter key (key x) id p rows r.1)
  where
    go : (a : Bool) → p x ≡ a → (b : Bool) → eqb (key x) id ≡ b
        → row_at key id (filter p rows) ≡ keep p (row_at key id rows)
        → row_at key id (cond a (x ∷ filter p rows) (filter p rows)) ≡ keep p (cond b (Some x) (row_at key id rows))
    go true e true f k =
        ap (λ b. cond b (Some x) (row_at key id (filter p rows))) f ∙ sym (ap (λ b. cond b (Some x) None) e)
    go true e false f k = ap (λ b. cond b (Some x) (row_at key id (filter p rows))) f ∙ k
    go false e true f k =
        row_at-None_below key (key x) id (filter p rows) (RisesFrom-filter key (key x) p rows r.1)
        (grind (arith, nat_tests, f))
        ∙ sym (ap (λ b. cond b (Some x) None) e)
    go false e false f k = k

-- What reads no more than is shown.

abbrev pub Reads : {X S A : Type 0} → (X → S) → (X → A) → Type 0
Reads {X} show f = (x y : X) → show x ≡ show y → f x ≡ f y

first-same : {S : Type 0} (a b : S) (xs ys : List S) → (a ∷ xs) ≡ (b ∷ ys) → a ≡ b
first-same a b xs ys e = cc

rest-same : {S : Type 0} (a b : S) (xs ys : List S) → (a ∷ xs) ≡ (b ∷ ys) → xs ≡ ys
rest-same a b xs ys e = cc

pub filter-alike : {X S : Type 0} (show : X → S) (p : X → Bool) (xs ys : List X) → Reads show p
    → map show xs ≡ map show ys → map show (filter p xs) ≡ map show (filter p ys)
filter-alike show p [] [] same e = refl
filter-alike show p [] (y ∷ ys) same e = absurd cc
filter-alike show p (x ∷ xs) [] same e = absurd cc
filter-alike show p (x ∷ xs) (y ∷ ys) same e =
    let head = first-same (show x) (show y) (map show xs) (map show ys) e in
    let tail = rest-same (show x) (show y) (map show xs) (map show ys) e in
    go (p x) (p y) (same x y head) head (filter-alike show p xs ys same tail)
  where
    go : (a b : Bool) → a ≡ b → show x ≡ show y → map show (filter p xs) ≡ map show (filter p ys)
        → map show (cond a (x ∷ filter p xs) (filter p xs)) ≡ map show (cond b (y ∷ filter p ys) (filter p ys))
    go true true q h k = ap (λ z. z ∷ map show (filter p xs)) h ∙ ap (λ zs. show y ∷ zs) k
    go false false q h k = k
    go true false q h k = absurd cc
    go false true q h k = absurd cc

pub any-alike : {X S : Type 0} (show : X → S) (p : X → Bool) (xs ys : List X) → Reads show p
    → map show xs ≡ map show ys → list_any p xs ≡ list_any p ys
any-alike show p [] [] same e = refl
any-alike show p [] (y ∷ ys) same e = absurd cc
any-alike show p (x ∷ xs) [] same e = absurd cc
any-alike show p (x ∷ xs) (y ∷ ys) same e =
    let head = first-same (show x) (show y) (map show xs) (map show ys) e in
    let tail = rest-same (show x) (show y) (map show xs) (map show ys) e in
    ap (λ b. b || list_any p xs) (same x y head) ∙ ap (λ b. p y || b) (any-alike show p xs ys same tail)

pub map-alike : {X S A : Type 0} (show : X → S) (f : X → A) (xs ys : List X) → Reads show f
    → map show xs ≡ map show ys → map f xs ≡ map f ys
map-alike show f [] [] same e = refl
map-alike show f [] (y ∷ ys) same e = absurd cc
map-alike show f (x ∷ xs) [] same e = absurd cc
map-alike show f (x ∷ xs) (y ∷ ys) same e =
    let head = first-same (show x) (show y) (map show xs) (map show ys) e in
    let tail = rest-same (show x) (show y) (map show xs) (map show ys) e in
    ap (λ z. z ∷ map f xs) (same x y head) ∙ ap (λ zs. f y ∷ zs) (map-alike show f xs ys same tail)

pub fold-alike : {X S A B : Type 0} (show : X → S) (f : X → B) (g : A → B → A) (a : A) (xs ys : List X) → Reads show f
    → map show xs ≡ map show ys → fold (λ z x. g z (f x)) a xs ≡ fold (λ z x. g z (f x)) a ys
fold-alike show f g a [] [] same e = refl
fold-alike show f g a [] (y ∷ ys) same e = absurd cc
fold-alike show f g a (x ∷ xs) [] same e = absurd cc
fold-alike show f g a (x ∷ xs) (y ∷ ys) same e =
    let head = first-same (show x) (show y) (map show xs) (map show ys) e in
    let tail = rest-same (show x) (show y) (map show xs) (map show ys) e in
    fold-alike show f g (g a (f x)) xs ys same tail
    ∙ ap (λ b. fold (λ z x. g z (f x)) (g a b) ys) (same x y head)

pub last-alike : {X S : Type 0} (show : X → S) (o p : Option X) (xs ys : List X) → option_map show o ≡ option_map show p
    → map show xs ≡ map show ys → option_map show (last_or o xs) ≡ option_map show (last_or p ys)
last-alike show o p [] [] same e = same
last-alike show o p [] (y ∷ ys) same e = absurd cc
last-alike show o p (x ∷ xs) [] same e = absurd cc
last-alike show o p (x ∷ xs) (y ∷ ys) same e =
    let head = first-same (show x) (show y) (map show xs) (map show ys) e in
    let tail = rest-same (show x) (show y) (map show xs) (map show ys) e in
    last-alike show (Some x) (Some y) xs ys (ap Some head) tail

pub find-alike : {X S : Type 0} (show : X → S) (p : X → Bool) (xs ys : List X) → Reads show p
    → map show xs ≡ map show ys → option_map show (find p xs) ≡ option_map show (find p ys)
find-alike show p [] [] same e = refl
find-alike show p [] (y ∷ ys) same e = absurd cc
find-alike show p (x ∷ xs) [] same e = absurd cc
find-alike show p (x ∷ xs) (y ∷ ys) same e =
    let head = first-same (show x) (show y) (map show xs) (map show ys) e in
    let tail = rest-same (show x) (show y) (map show xs) (map show ys) e in
    go (p x) (p y) (same x y head) head (find-alike show p xs ys same tail)
  where
    go : (a b : Bool) → a ≡ b → show x ≡ show y → option_map show (find p xs) ≡ option_map show (find p ys)
        → option_map show (cond a (Some x) (find p xs)) ≡ option_map show (cond b (Some y) (find p ys))
    go true true q h k = ap Some h
    go false false q h k = k
    go true false q h k = absurd cc
    go false true q h k = absurd cc

pub some-alike : {X S : Type 0} (show : X → S) (p : X → Bool) (o q : Option X) → Reads show p
    → option_map show o ≡ option_map show q → is_some_and p o ≡ is_some_and p q
some-alike show p None None same e = refl
some-alike show p None (Some y) same e = absurd cc
some-alike show p (Some x) None same e = absurd cc
some-alike show p (Some x) (Some y) same e = let one : show x ≡ show y = cc in same x y one

pub count-alike : {X S : Type 0} (show : X → S) (p : X → Bool) (xs ys : List X) → Reads show p
    → map show xs ≡ map show ys → count_by p xs ≡ count_by p ys
count-alike show p [] [] same e = refl
count-alike show p [] (y ∷ ys) same e = absurd cc
count-alike show p (x ∷ xs) [] same e = absurd cc
count-alike show p (x ∷ xs) (y ∷ ys) same e =
    let head = first-same (show x) (show y) (map show xs) (map show ys) e in
    let tail = rest-same (show x) (show y) (map show xs) (map show ys) e in
    let one = ap {B = ℕ} (λ b. cond b 1 0) (same x y head) in
    omega (
      arith,
      sum_by-cons (λ z. cond (p z) 1 0) x xs,
      sum_by-cons (λ z. cond (p z) 1 0) y ys,
      one,
      count-alike show p xs ys same tail,
    )
