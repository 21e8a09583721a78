-- Two lists by rising number are gone through number by number.
use Rattle.std.proofs.Common.{◌≡◌, ℕ, ◌+◌, ◌<◌, length, append-nil, Bool, true, false, cond, eqb, ltb, List, [], ◌∷◌, ◌++◌, refl, ap, sym, ◌∙◌, subst, Option, Some, None, inl, inr, arith, append_assoc, min}
use Rattle.std.specs.Prelude.{flat_map, map}
use Rattle.std.proofs.lemmas.Bool.Decides.{nat_tests}
use Rattle.swarm_assign.specs.Inside.Merging.{head_at, least_key, merged, rest_at}
use Rattle.swarm_objects.proofs.RowLemmas.{row_at-None_below}
use Rattle.swarm_objects.proofs.RowChanges.{rising_from}
use Rattle.swarm_objects.proofs.Rising.{AllAbove, above-append, above-rising, keys-above, rising-both, rising-first, rising-second}
use Rattle.swarm_objects.specs.Rows.{Has, IsRising, RisesFrom, rising, row_at}

-- Rows behind a number.

-- a look-up of a greater number passes over the first row
row-later : {X : Type 0} (key : X → ℕ) (j : ℕ) (x : X) (rows : List X) → key x < j →
    row_at key j (x ∷ rows) ≡ row_at key j rows
row-later key j x rows lt =
    let other : eqb (key x) j ≡ false = grind (arith, nat_tests) in
    ap (λ b. cond b (Some x) (row_at key j rows)) other

row-first : {X : Type 0} (key : X → ℕ) (x : X) (rows : List X) → row_at key (key x) (x ∷ rows) ≡ Some x
row-first key x rows =
    let same : eqb (key x) (key x) ≡ true = grind (arith, nat_tests) in
    ap (λ b. cond b (Some x) (row_at key (key x) rows)) same

row-none : {X : Type 0} (key : X → ℕ) (n : ℕ) (rows : List X) → RisesFrom key n rows → row_at key n rows ≡ None
row-none key n rows r = row_at-None_below key n n rows r (omega arith)

pub flat_map-same : {X Y : Type 0} (f g : X → List Y) (xs : List X) → ((x : X) → Has xs x → f x ≡ g x) →
    flat_map f xs ≡ flat_map g xs
flat_map-same f g [] same = refl
flat_map-same f g (x ∷ xs) same =
    ap (λ ys. ys ++ flat_map f xs) (same x (inl refl)) ∙ ap (λ ys. g x ++ ys) (flat_map-same f g xs (λ y h. same y (inr h)))

-- What the least number gives comes first, and then what the rows behind it give.

module _ {X Y Z : Type 0} (kx : X → ℕ) (ky : Y → ℕ) (give : ℕ → Option X → Option Y → List Z) where
  -- what a number gives
  abbrev at_number : List X → List Y → ℕ → List Z
  at_number xs ys k = give k (row_at kx k xs) (row_at ky k ys)

  above-left : (n : ℕ) (xs : List X) (ys : List Y) → RisesFrom kx n xs → RisesFrom ky n ys →
      AllAbove n (rising (map kx xs ++ map ky ys))
  above-left n xs ys r q =
      above-rising n (map kx xs ++ map ky ys)
      (above-append n (map kx xs) (map ky ys) (keys-above kx n xs r) (keys-above ky n ys q))

  pub merged_first : (x : X) (xs : List X) (ys : List Y) → RisesFrom kx (kx x) xs → RisesFrom ky (kx x) ys →
      merged kx ky give (x ∷ xs) ys ≡ give (kx x) (Some x) None ++ merged kx ky give xs ys
  merged_first x xs ys r q =
      ap (flat_map (at_number (x ∷ xs) ys))
      (rising-first (kx x) (map kx xs) (map ky ys) (keys-above kx (kx x) xs r) (keys-above ky (kx x) ys q))
      ∙ ap (λ o. give (kx x) o (row_at ky (kx x) ys) ++ flat_map (at_number (x ∷ xs) ys) left) (row-first kx x xs)
      ∙ ap (λ o. give (kx x) (Some x) o ++ flat_map (at_number (x ∷ xs) ys) left) (row-none ky (kx x) ys q)
      ∙ ap (λ zs. give (kx x) (Some x) None ++ zs)
      (flat_map-same (at_number (x ∷ xs) ys) (at_number xs ys) left
      (λ j h. ap (λ o. give j o (row_at ky j ys)) (row-later kx j x xs (above-left (kx x) xs ys r q j h))))
    where
      left : List ℕ
      left = rising (map kx xs ++ map ky ys)

  pub merged_second : (xs : List X) (y : Y) (ys : List Y) → RisesFrom kx (ky y) xs → RisesFrom ky (ky y) ys →
      merged kx ky give xs (y ∷ ys) ≡ give (ky y) None (Some y) ++ merged kx ky give xs ys
  merged_second xs y ys r q =
      ap (flat_map (at_number xs (y ∷ ys)))
      (rising-second (ky y) (map kx xs) (map ky ys) (keys-above kx (ky y) xs r) (keys-above ky (ky y) ys q))
      ∙ ap (λ o. give (ky y) o (row_at ky (ky y) (y ∷ ys)) ++ flat_map (at_number xs (y ∷ ys)) left)
      (row-none kx (ky y) xs r)
      ∙ ap (λ o. give (ky y) None o ++ flat_map (at_number xs (y ∷ ys)) left) (row-first ky y ys)
      ∙ ap (λ zs. give (ky y) None (Some y) ++ zs)
      (flat_map-same (at_number xs (y ∷ ys)) (at_number xs ys) left
      (λ j h. ap (λ o. give j (row_at kx j xs) o) (row-later ky j y ys (above-left (ky y) xs ys r q j h))))
    where
      left : List ℕ
      left = rising (map kx xs ++ map ky ys)

  both-same : (x : X) (xs : List X) (y : Y) (ys : List Y) (id : ℕ) → kx x ≡ id → ky y ≡ id → RisesFrom kx id xs →
      RisesFrom ky id ys →
      merged kx ky give (x ∷ xs) (y ∷ ys) ≡ give id (Some x) (Some y) ++ merged kx ky give xs ys
  both-same x xs y ys id e f r q =
      ap (λ k. flat_map (at_number (x ∷ xs) (y ∷ ys)) (rising ((k ∷ map kx xs) ++ ky y ∷ map ky ys))) e
      ∙ ap (λ k. flat_map (at_number (x ∷ xs) (y ∷ ys)) (rising ((id ∷ map kx xs) ++ k ∷ map ky ys))) f
      ∙ ap (flat_map (at_number (x ∷ xs) (y ∷ ys)))
      (rising-both id (map kx xs) (map ky ys) (keys-above kx id xs r) (keys-above ky id ys q))
      ∙ ap (λ o. give id o (row_at ky id (y ∷ ys)) ++ flat_map (at_number (x ∷ xs) (y ∷ ys)) left) one
      ∙ ap (λ o. give id (Some x) o ++ flat_map (at_number (x ∷ xs) (y ∷ ys)) left) two
      ∙ ap (λ zs. give id (Some x) (Some y) ++ zs)
      (flat_map-same (at_number (x ∷ xs) (y ∷ ys)) (at_number xs ys) left
      (λ j h.
      ap (λ o. give j o (row_at ky j (y ∷ ys))) (row-later kx j x xs (subst (λ k. k < j) (sym e) (over j h)))
      ∙ ap (λ o. give j (row_at kx j xs) o) (row-later ky j y ys (subst (λ k. k < j) (sym f) (over j h)))))
    where
      left : List ℕ
      left = rising (map kx xs ++ map ky ys)

      over : AllAbove id left
      over = above-left id xs ys r q

      one : row_at kx id (x ∷ xs) ≡ Some x
      one = ap (λ k. row_at kx k (x ∷ xs)) (sym e) ∙ row-first kx x xs

      two : row_at ky id (y ∷ ys) ≡ Some y
      two = ap (λ k. row_at ky k (y ∷ ys)) (sym f) ∙ row-first ky y ys

  pub merged_both : (x : X) (xs : List X) (y : Y) (ys : List Y) → ky y ≡ kx x → RisesFrom kx (kx x) xs →
      RisesFrom ky (ky y) ys →
      merged kx ky give (x ∷ xs) (y ∷ ys) ≡ give (kx x) (Some x) (Some y) ++ merged kx ky give xs ys
  merged_both x xs y ys e r q =
      both-same x xs y ys (kx x) refl e r (subst (λ k. RisesFrom ky k ys) e q)

-- Which of two lists begins with the least number.

pub data Meets (X Y : Type 0) (kx : X → ℕ) (ky : Y → ℕ) : List X → List Y → Type 0 where
  neither : Meets X Y kx ky [] []
  first : {x : X} {xs : List X} {ys : List Y} → RisesFrom kx (kx x) xs → RisesFrom ky (kx x) ys →
      Meets X Y kx ky (x ∷ xs) ys
  second : {xs : List X} {y : Y} {ys : List Y} → RisesFrom kx (ky y) xs → RisesFrom ky (ky y) ys →
      Meets X Y kx ky xs (y ∷ ys)
  both : {x : X} {xs : List X} {y : Y} {ys : List Y} → ky y ≡ kx x → RisesFrom kx (kx x) xs → RisesFrom ky (ky y) ys →
      Meets X Y kx ky (x ∷ xs) (y ∷ ys)

pub meets : {X Y : Type 0} (kx : X → ℕ) (ky : Y → ℕ) (xs : List X) (ys : List Y) → IsRising kx xs → IsRising ky ys →
    Meets X Y kx ky xs ys
meets kx ky [] [] r q = neither
meets kx ky [] (y ∷ ys) r q = second tt q
meets kx ky (x ∷ xs) [] r q = first r tt
meets kx ky (x ∷ xs) (y ∷ ys) r q = go (ltb (kx x) (ky y)) refl (ltb (ky y) (kx x)) refl
  where
    go : (a : Bool) → ltb (kx x) (ky y) ≡ a → (b : Bool) → ltb (ky y) (kx x) ≡ b → Meets _ _ kx ky (x ∷ xs) (y ∷ ys)
    go true e b f = first r (grind (arith, nat_tests), q)
    go false e true f = second (grind (arith, nat_tests), r) q
    go false e false f = both (grind (arith, nat_tests)) r q

-- The code's step.

head-none : {X : Type 0} (key : X → ℕ) (n : ℕ) (rows : List X) → RisesFrom key n rows → head_at key n rows ≡ None
head-none key n [] r = refl
head-none key n (x ∷ rows) r =
    let other : eqb (key x) n ≡ false = grind (arith, nat_tests, r.0) in
    ap (λ b. cond b (Some x) None) other

rest-none : {X : Type 0} (key : X → ℕ) (n : ℕ) (rows : List X) → RisesFrom key n rows → rest_at key n rows ≡ rows
rest-none key n [] r = refl
rest-none key n (x ∷ rows) r =
    let other : eqb (key x) n ≡ false = grind (arith, nat_tests, r.0) in
    ap (λ b. cond b rows (x ∷ rows)) other

head-here : {X : Type 0} (key : X → ℕ) (n : ℕ) (x : X) (rows : List X) → key x ≡ n → head_at key n (x ∷ rows) ≡ Some x
head-here key n x rows e =
    let same : eqb (key x) n ≡ true = grind (arith, nat_tests, e) in
    ap (λ b. cond b (Some x) None) same

rest-here : {X : Type 0} (key : X → ℕ) (n : ℕ) (x : X) (rows : List X) → key x ≡ n → rest_at key n (x ∷ rows) ≡ rows
rest-here key n x rows e =
    let same : eqb (key x) n ≡ true = grind (arith, nat_tests, e) in
    ap (λ b. cond b rows (x ∷ rows)) same

least-first : {X Y : Type 0} (kx : X → ℕ) (ky : Y → ℕ) (x : X) (xs : List X) (ys : List Y) → RisesFrom ky (kx x) ys →
    least_key kx ky (x ∷ xs) ys ≡ Some (kx x)
least-first kx ky x xs [] q = refl
least-first kx ky x xs (y ∷ ys) q = let is : min (kx x) (ky y) ≡ kx x = omega (arith, q.0) in ap Some is

least-second : {X Y : Type 0} (kx : X → ℕ) (ky : Y → ℕ) (xs : List X) (y : Y) (ys : List Y) → RisesFrom kx (ky y) xs →
    least_key kx ky xs (y ∷ ys) ≡ Some (ky y)
least-second kx ky [] y ys r = refl
least-second kx ky (x ∷ xs) y ys r = let is : min (kx x) (ky y) ≡ ky y = omega (arith, r.0) in ap Some is

some-number : (n k : ℕ) → Some n ≡ Some k → n ≡ k
some-number n k e = cc

-- the number, the rows behind it, and what it gives
pub record Steps {X Y Z : Type 0} (kx : X → ℕ) (ky : Y → ℕ) (give : ℕ → Option X → Option Y → List Z) (id : ℕ)
    (xs : List X) (ys : List Y) : Type 0 where
  pub gives :
      merged kx ky give xs ys
      ≡ give id (head_at kx id xs) (head_at ky id ys) ++ merged kx ky give (rest_at kx id xs) (rest_at ky id ys)
  pub less : length (rest_at kx id xs) + length (rest_at ky id ys) < length xs + length ys
  pub rises_one : IsRising kx (rest_at kx id xs)
  pub rises_two : IsRising ky (rest_at ky id ys)

step-first : {X Y Z : Type 0} (kx : X → ℕ) (ky : Y → ℕ) (give : ℕ → Option X → Option Y → List Z) (x : X)
    (xs : List X) (ys : List Y) → RisesFrom kx (kx x) xs → RisesFrom ky (kx x) ys → Steps kx ky give (kx x) (x ∷ xs) ys
step-first kx ky give x xs ys r q =
    let h = head-here kx (kx x) x xs refl in
    let t = rest-here kx (kx x) x xs refl in
    let n = head-none ky (kx x) ys q in
    let u = rest-none ky (kx x) ys q in
    record {
      gives =
          merged_first kx ky give x xs ys r q
          ∙ sym (
          ap (λ o. give (kx x) o (head_at ky (kx x) ys)
          ++ merged kx ky give (rest_at kx (kx x) (x ∷ xs)) (rest_at ky (kx x) ys)) h
          ∙ ap (λ o. give (kx x) (Some x) o
          ++ merged kx ky give (rest_at kx (kx x) (x ∷ xs)) (rest_at ky (kx x) ys)) n
          ∙ ap (λ zs. give (kx x) (Some x) None ++ merged kx ky give zs (rest_at ky (kx x) ys)) t
          ∙ ap (λ zs. give (kx x) (Some x) None ++ merged kx ky give xs zs) u);
      less = omega (arith, ap length t, ap length u);
      rises_one = subst (IsRising kx) (sym t) (rising_from kx (kx x) xs r);
      rises_two = subst (IsRising ky) (sym u) (rising_from ky (kx x) ys q);
    }

step-second : {X Y Z : Type 0} (kx : X → ℕ) (ky : Y → ℕ) (give : ℕ → Option X → Option Y → List Z) (xs : List X)
    (y : Y) (ys : List Y) → RisesFrom kx (ky y) xs → RisesFrom ky (ky y) ys → Steps kx ky give (ky y) xs (y ∷ ys)
step-second kx ky give xs y ys r q =
    let h = head-here ky (ky y) y ys refl in
    let t = rest-here ky (ky y) y ys refl in
    let n = head-none kx (ky y) xs r in
    let u = rest-none kx (ky y) xs r in
    record {
      gives =
          merged_second kx ky give xs y ys r q
          ∙ sym (
          ap (λ o. give (ky y) o (head_at ky (ky y) (y ∷ ys))
          ++ merged kx ky give (rest_at kx (ky y) xs) (rest_at ky (ky y) (y ∷ ys))) n
          ∙ ap (λ o. give (ky y) None o
          ++ merged kx ky give (rest_at kx (ky y) xs) (rest_at ky (ky y) (y ∷ ys))) h
          ∙ ap (λ zs. give (ky y) None (Some y) ++ merged kx ky give zs (rest_at ky (ky y) (y ∷ ys))) u
          ∙ ap (λ zs. give (ky y) None (Some y) ++ merged kx ky give xs zs) t);
      less = omega (arith, ap length t, ap length u);
      rises_one = subst (IsRising kx) (sym u) (rising_from kx (ky y) xs r);
      rises_two = subst (IsRising ky) (sym t) (rising_from ky (ky y) ys q);
    }

step-both : {X Y Z : Type 0} (kx : X → ℕ) (ky : Y → ℕ) (give : ℕ → Option X → Option Y → List Z) (x : X)
    (xs : List X) (y : Y) (ys : List Y) → ky y ≡ kx x → RisesFrom kx (kx x) xs → RisesFrom ky (ky y) ys →
    Steps kx ky give (kx x) (x ∷ xs) (y ∷ ys)
step-both kx ky give x xs y ys e r q =
    let h = head-here kx (kx x) x xs refl in
    let t = rest-here kx (kx x) x xs refl in
    let n = head-here ky (kx x) y ys e in
    let u = rest-here ky (kx x) y ys e in
    record {
      gives =
          merged_both kx ky give x xs y ys e r q
          ∙ sym (
          ap (λ o. give (kx x) o (head_at ky (kx x) (y ∷ ys))
          ++ merged kx ky give (rest_at kx (kx x) (x ∷ xs)) (rest_at ky (kx x) (y ∷ ys))) h
          ∙ ap (λ o. give (kx x) (Some x) o
          ++ merged kx ky give (rest_at kx (kx x) (x ∷ xs)) (rest_at ky (kx x) (y ∷ ys))) n
          ∙ ap (λ zs. give (kx x) (Some x) (Some y) ++ merged kx ky give zs (rest_at ky (kx x) (y ∷ ys))) t
          ∙ ap (λ zs. give (kx x) (Some x) (Some y) ++ merged kx ky give xs zs) u);
      less = omega (arith, ap length t, ap length u);
      rises_one = subst (IsRising kx) (sym t) (rising_from kx (kx x) xs r);
      rises_two = subst (IsRising ky) (sym u) (rising_from ky (ky y) ys q);
    }

steps-of : {X Y Z : Type 0} {kx : X → ℕ} {ky : Y → ℕ} {xs : List X} {ys : List Y}
    (give : ℕ → Option X → Option Y → List Z) (id : ℕ) → Meets X Y kx ky xs ys → least_key kx ky xs ys ≡ Some id →
    Steps kx ky give id xs ys
steps-of give id neither e = absurd cc
steps-of {kx = kx} {ky = ky} give id (first {x = x} {xs = xs} {ys = ys} r q) e =
    subst (λ k. Steps kx ky give k (x ∷ xs) ys) (some-number (kx x) id (sym (least-first kx ky x xs ys q) ∙ e))
    (step-first kx ky give x xs ys r q)
steps-of {kx = kx} {ky = ky} give id (second {xs = xs} {y = y} {ys = ys} r q) e =
    subst (λ k. Steps kx ky give k xs (y ∷ ys)) (some-number (ky y) id (sym (least-second kx ky xs y ys r) ∙ e))
    (step-second kx ky give xs y ys r q)
steps-of {kx = kx} {ky = ky} give id (both {x = x} {xs = xs} {y = y} {ys = ys} f r q) e =
    let least : min (kx x) (ky y) ≡ kx x = omega (arith, f) in
    subst (λ k. Steps kx ky give k (x ∷ xs) (y ∷ ys)) (some-number (kx x) id (ap Some (sym least) ∙ e))
    (step-both kx ky give x xs y ys f r q)

pub steps : {X Y Z : Type 0} (kx : X → ℕ) (ky : Y → ℕ) (give : ℕ → Option X → Option Y → List Z) (id : ℕ)
    (xs : List X) (ys : List Y) → IsRising kx xs → IsRising ky ys → least_key kx ky xs ys ≡ Some id →
    Steps kx ky give id xs ys
steps kx ky give id xs ys r q e = steps-of give id (meets kx ky xs ys r q) e

-- The loop.

-- what was put so far and what the rows that are left give are all that was to be put
pub put-next : {X Y Z : Type 0} (kx : X → ℕ) (ky : Y → ℕ) (give : ℕ → Option X → Option Y → List Z) (id : ℕ)
    (xs lefts : List X) (ys rights : List Y) (before after put : List Z) → Steps kx ky give id xs ys →
    put ≡ give id (head_at kx id xs) (head_at ky id ys) → after ≡ before ++ put → lefts ≡ rest_at kx id xs →
    rights ≡ rest_at ky id ys → after ++ merged kx ky give lefts rights ≡ before ++ merged kx ky give xs ys
put-next kx ky give id xs lefts ys rights before after put s is next one two =
    ap (λ zs. after ++ merged kx ky give zs rights) one
    ∙ ap (λ zs. after ++ merged kx ky give (rest_at kx id xs) zs) two
    ∙ ap (λ zs. zs ++ merged kx ky give (rest_at kx id xs) (rest_at ky id ys)) (next ∙ ap (λ zs. before ++ zs) is)
    ∙ append_assoc before (give id (head_at kx id xs) (head_at ky id ys))
    (merged kx ky give (rest_at kx id xs) (rest_at ky id ys))
    ∙ ap (λ zs. before ++ zs) (sym s.gives)

pub put-end : {X Y Z : Type 0} (kx : X → ℕ) (ky : Y → ℕ) (give : ℕ → Option X → Option Y → List Z) (xs : List X)
    (ys : List Y) (before all : List Z) → least_key kx ky xs ys ≡ None → before ++ merged kx ky give xs ys ≡ all →
    before ≡ all
put-end kx ky give [] [] before all e is = sym (append-nil before) ∙ is
put-end kx ky give [] (y ∷ ys) before all e is = absurd cc
put-end kx ky give (x ∷ xs) [] before all e is = absurd cc
put-end kx ky give (x ∷ xs) (y ∷ ys) before all e is = absurd cc
