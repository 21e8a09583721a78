-- The next row that passes a test, by what is said of all of them.
use Rattle.std.proofs.Common.{◌≡◌, ℕ, ◌<◌, ◌≤◌, Bool, true, false, cond, ltb, inl, inr, List, [], ◌∷◌, Option, Some, None, refl, sym, ap, ◌∙◌, subst, arith}
use Rattle.std.specs.Prelude.{filter}
use Rattle.std.proofs.lemmas.Bool.Decides.{nat_tests}
use Rattle.swarm_index.proofs.RowsAt.{at_member, weaker}
use Rattle.swarm_objects.proofs.RowLemmas.{number_above}
use Rattle.swarm_objects.specs.Rows.{Has, IsRising, RisesFrom, row_above, row_at}

-- no row that passes has a lesser key above the number
pub record IsLeast {X : Type 0} (key : X → ℕ) (p : X → Bool) (after : ℕ) (rows : List X) (x : X) : Type 0 where
  pub there : Has rows x
  pub passes : p x ≡ true
  pub above : after < key x
  pub least : (y : X) → Has rows y → p y ≡ true → after < key y → key x ≤ key y

abbrev pub IsNext : {X : Type 0} → (X → ℕ) → (X → Bool) → ℕ → List X → Option X → Type 0
IsNext {X} key p after rows None = (y : X) → Has rows y → p y ≡ true → after < key y → ⊥
IsNext key p after rows (Some x) = IsLeast key p after rows x

skip : {X : Type 0} (key : X → ℕ) (p : X → Bool) (after : ℕ) (x : X) (rows : List X) (o : Option X) → (p x ≡ true → after < key x → ⊥) → IsNext key p after rows o → IsNext key p after (x ∷ rows) o
skip key p after x rows None fails h = λ y there t a. elim there [ inl e ↦ fails (subst (λ z. p z ≡ true) (sym e) t) (subst (λ z. after < key z) (sym e) a) | inr k ↦ h y k t a ]
skip key p after x rows (Some z) fails h = record {
  there = inr h.there;
  passes = h.passes;
  above = h.above;
  least = λ y there t a. elim there [ inl e ↦ absurd (fails (subst (λ v. p v ≡ true) (sym e) t) (subst (λ v. after < key v) (sym e) a)) | inr k ↦ h.least y k t a ];
}

first_least : {X : Type 0} (key : X → ℕ) (p : X → Bool) (after : ℕ) (x : X) (rows : List X) → RisesFrom key (key x) rows → p x ≡ true → after < key x → IsLeast key p after (x ∷ rows) x
first_least key p after x rows r t a = record {
  there = inl refl;
  passes = t;
  above = a;
  least = λ y there _ _. elim there [ inl e ↦ subst (λ v. key x ≤ key v) e (omega arith) | inr k ↦ (let above = number_above key (key x) rows y r k in omega arith) ];
}

pub next_holds : {X : Type 0} (key : X → ℕ) (p : X → Bool) (after : ℕ) (rows : List X) → IsRising key rows → IsNext key p after rows (row_above key after (filter p rows))
next_holds key p after [] r = λ y h. absurd h
next_holds key p after (x ∷ rows) r = go (p x) refl (next_holds key p after rows (weaker key (key x) rows r))
  where
    go : (b : Bool) → p x ≡ b → IsNext key p after rows (row_above key after (filter p rows))
        → IsNext key p after (x ∷ rows) (row_above key after (cond b (x ∷ filter p rows) (filter p rows)))
    go true e below = there (ltb after (key x)) refl
      where
        there : (d : Bool) → ltb after (key x) ≡ d → IsNext key p after (x ∷ rows) (cond d (Some x) (row_above key after (filter p rows)))
        there true g = first_least key p after x rows r e (grind (arith, nat_tests, g))
        there false g = skip key p after x rows (row_above key after (filter p rows)) (λ _ a. grind (arith, nat_tests, g, a)) below
    go false e below = skip key p after x rows (row_above key after (filter p rows)) (λ t _. let no : true ≡ false = sym t ∙ e in cc) below

one_key : {X : Type 0} (key : X → ℕ) (rows : List X) (x y : X) → IsRising key rows → Has rows x → Has rows y → key x ≡ key y → x ≡ y
one_key key rows x y r h k e =
    let a : row_at key (key x) rows ≡ Some x = at_member key rows x r h in
    let b : row_at key (key x) rows ≡ Some y = subst (λ n. row_at key n rows ≡ Some y) (sym e) (at_member key rows y r k) in
    cc

pub one_next : {X : Type 0} (key : X → ℕ) (p : X → Bool) (after : ℕ) (rows : List X) (a b : Option X) → IsRising key rows → IsNext key p after rows a → IsNext key p after rows b → a ≡ b
one_next key p after rows None None r h k = refl
one_next key p after rows None (Some y) r h k = absurd (h y k.there k.passes k.above)
one_next key p after rows (Some x) None r h k = absurd (k x h.there h.passes h.above)
one_next key p after rows (Some x) (Some y) r h k =
    let one : key x ≤ key y = h.least y k.there k.passes k.above in
    let two : key y ≤ key x = k.least x h.there h.passes h.above in
    ap Some (one_key key rows x y r h.there k.there (omega arith))

pub next_is : {X : Type 0} (key : X → ℕ) (p : X → Bool) (after : ℕ) (rows : List X) (o : Option X) → IsRising key rows → IsNext key p after rows o → o ≡ row_above key after (filter p rows)
next_is key p after rows o r h = one_next key p after rows o (row_above key after (filter p rows)) r h (next_holds key p after rows r)

-- all rows pass
pub filter_all : {X : Type 0} (rows : List X) → filter (λ _. true) rows ≡ rows
filter_all [] = refl
filter_all (x ∷ rows) = ap (λ xs. x ∷ xs) (filter_all rows)
