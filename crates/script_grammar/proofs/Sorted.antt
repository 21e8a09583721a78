-- Fields that come one before the other.
use Rattle.std.proofs.Common.{◌≡◌, ℕ, ◌≤◌, ◌+◌, List, [], ◌∷◌, ◌++◌, Bool, true, false, cond, ◌&&◌, ◌||◌, refl, sym, ◌∙◌, ap, arith, nat_eq, nat_lt}
use Rattle.std.specs.List.{AllByRecursion}
use Rattle.std.specs.Prelude.{if◌then◌else◌}
use Rattle.std.proofs.lemmas.Bool.Decides.{nat_tests}
use Rattle.script_grammar.specs.declared.fields.Field.{Field}
use Rattle.script_grammar.proofs.FieldRows.{at_row}
use Rattle.script_grammar.specs.Tables.{comes_before, key_rises, may_repeat, row}

-- every earlier one comes before every later one
abbrev pub Sorted : List Field → Type 0
Sorted [] = Unit {0}
Sorted (f ∷ fs) = AllByRecursion (λ g. comes_before f g ≡ true) fs × Sorted fs

before_row : (f g : Field) → comes_before f g ≡ true → row f ≤ row g
before_row f g e = go (nat_lt (row f) (row g)) (nat_eq (row f) (row g)) (may_repeat f && key_rises f g) refl refl e where
  go : (a b c : Bool) → nat_lt (row f) (row g) ≡ a → nat_eq (row f) (row g) ≡ b → (a || (b && c)) ≡ true → row f ≤ row g
  go true b c x y z = grind (arith, nat_tests)
  go false true c x y z = grind (arith, nat_tests)
  go false false c x y z = cc

-- from a row on
abbrev pub From : ℕ → List Field → Type 0
From n = AllByRecursion (λ f. n ≤ row f)

pub from_later : (f : Field) (fs : List Field) → AllByRecursion (λ g. comes_before f g ≡ true) fs → From (row f) fs
from_later f [] h = tt
from_later f (g ∷ gs) h = (before_row f g h.0, from_later f gs h.1)

pub from_less : (m n : ℕ) (fs : List Field) → m ≤ n → From n fs → From m fs
from_less m n [] le h = tt
from_less m n (f ∷ fs) le h = (omega (arith, h.0), from_less m n fs le h.1)

pub at_row_none : (r : ℕ) (fs : List Field) → From (r + 1) fs → at_row r fs ≡ []
at_row_none r [] h = refl
at_row_none r (f ∷ fs) h = go (nat_eq (row f) r) refl (at_row_none r fs h.1) where
  go : (b : Bool) → nat_eq (row f) r ≡ b → at_row r fs ≡ [] → cond b (f ∷ at_row r fs) (at_row r fs) ≡ []
  go true e ih = let k : r + 1 ≤ row f = h.0 in absurd (grind (arith, nat_tests))
  go false e ih = ih

-- ## Row by row

abbrev pub RisesFrom : ℕ → List ℕ → Type 0
RisesFrom n [] = Unit {0}
RisesFrom n (r ∷ rs) = (n ≤ r) × RisesFrom (r + 1) rs

abbrev pub has : ℕ → List ℕ → Bool
has n [] = false
has n (r ∷ rs) = if nat_eq n r then true else has n rs

abbrev pub by_rows : List ℕ → List Field → List Field
by_rows [] fs = []
by_rows (r ∷ rs) fs = at_row r fs ++ by_rows rs fs

pub rises_less : (m n : ℕ) (rs : List ℕ) → m ≤ n → RisesFrom n rs → RisesFrom m rs
rises_less m n [] le h = tt
rises_less m n (r ∷ rs) le h = (omega (arith, h.0), h.1)

-- rows above that of f
by_rows_above : (f : Field) (fs : List Field) (rs : List ℕ) → RisesFrom (row f + 1) rs → by_rows rs (f ∷ fs) ≡ by_rows rs fs
by_rows_above f fs [] h = refl
by_rows_above f fs (r ∷ rs) h = go (nat_eq (row f) r) refl (by_rows_above f fs rs (rises_less (row f + 1) (r + 1) rs (omega (arith, h.0)) h.1)) where
  go : (b : Bool) → nat_eq (row f) r ≡ b → by_rows rs (f ∷ fs) ≡ by_rows rs fs → cond b (f ∷ at_row r fs) (at_row r fs) ++ by_rows rs (f ∷ fs) ≡ at_row r fs ++ by_rows rs fs
  go true e ih = let k : row f + 1 ≤ r = h.0 in absurd (grind (arith, nat_tests))
  go false e ih = ap (λ xs. at_row r fs ++ xs) ih

above_has : (n m : ℕ) (rs : List ℕ) → RisesFrom m rs → has n rs ≡ true → m ≤ n
above_has n m [] h e = cc
above_has n m (r ∷ rs) h e = go (nat_eq n r) refl e (above_has n (r + 1) rs h.1) where
  go : (b : Bool) → nat_eq n r ≡ b → cond b true (has n rs) ≡ true → (has n rs ≡ true → r + 1 ≤ n) → m ≤ n
  go true e g ih = let k : m ≤ r = h.0 in grind (arith, nat_tests)
  go false e g ih = let k : m ≤ r = h.0 in omega (arith, ih g)

by_rows_cons : (f : Field) (fs : List Field) (n : ℕ) (rs : List ℕ) → RisesFrom n rs → has (row f) rs ≡ true → From (row f) fs →
    by_rows rs (f ∷ fs) ≡ f ∷ by_rows rs fs
by_rows_cons f fs n [] h e later = cc
by_rows_cons f fs n (r ∷ rs) h e later = go (nat_eq (row f) r) refl e (by_rows_cons f fs (r + 1) rs h.1) where
  go : (b : Bool) → nat_eq (row f) r ≡ b → cond b true (has (row f) rs) ≡ true →
      (has (row f) rs ≡ true → From (row f) fs → by_rows rs (f ∷ fs) ≡ f ∷ by_rows rs fs) →
      cond b (f ∷ at_row r fs) (at_row r fs) ++ by_rows rs (f ∷ fs) ≡ f ∷ (at_row r fs ++ by_rows rs fs)
  go true e g ih = ap (λ xs. f ∷ (at_row r fs ++ xs)) (by_rows_above f fs rs (rises_less (row f + 1) (r + 1) rs (grind (arith, nat_tests)) h.1))
  go false e g ih =
      let up = above_has (row f) (r + 1) rs h.1 g in
      let none = at_row_none r fs (from_less (r + 1) (row f) fs up later) in
      ap (λ xs. xs ++ by_rows rs (f ∷ fs)) none ∙ ih g later ∙ ap (λ xs. f ∷ (xs ++ by_rows rs fs)) (sym none)

by_rows_nil : (rs : List ℕ) → by_rows rs [] ≡ []
by_rows_nil [] = refl
by_rows_nil (r ∷ rs) = by_rows_nil rs

-- a sorted list is its rows, one after the other
pub by_rows-sorted : (n : ℕ) (rs : List ℕ) (fs : List Field) → RisesFrom n rs → Sorted fs → AllByRecursion (λ f. has (row f) rs ≡ true) fs → by_rows rs fs ≡ fs
by_rows-sorted n rs [] h s b = by_rows_nil rs
by_rows-sorted n rs (f ∷ fs) h s b =
    by_rows_cons f fs n rs h b.0 (from_later f fs s.0) ∙ ap (λ xs. f ∷ xs) (by_rows-sorted n rs fs h s.1 b.1)
