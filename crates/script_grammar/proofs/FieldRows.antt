-- Fields by rows.
use Rattle.std.proofs.Common.{◌≡◌, ℕ, List, [], ◌∷◌, ◌++◌, Bool, true, false, cond, refl, ◌∙◌, ap, subst, Option, None, arith, nat_eq}
use Rattle.std.specs.List.{filter_map, cons_option, AllByRecursion}
use Rattle.std.specs.Prelude.{unwrap_or, if◌then◌else◌}
use Rattle.std.proofs.lemmas.Bool.Decides.{nat_tests}
use Rattle.script_grammar.specs.declared.fields.Field.{Field}
use Rattle.script_grammar.specs.Drafts.{named_or}
use Rattle.script_grammar.specs.Tables.{row}

-- the fields of one row
abbrev pub at_row : ℕ → List Field → List Field
at_row r [] = []
at_row r (f ∷ fs) = if nat_eq (row f) r then f ∷ at_row r fs else at_row r fs

-- a look at fields sees one row alone
abbrev pub LooksAt : {A : Type 0} → ℕ → (Field → Option A) → Type 0
LooksAt {A} r p = (f : Field) → nat_eq (row f) r ≡ false → p f ≡ None

pub named_or-at_row : {A : Type 0} (r : ℕ) (p : Field → Option A) (d : A) → LooksAt r p → (fs : List Field) → named_or p d fs ≡ named_or p d (at_row r fs)
named_or-at_row r p d looks [] = refl
named_or-at_row r p d looks (f ∷ fs) = go (nat_eq (row f) r) refl (named_or-at_row r p d looks fs) where
  go : (b : Bool) → nat_eq (row f) r ≡ b → named_or p d fs ≡ named_or p d (at_row r fs) →
      unwrap_or (p f) (named_or p d fs) ≡ named_or p d (cond b (f ∷ at_row r fs) (at_row r fs))
  go true e ih = ap (unwrap_or (p f)) ih
  go false e ih = ap (λ o. unwrap_or o (named_or p d fs)) (looks f e) ∙ ih

pub filter_map-at_row : {A : Type 0} (r : ℕ) (p : Field → Option A) → LooksAt r p → (fs : List Field) → filter_map p fs ≡ filter_map p (at_row r fs)
filter_map-at_row r p looks [] = refl
filter_map-at_row r p looks (f ∷ fs) = go (nat_eq (row f) r) refl (filter_map-at_row r p looks fs) where
  go : (b : Bool) → nat_eq (row f) r ≡ b → filter_map p fs ≡ filter_map p (at_row r fs) →
      cons_option (p f) (filter_map p fs) ≡ filter_map p (cond b (f ∷ at_row r fs) (at_row r fs))
  go true e ih = ap (cons_option (p f)) ih
  go false e ih = ap (λ o. cons_option o (filter_map p fs)) (looks f e) ∙ ih

pub at_row-append : (r : ℕ) (fs gs : List Field) → at_row r (fs ++ gs) ≡ at_row r fs ++ at_row r gs
at_row-append r [] gs = refl
at_row-append r (f ∷ fs) gs = go (nat_eq (row f) r) (at_row-append r fs gs) where
  go : (b : Bool) → at_row r (fs ++ gs) ≡ at_row r fs ++ at_row r gs →
      cond b (f ∷ at_row r (fs ++ gs)) (at_row r (fs ++ gs)) ≡ cond b (f ∷ at_row r fs) (at_row r fs) ++ at_row r gs
  go true ih = ap (λ xs. f ∷ xs) ih
  go false ih = ih

-- all of one row
abbrev pub InRow : ℕ → List Field → Type 0
InRow r = AllByRecursion (λ f. row f ≡ r)

pub number_same : (m n : ℕ) → nat_eq m n ≡ true → m ≡ n
number_same m n e = grind (arith, nat_tests)

pub same_number : (m n : ℕ) → m ≡ n → nat_eq m n ≡ true
same_number m n e = grind (arith, nat_tests)

pub at_row-in : (r : ℕ) (fs : List Field) → InRow r fs → at_row r fs ≡ fs
at_row-in r [] h = refl
at_row-in r (f ∷ fs) h =
    ap (λ b. cond b (f ∷ at_row r fs) (at_row r fs)) (same_number (row f) r h.0) ∙ ap (λ xs. f ∷ xs) (at_row-in r fs h.1)

pub at_row-out : (r s : ℕ) (fs : List Field) → nat_eq s r ≡ false → InRow s fs → at_row r fs ≡ []
at_row-out r s [] e h = refl
at_row-out r s (f ∷ fs) e h =
    ap (λ b. cond b (f ∷ at_row r fs) (at_row r fs)) (ap (λ n. nat_eq n r) h.0 ∙ e) ∙ at_row-out r s fs e h.1

-- ## Pieces with the numbers of their rows

abbrev pub Pieces : Type 0
Pieces = List (ℕ × List Field)

abbrev pub flat : Pieces → List Field
flat [] = []
flat (p ∷ ps) = p.1 ++ flat ps

abbrev pub AreRows : Pieces → Type 0
AreRows = AllByRecursion (λ p. InRow p.0 p.1)

-- the pieces of one row
abbrev pub pick : ℕ → Pieces → List Field
pick r [] = []
pick r (p ∷ ps) = if nat_eq p.0 r then p.1 ++ pick r ps else pick r ps

pub at_row-flat : (r : ℕ) (ps : Pieces) → AreRows ps → at_row r (flat ps) ≡ pick r ps
at_row-flat r [] h = refl
at_row-flat r (p ∷ ps) h = at_row-append r p.1 (flat ps) ∙ go (nat_eq p.0 r) refl (at_row-flat r ps h.1) where
  go : (b : Bool) → nat_eq p.0 r ≡ b → at_row r (flat ps) ≡ pick r ps → at_row r p.1 ++ at_row r (flat ps) ≡ cond b (p.1 ++ pick r ps) (pick r ps)
  go true e ih = ap (λ xs. xs ++ at_row r (flat ps)) (at_row-in r p.1 (subst (λ n. InRow n p.1) (number_same p.0 r e) h.0)) ∙ ap (λ xs. p.1 ++ xs) ih
  go false e ih = ap (λ xs. xs ++ at_row r (flat ps)) (at_row-out r p.0 p.1 e h.0) ∙ ih
