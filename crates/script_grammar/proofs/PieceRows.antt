-- Pieces of fields, row after row, and what is read in them.
use Rattle.std.proofs.Common.{◌≡◌, ℕ, ◌≤◌, ◌+◌, List, [], ◌∷◌, ◌++◌, map, Bool, true, false, cond, refl, sym, ◌∙◌, ap, Option, Some, None, nat_eq, append-nil, ◌&&◌}
use Rattle.std.specs.List.{filter_map, cons_option, AllByRecursion}
use Rattle.std.specs.Prelude.{unwrap_or}
use Rattle.script_grammar.proofs.RowPieces.{NoDefault}
use Rattle.script_grammar.proofs.FieldRows.{AreRows, InRow, LooksAt, Pieces, at_row-flat, filter_map-at_row, flat, named_or-at_row, number_same, pick, same_number}
use Rattle.script_grammar.proofs.Sorted.{Sorted}
use Rattle.script_grammar.specs.Drafts.{named_or, number_in}
use Rattle.script_grammar.specs.Pieces.{number_piece}
use Rattle.script_grammar.specs.Tables.{belongs, comes_before, has_defaults, is_default, number_belongs, number_default, number_row, row}
use Rattle.script_grammar.specs.declared.fields.Field.{Field}
use Rattle.script_grammar.specs.declared.fields.Field.TheVariants as field
use Rattle.script_grammar.specs.declared.fields.Table.{Table}
use Rattle.script_grammar.specs.declared.fields.NumberField.{NumberField}

-- ## One row's piece

pub record IsPiece (t : Table) (r : ℕ) (fs : List Field) : Type 0 where
  pub in_row : InRow r fs
  pub belong : AllByRecursion (λ f. belongs t f ≡ true) fs
  pub named : NoDefault t fs
  pub sorted : Sorted fs

pub none_piece : (t : Table) (r : ℕ) → IsPiece t r []
none_piece t r = record { in_row = tt; belong = tt; named = tt; sorted = tt }

pub one_piece : (t : Table) (r : ℕ) (f : Field) → row f ≡ r → belongs t f ≡ true → is_default t f ≡ false → IsPiece t r (f ∷ [])
one_piece t r f e b n = record { in_row = (e, tt); belong = (b, tt); named = (n, tt); sorted = (tt, tt) }

many_before : {A : Type 0} (make : A → Field) (f : Field) → ((y : A) → comes_before f (make y) ≡ true) → (xs : List A) → AllByRecursion (λ g. comes_before f g ≡ true) (map make xs)
many_before make f h [] = tt
many_before make f h (x ∷ xs) = (h x, many_before make f h xs)

pub many_piece : {A : Type 0} (t : Table) (r : ℕ) (make : A → Field) → ((x : A) → row (make x) ≡ r) → ((x : A) → belongs t (make x) ≡ true) →
    ((x : A) → is_default t (make x) ≡ false) → ((x y : A) → comes_before (make x) (make y) ≡ true) → (xs : List A) → IsPiece t r (map make xs)
many_piece t r make e b n c [] = none_piece t r
many_piece t r make e b n c (x ∷ xs) =
    let h = many_piece t r make e b n c xs in
    record { in_row = (e x, h.in_row); belong = (b x, h.belong); named = (n x, h.named); sorted = (many_before make (make x) (c x) xs, h.sorted) }

pub test_piece : (t : Table) (r : ℕ) (f : Field) (b : Bool) → row f ≡ r → belongs t f ≡ true → is_default t f ≡ b → IsPiece t r (cond b [] (f ∷ []))
test_piece t r f true e g n = none_piece t r
test_piece t r f false e g n = one_piece t r f e g n

pub number_is : (t : Table) (w : NumberField) (n : ℕ) → has_defaults t ≡ true → number_belongs t w ≡ true → IsPiece t (number_row w) (number_piece t w n)
number_is t w n h b =
    test_piece t (number_row w) (field.Number w n) (nat_eq n (number_default t w)) refl b (ap (λ x. x && nat_eq n (number_default t w)) h)

-- ## All rows

abbrev pub ArePieces : Table → ℕ → Pieces → Type 0
ArePieces t n [] = Unit {0}
ArePieces t n (p ∷ ps) = (n ≤ p.0) × IsPiece t p.0 p.1 × ArePieces t (p.0 + 1) ps

pub are_rows : (t : Table) (n : ℕ) (ps : Pieces) → ArePieces t n ps → AreRows ps
are_rows t n [] h = tt
are_rows t n (p ∷ ps) h = (h.1.in_row, are_rows t (p.0 + 1) ps h.2)

-- ## Reading the pieces back

pub number_back : (t : Table) (w : NumberField) (n : ℕ) → named_or (number_in w) (number_default t w) (number_piece t w n ++ []) ≡ n
number_back t w n = ap (named_or (number_in w) (number_default t w)) (append-nil (number_piece t w n)) ∙ go (nat_eq n (number_default t w)) refl where
  go : (b : Bool) → nat_eq n (number_default t w) ≡ b → named_or (number_in w) (number_default t w) (cond b [] (field.Number w n ∷ [])) ≡ n
  go true e = sym (number_same n (number_default t w) e)
  go false e = ap (λ b. unwrap_or (cond b (Some n) None) (number_default t w)) (same_number (number_row w) (number_row w) refl)

pub list_back : {A : Type 0} (p : Field → Option A) (make : A → Field) → ((x : A) → p (make x) ≡ Some x) → (xs : List A) → filter_map p (map make xs ++ []) ≡ xs
list_back p make h [] = refl
list_back p make h (x ∷ xs) = ap (λ o. cons_option o (filter_map p (map make xs ++ []))) (h x) ∙ ap (λ ys. x ∷ ys) (list_back p make h xs)

-- a look at one row of all pieces sees the pieces of that row
pub row_once : {A : Type 0} (t : Table) (n : ℕ) (ps : Pieces) → ArePieces t n ps → (r : ℕ) (p : Field → Option A) (x v : A) → LooksAt r p →
    named_or p x (pick r ps) ≡ v → named_or p x (flat ps) ≡ v
row_once t n ps a r p x v looks h = named_or-at_row r p x looks (flat ps) ∙ ap (named_or p x) (at_row-flat r ps (are_rows t n ps a)) ∙ h

pub row_all : {A : Type 0} (t : Table) (n : ℕ) (ps : Pieces) → ArePieces t n ps → (r : ℕ) (p : Field → Option A) (v : List A) → LooksAt r p →
    filter_map p (pick r ps) ≡ v → filter_map p (flat ps) ≡ v
row_all t n ps a r p v looks h = filter_map-at_row r p looks (flat ps) ∙ ap (filter_map p) (at_row-flat r ps (are_rows t n ps a)) ∙ h
