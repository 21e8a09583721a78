-- A row's fields are what the value in it writes.
use Rattle.std.proofs.Common.{◌≡◌, ℕ, ◌≤◌, ◌+◌, List, [], ◌∷◌, map, Bool, true, false, cond, ◌&&◌, ◌||◌, refl, sym, ◌∙◌, ap, subst, Option, Some, None, arith, nat_eq, nat_lt}
use Rattle.std.specs.List.{filter_map, cons_option, AllByRecursion, find}
use Rattle.std.specs.Prelude.{unwrap_or}
use Rattle.std.proofs.lemmas.Bool.Decides.{nat_tests}
use Rattle.script_grammar.specs.declared.fields.Field.{Field}
use Rattle.script_grammar.specs.declared.fields.Field.TheVariants as field
use Rattle.script_grammar.specs.declared.fields.Table.{Table}
use Rattle.script_grammar.specs.declared.fields.NumberField.{NumberField}
use Rattle.script_grammar.specs.declared.fields.NumberField.TheVariants as number
use Rattle.script_grammar.proofs.FieldRows.{LooksAt, at_row, number_same, same_number}
use Rattle.script_grammar.proofs.Sorted.{From, Sorted, at_row_none}
use Rattle.script_grammar.specs.Drafts.{named_or, number_in}
use Rattle.script_grammar.specs.Fields.{number_fields}
use Rattle.script_grammar.specs.Pieces.{number_piece}
use Rattle.script_grammar.specs.Tables.{comes_before, has_defaults, is_default, key_rises, may_repeat, number_default, number_row, row}

-- no field says what holds without it
abbrev pub NoDefault : Table → List Field → Type 0
NoDefault t = AllByRecursion (λ f. is_default t f ≡ false)

-- ## A row with one value

-- the value in a field writes that field alone
abbrev pub Back : {A : Type 0} → Table → ℕ → (Field → Option A) → (A → List Field) → Type 0
Back {A} t r p piece = (f : Field) → nat_eq (row f) r ≡ true → is_default t f ≡ false → (v : A) × (p f ≡ Some v) × (piece v ≡ f ∷ []) × (may_repeat f ≡ false)

strictly : (f g : Field) → may_repeat f ≡ false → comes_before f g ≡ true → row f + 1 ≤ row g
strictly f g once e = go (nat_lt (row f) (row g)) (nat_eq (row f) (row g)) (may_repeat f) refl once e where
  go : (a b c : Bool) → nat_lt (row f) (row g) ≡ a → c ≡ false → (a || (b && (c && key_rises f g))) ≡ true → row f + 1 ≤ row g
  go true b c x y z = grind (arith, nat_tests)
  go false true true x y z = cc
  go false true false x y z = cc
  go false false c x y z = cc

pub none_later : (f : Field) (fs : List Field) → may_repeat f ≡ false → AllByRecursion (λ g. comes_before f g ≡ true) fs → From (row f + 1) fs
none_later f [] once h = tt
none_later f (g ∷ gs) once h = (strictly f g once h.0, none_later f gs once h.1)

pub single : {A : Type 0} (t : Table) (r : ℕ) (p : Field → Option A) (piece : A → List Field) (d : A) → LooksAt r p → Back t r p piece → piece d ≡ [] →
    (fs : List Field) → Sorted fs → NoDefault t fs → piece (named_or p d fs) ≡ at_row r fs
single t r p piece d looks back empty [] s n = empty
single t r p piece d looks back empty (f ∷ fs) s n =
    go (nat_eq (row f) r) refl (single t r p piece d looks back empty fs s.1 n.1) where
      go : (b : Bool) → nat_eq (row f) r ≡ b → piece (named_or p d fs) ≡ at_row r fs →
          piece (unwrap_or (p f) (named_or p d fs)) ≡ cond b (f ∷ at_row r fs) (at_row r fs)
      go true e ih =
          let b = back f e n.0 in
          let none = at_row_none r fs (subst (λ k. From (k + 1) fs) (number_same (row f) r e) (none_later f fs b.3 s.0)) in
          ap (λ o. piece (unwrap_or o (named_or p d fs))) b.1 ∙ b.2 ∙ ap (λ xs. f ∷ xs) (sym none)
      go false e ih = ap (λ o. piece (unwrap_or o (named_or p d fs))) (looks f e) ∙ ih

-- ## A row with a list

abbrev pub Remade : {A : Type 0} → ℕ → (Field → Option A) → (A → Field) → Type 0
Remade {A} r p make = (f : Field) → nat_eq (row f) r ≡ true → (v : A) × (p f ≡ Some v) × (make v ≡ f)

pub several : {A : Type 0} (r : ℕ) (p : Field → Option A) (make : A → Field) → LooksAt r p → Remade r p make →
    (fs : List Field) → map make (filter_map p fs) ≡ at_row r fs
several r p make looks back [] = refl
several r p make looks back (f ∷ fs) = go (nat_eq (row f) r) refl (several r p make looks back fs) where
  go : (b : Bool) → nat_eq (row f) r ≡ b → map make (filter_map p fs) ≡ at_row r fs →
      map make (cons_option (p f) (filter_map p fs)) ≡ cond b (f ∷ at_row r fs) (at_row r fs)
  go true e ih =
      let b = back f e in
      ap (λ o. map make (cons_option o (filter_map p fs))) b.1 ∙ ap (λ g. g ∷ map make (filter_map p fs)) b.2 ∙ ap (λ xs. f ∷ xs) ih
  go false e ih = ap (λ o. map make (cons_option o (filter_map p fs))) (looks f e) ∙ ih

-- ## Numbers

abbrev pub number_at : ℕ → Option NumberField
number_at r = find (λ w. nat_eq (number_row w) r) number_fields

pub number_at-row : (w : NumberField) → number_at (number_row w) ≡ Some w
number_at-row number.Prepare = refl
number_at-row number.Start = refl
number_at-row number.Stop = refl
number_at-row number.Cpu = refl
number_at-row number.Mem = refl
number_at-row number.MaxReplicas = refl
number_at-row number.RestartDelay = refl
number_at-row number.RestartMax = refl
number_at-row number.RestartWindow = refl
number_at-row number.Parallelism = refl
number_at-row number.UpdateDelay = refl
number_at-row number.Monitor = refl
number_at-row number.Ratio = refl
number_at-row number.Heartbeat = refl
number_at-row number.Orphan = refl
number_at-row number.History = refl

-- a row that is no number's
pub no_number_row : (w : NumberField) (r : ℕ) → number_at r ≡ None → nat_eq (number_row w) r ≡ true → ⊥
no_number_row w r none e =
    let k : None ≡ Some w = sym none ∙ ap number_at (sym (number_same (number_row w) r e)) ∙ number_at-row w in cc

pub same_which : (v w : NumberField) → nat_eq (number_row v) (number_row w) ≡ true → v ≡ w
same_which v w e =
    let k : Some v ≡ Some w = sym (number_at-row v) ∙ ap number_at (number_same (number_row v) (number_row w) e) ∙ number_at-row w in cc

no_row : (w : NumberField) (r : ℕ) → number_at r ≡ None → nat_eq r (number_row w) ≡ true → ⊥
no_row w r none e = no_number_row w r none (same_number (number_row w) r (sym (number_same r (number_row w) e)))

pub looks_number : (w : NumberField) → LooksAt (number_row w) (number_in w)
looks_number w (field.Number v n) e = ap (λ b. cond b (Some n) None) e
looks_number w f e = refl

-- the fields of a number's row are its fields
pub number_in_row : (w : NumberField) (f : Field) → nat_eq (row f) (number_row w) ≡ true → (n : ℕ) × (f ≡ field.Number w n)
number_in_row w (field.Number v n) e = (n, ap (λ u. field.Number u n) (same_which v w e))
number_in_row w (field.Mode x) e = absurd (no_row w 0 refl e)
number_in_row w (field.End x) e = absurd (no_row w 1 refl e)
number_in_row w (field.Label x y) e = absurd (no_row w 5 refl e)
number_in_row w (field.Role x) e = absurd (no_row w 6 refl e)
number_in_row w (field.Availability x) e = absurd (no_row w 7 refl e)
number_in_row w (field.Os x) e = absurd (no_row w 11 refl e)
number_in_row w (field.Arch x) e = absurd (no_row w 12 refl e)
number_in_row w (field.Engine x y) e = absurd (no_row w 13 refl e)
number_in_row w field.Remote e = absurd (no_row w 14 refl e)
number_in_row w (field.Constraint x) e = absurd (no_row w 15 refl e)
number_in_row w (field.Spread x) e = absurd (no_row w 16 refl e)
number_in_row w (field.Platform x) e = absurd (no_row w 17 refl e)
number_in_row w (field.Net x) e = absurd (no_row w 19 refl e)
number_in_row w (field.Restart x) e = absurd (no_row w 20 refl e)
number_in_row w (field.Port x) e = absurd (no_row w 24 refl e)
number_in_row w (field.Host x) e = absurd (no_row w 25 refl e)
number_in_row w (field.Failure x) e = absurd (no_row w 29 refl e)
number_in_row w (field.Order x) e = absurd (no_row w 31 refl e)

pub number_in_own : (w : NumberField) (n : ℕ) → number_in w (field.Number w n) ≡ Some n
number_in_own w n = ap (λ b. cond b (Some n) None) (same_number (number_row w) (number_row w) refl)

pub back_number : (t : Table) → has_defaults t ≡ true → (w : NumberField) → Back t (number_row w) (number_in w) (number_piece t w)
back_number t h w f e d =
    let k = number_in_row w f e in
    let g = field.Number w k.0 in
    let usual : nat_eq k.0 (number_default t w) ≡ false = sym (ap (λ x. x && nat_eq k.0 (number_default t w)) h) ∙ ap (is_default t) (sym k.1) ∙ d in (
      k.0,
      ap (number_in w) k.1 ∙ number_in_own w k.0,
      ap (λ b. cond b [] (g ∷ [])) usual ∙ ap (λ x. x ∷ []) (sym k.1),
      ap may_repeat k.1,
    )

pub numbers : (t : Table) → has_defaults t ≡ true → (w : NumberField) (fs : List Field) → Sorted fs → NoDefault t fs →
    number_piece t w (named_or (number_in w) (number_default t w) fs) ≡ at_row (number_row w) fs
numbers t h w fs s n =
    single t (number_row w) (number_in w) (number_piece t w) (number_default t w) (looks_number w) (back_number t h w)
    (ap (λ b. cond b [] (field.Number w (number_default t w) ∷ [])) (same_number (number_default t w) (number_default t w) refl)) fs s n
