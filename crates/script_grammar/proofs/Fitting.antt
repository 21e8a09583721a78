-- Where a field fits without a look at the earlier ones, so that a line is read in steps of few looks.
use Rattle.std.proofs.Common.{◌≡◌, ℕ, List, [], ◌∷◌, Bool, true, false, ◌&&◌, ◌||◌, not, refl, sym, ◌∙◌, ap, nat_eq}
use Rattle.std.specs.List.{list_any}
use Rattle.script_grammar.specs.declared.fields.Field.{Field}
use Rattle.script_grammar.specs.declared.fields.Field.TheVariants as field
use Rattle.script_grammar.specs.declared.fields.NumberField.{NumberField}
use Rattle.script_grammar.specs.declared.fields.NumberField.TheVariants as number
use Rattle.script_grammar.specs.Tables.{clashes, fits, may_repeat, number_row, row, same_key}
use Rattle.script_grammar.proofs.FieldRows.{number_same}
use Rattle.script_grammar.proofs.Sorted.{has}

-- a label, of a node or of its engine
abbrev pub is_label : Field → Bool
is_label (field.Label k v) = true
is_label (field.Engine k v) = true
is_label f = false

abbrev repeating_rows : List ℕ
repeating_rows = 5 ∷ 13 ∷ 15 ∷ 16 ∷ 17 ∷ 19 ∷ 24 ∷ 25 ∷ []

number_once : (w : NumberField) → has (number_row w) repeating_rows ≡ false
number_once number.Prepare = refl
number_once number.Start = refl
number_once number.Stop = refl
number_once number.Cpu = refl
number_once number.Mem = refl
number_once number.MaxReplicas = refl
number_once number.RestartDelay = refl
number_once number.RestartMax = refl
number_once number.RestartWindow = refl
number_once number.Parallelism = refl
number_once number.UpdateDelay = refl
number_once number.Monitor = refl
number_once number.Ratio = refl
number_once number.Heartbeat = refl
number_once number.Orphan = refl
number_once number.History = refl

-- the row tells whether a field may repeat
by_row : (f : Field) → has (row f) repeating_rows ≡ may_repeat f
by_row (field.Number w n) = number_once w
by_row f = refl

no_key : (f g : Field) → is_label g ≡ false → same_key f g ≡ false
no_key (field.Label k v) (field.Label j u) e = cc
no_key (field.Label k v) g e = refl
no_key (field.Engine k v) (field.Engine j u) e = cc
no_key (field.Engine k v) g e = refl
no_key f g e = refl

no_clash : (f g : Field) → may_repeat g ≡ true → is_label g ≡ false → clashes f g ≡ false
no_clash f g m l = go (nat_eq (row f) (row g)) refl where
  go : (b : Bool) → nat_eq (row f) (row g) ≡ b → (b && (not (may_repeat f) || same_key f g)) ≡ false
  go false e = refl
  go true e =
      let repeats : may_repeat f ≡ true = sym (by_row f) ∙ ap (λ r. has r repeating_rows) (number_same (row f) (row g) e) ∙ by_row g ∙ m in
      ap (λ b. not b || same_key f g) repeats ∙ no_key f g l

-- an item of a list that has no key fits everywhere
pub item_fits : (fs : List Field) (g : Field) → may_repeat g ≡ true → is_label g ≡ false → fits fs g ≡ true
item_fits fs g m l = ap not (none fs) where
  none : (fs : List Field) → list_any (λ f. clashes f g) fs ≡ false
  none [] = refl
  none (f ∷ fs) = ap (λ b. b || list_any (λ x. clashes x g) fs) (no_clash f g m l) ∙ none fs
