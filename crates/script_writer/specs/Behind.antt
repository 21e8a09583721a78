-- Words and fields at the end of a text, each with a space before it.
use Rattle.std.specs.Prelude.{ℕ, List, [], ◌∷◌, ◌++◌, map}
use Rattle.std.specs.List.{flat_map}
use Rattle.swarm_objects.specs.declared.calls.Op.{Op}
use Rattle.script_grammar.specs.declared.fields.Field.{Field}
use Rattle.script_grammar.specs.declared.fields.NumberField.{NumberField}
use Rattle.script_grammar.specs.declared.fields.Table.{Table}
use Rattle.script_grammar.specs.Fields.{field_text}
use Rattle.script_grammar.specs.Pieces.{number_piece}
use Rattle.script_grammar.specs.Texts.{op_words}

abbrev pub after_space : List ℕ → List ℕ
after_space word = 32 ∷ word

-- each word after a space
abbrev pub behind : List (List ℕ) → List ℕ
behind words = flat_map after_space words

-- each field's word after a space
unfoldable pub fields_text : List Field → List ℕ
fields_text fields = flat_map (λ f. 32 ∷ field_text f) fields

-- row after row
abbrev pub rows_text : List (List Field) → List ℕ
rows_text [] = []
rows_text (row ∷ rows) = fields_text row ++ rows_text rows

-- rows that have one number each
abbrev pub number_rows : Table → List (NumberField × ℕ) → List (List Field)
number_rows t numbers = map (λ n. number_piece t n.0 n.1) numbers

-- an operation that isn't the first, behind a semicolon
abbrev pub next_op_text : Op → List ℕ
next_op_text o = 32 ∷ 59 ∷ behind (op_words o)

-- operations, with a semicolon before each but the first
abbrev pub ops_text : List Op → List ℕ
ops_text [] = []
ops_text (o ∷ ops) = behind (op_words o) ++ flat_map next_op_text ops
