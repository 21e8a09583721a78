use Rattle.std.proofs.Common.{◌≡◌, drop}
use Rattle.std.specs.List.{find}
use Rattle.std.specs.Str.{bytes_eq}
use Rattle.script_grammar.specs.Fields.{number_word}
use Rattle.script_fields.proofs.fields.named_field.Given as goal

abbrev pub invariant-loop-field : goal.invariant-loop-field
invariant-loop-field l =
    find (λ f. bytes_eq (number_word f) l.word) l.fields ≡ find (λ f. bytes_eq (number_word f) l.word) (drop l.field-index l.fields)
