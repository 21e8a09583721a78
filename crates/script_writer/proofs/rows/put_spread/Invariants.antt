use Rattle.std.proofs.Common.{◌≡◌, ◌++◌, drop, map, string_bytes}
use Rattle.script_grammar.specs.declared.fields.Field.TheVariants as field
use Rattle.script_writer.specs.Behind.{fields_text}
use Rattle.script_writer.proofs.rows.put_spread.Given as goal

abbrev pub invariant-loop-key : goal.invariant-loop-key
invariant-loop-key l =
    string_bytes l.text ++ fields_text (map field.Spread (drop l.key-index l.keys)) ≡ string_bytes l.initial.text ++ fields_text (map field.Spread l.keys)
