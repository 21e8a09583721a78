use Rattle.std.proofs.Common.{◌≡◌, ◌++◌, drop, map, string_bytes}
use Rattle.script_grammar.specs.declared.fields.Field.TheVariants as field
use Rattle.script_writer.specs.Behind.{fields_text}
use Rattle.script_writer.proofs.rows.put_nets.Given as goal

abbrev pub invariant-loop-name : goal.invariant-loop-name
invariant-loop-name l =
    string_bytes l.text ++ fields_text (map field.Net (drop l.name-index l.names)) ≡ string_bytes l.initial.text ++ fields_text (map field.Net l.names)
