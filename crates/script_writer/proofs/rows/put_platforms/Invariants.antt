use Rattle.std.proofs.Common.{◌≡◌, ◌++◌, drop, map, string_bytes}
use Rattle.script_grammar.specs.declared.fields.Field.TheVariants as field
use Rattle.script_writer.specs.Behind.{fields_text}
use Rattle.script_writer.proofs.rows.put_platforms.Given as goal

abbrev pub invariant-loop-platform : goal.invariant-loop-platform
invariant-loop-platform l =
    string_bytes l.text ++ fields_text (map field.Platform (drop l.platform-index l.platforms)) ≡ string_bytes l.initial.text ++ fields_text (map field.Platform l.platforms)
