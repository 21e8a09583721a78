use Rattle.std.proofs.Common.{◌≡◌, ◌++◌, drop, map, string_bytes}
use Rattle.script_grammar.specs.declared.fields.Field.TheVariants as field
use Rattle.script_writer.specs.Behind.{fields_text}
use Rattle.script_writer.proofs.rows.put_constraints.Given as goal

abbrev pub invariant-loop-constraint : goal.invariant-loop-constraint
invariant-loop-constraint l =
    string_bytes l.text ++ fields_text (map field.Constraint (drop l.constraint-index l.constraints)) ≡ string_bytes l.initial.text ++ fields_text (map field.Constraint l.constraints)
