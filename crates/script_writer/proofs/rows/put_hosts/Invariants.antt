use Rattle.std.proofs.Common.{◌≡◌, ◌++◌, drop, map, string_bytes}
use Rattle.script_grammar.specs.declared.fields.Field.TheVariants as field
use Rattle.script_writer.specs.Behind.{fields_text}
use Rattle.script_writer.proofs.rows.put_hosts.Given as goal

abbrev pub invariant-loop-port : goal.invariant-loop-port
invariant-loop-port l =
    string_bytes l.text ++ fields_text (map field.Host (drop l.port-index l.ports)) ≡ string_bytes l.initial.text ++ fields_text (map field.Host l.ports)
