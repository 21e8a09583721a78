use Rattle.std.proofs.Common.{◌≡◌, ◌++◌, drop}
use Rattle.std.specs.List.{filter_map}
use Rattle.script_grammar.specs.Drafts.{port_in}
use Rattle.script_fields.proofs.drafts.ports_named.Given as goal

abbrev pub invariant-loop-field : goal.invariant-loop-field
invariant-loop-field l = filter_map port_in l.fields ≡ l.items ++ filter_map port_in (drop l.field-index l.fields)
