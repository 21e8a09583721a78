use Rattle.std.proofs.Common.{◌≡◌, ◌++◌, drop}
use Rattle.std.specs.List.{filter_map}
use Rattle.script_grammar.specs.Drafts.{net_in}
use Rattle.script_fields.proofs.drafts.nets_named.Given as goal

abbrev pub invariant-loop-field : goal.invariant-loop-field
invariant-loop-field l = filter_map net_in l.fields ≡ l.items ++ filter_map net_in (drop l.field-index l.fields)
