use Rattle.std.proofs.Common.{◌≡◌, ◌++◌, drop}
use Rattle.std.specs.List.{filter_map}
use Rattle.script_grammar.specs.Drafts.{spread_in}
use Rattle.script_fields.proofs.drafts.spreads_named.Given as goal

abbrev pub invariant-loop-field : goal.invariant-loop-field
invariant-loop-field l = filter_map spread_in l.fields ≡ l.items ++ filter_map spread_in (drop l.field-index l.fields)
