use Rattle.std.proofs.Common.{◌≡◌, drop}
use Rattle.script_grammar.specs.Drafts.{number_named}
use Rattle.script_fields.proofs.drafts.number_named.Given as goal

abbrev pub invariant-loop-field : goal.invariant-loop-field
invariant-loop-field l = number_named l.table l.which l.fields ≡ number_named l.table l.which (drop l.field-index l.fields)
