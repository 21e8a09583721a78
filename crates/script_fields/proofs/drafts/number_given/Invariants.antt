use Rattle.std.proofs.Common.{◌≡◌, drop}
use Rattle.script_grammar.specs.Drafts.{number_given}
use Rattle.script_fields.proofs.drafts.number_given.Given as goal

abbrev pub invariant-loop-field : goal.invariant-loop-field
invariant-loop-field l = number_given l.which l.fields ≡ number_given l.which (drop l.field-index l.fields)
