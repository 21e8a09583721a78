use Rattle.std.proofs.Common.{◌≡◌, [], drop}
use Rattle.std.specs.List.{filter_map}
use Rattle.script_grammar.specs.Drafts.{engine_in, labels_onto}
use Rattle.script_fields.proofs.labels.engines_named.Given as goal

abbrev pub invariant-loop-field : goal.invariant-loop-field
invariant-loop-field l = labels_onto [] (filter_map engine_in l.fields) ≡ labels_onto l.labels (filter_map engine_in (drop l.field-index l.fields))
