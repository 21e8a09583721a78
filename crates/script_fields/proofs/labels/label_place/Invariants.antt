use Rattle.std.proofs.Common.{◌≡◌, ◌+◌, drop}
use Rattle.script_grammar.specs.Drafts.{label_place}
use Rattle.script_fields.proofs.labels.label_place.Given as goal

abbrev pub invariant-loop-label : goal.invariant-loop-label
invariant-loop-label l = (l.place ≡ l.label-index) × (label_place l.key l.labels ≡ l.place + label_place l.key (drop l.label-index l.labels))
