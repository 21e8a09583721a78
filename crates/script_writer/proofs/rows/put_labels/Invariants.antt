use Rattle.std.proofs.Common.{◌≡◌, ◌++◌, drop, map, string_bytes}
use Rattle.script_grammar.specs.Pieces.{label_field}
use Rattle.script_writer.specs.Behind.{fields_text}
use Rattle.script_writer.proofs.rows.put_labels.Given as goal

abbrev pub invariant-loop-label : goal.invariant-loop-label
invariant-loop-label l =
    string_bytes l.text ++ fields_text (map label_field (drop l.label-index l.labels)) ≡ string_bytes l.initial.text ++ fields_text (map label_field l.labels)
