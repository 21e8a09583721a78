use Rattle.std.proofs.Common.{◌≡◌, drop}
use Rattle.swarm_objects.specs.Defaults.{usual_mode}
use Rattle.script_grammar.specs.Drafts.{named_or, mode_in}
use Rattle.script_fields.proofs.drafts.mode_named.Given as goal

abbrev pub invariant-loop-field : goal.invariant-loop-field
invariant-loop-field l = named_or mode_in usual_mode l.fields ≡ named_or mode_in usual_mode (drop l.field-index l.fields)
