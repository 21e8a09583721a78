use Rattle.std.proofs.Common.{◌≡◌, drop}
use Rattle.swarm_objects.specs.Defaults.{usual_update}
use Rattle.script_grammar.specs.Drafts.{named_or, failure_in}
use Rattle.script_fields.proofs.drafts.failure_named.Given as goal

abbrev pub invariant-loop-field : goal.invariant-loop-field
invariant-loop-field l = named_or failure_in usual_update.action l.fields ≡ named_or failure_in usual_update.action (drop l.field-index l.fields)
