use Rattle.std.proofs.Common.{◌≡◌, drop}
use Rattle.swarm_objects.specs.Defaults.{usual_restart}
use Rattle.script_grammar.specs.Drafts.{named_or, restart_in}
use Rattle.script_fields.proofs.drafts.restart_named.Given as goal

abbrev pub invariant-loop-field : goal.invariant-loop-field
invariant-loop-field l = named_or restart_in usual_restart.condition l.fields ≡ named_or restart_in usual_restart.condition (drop l.field-index l.fields)
