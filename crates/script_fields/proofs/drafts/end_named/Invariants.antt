use Rattle.std.proofs.Common.{◌≡◌, drop}
use Rattle.swarm_objects.specs.Defaults.{usual_workload}
use Rattle.script_grammar.specs.Drafts.{named_or, end_in}
use Rattle.script_fields.proofs.drafts.end_named.Given as goal

abbrev pub invariant-loop-field : goal.invariant-loop-field
invariant-loop-field l = named_or end_in usual_workload.end l.fields ≡ named_or end_in usual_workload.end (drop l.field-index l.fields)
