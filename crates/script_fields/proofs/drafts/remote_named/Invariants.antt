use Rattle.std.proofs.Common.{◌≡◌, drop}
use Rattle.swarm_objects.specs.Defaults.{usual_node}
use Rattle.script_grammar.specs.Drafts.{named_or, remote_in}
use Rattle.script_fields.proofs.drafts.remote_named.Given as goal

abbrev pub invariant-loop-field : goal.invariant-loop-field
invariant-loop-field l = named_or remote_in usual_node.remote l.fields ≡ named_or remote_in usual_node.remote (drop l.field-index l.fields)
