use Rattle.std.proofs.Common.{◌≡◌, drop}
use Rattle.swarm_objects.specs.Defaults.{usual_node}
use Rattle.script_grammar.specs.Drafts.{named_or, os_in}
use Rattle.script_fields.proofs.drafts.os_named.Given as goal

abbrev pub invariant-loop-field : goal.invariant-loop-field
invariant-loop-field l = named_or os_in usual_node.os l.fields ≡ named_or os_in usual_node.os (drop l.field-index l.fields)
