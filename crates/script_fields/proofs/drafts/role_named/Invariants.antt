use Rattle.std.proofs.Common.{◌≡◌, drop}
use Rattle.swarm_objects.specs.Defaults.{usual_node}
use Rattle.script_grammar.specs.Drafts.{named_or, role_in}
use Rattle.script_fields.proofs.drafts.role_named.Given as goal

abbrev pub invariant-loop-field : goal.invariant-loop-field
invariant-loop-field l = named_or role_in usual_node.role l.fields ≡ named_or role_in usual_node.role (drop l.field-index l.fields)
