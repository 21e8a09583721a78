use Rattle.std.proofs.Common.{◌≡◌, drop}
use Rattle.swarm_objects.specs.Defaults.{usual_node}
use Rattle.script_grammar.specs.Drafts.{named_or, availability_in}
use Rattle.script_fields.proofs.drafts.availability_named.Given as goal

abbrev pub invariant-loop-field : goal.invariant-loop-field
invariant-loop-field l = named_or availability_in usual_node.availability l.fields ≡ named_or availability_in usual_node.availability (drop l.field-index l.fields)
