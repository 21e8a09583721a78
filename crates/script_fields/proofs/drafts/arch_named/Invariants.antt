use Rattle.std.proofs.Common.{◌≡◌, drop}
use Rattle.swarm_objects.specs.Defaults.{usual_node}
use Rattle.script_grammar.specs.Drafts.{named_or, arch_in}
use Rattle.script_fields.proofs.drafts.arch_named.Given as goal

abbrev pub invariant-loop-field : goal.invariant-loop-field
invariant-loop-field l = named_or arch_in usual_node.arch l.fields ≡ named_or arch_in usual_node.arch (drop l.field-index l.fields)
