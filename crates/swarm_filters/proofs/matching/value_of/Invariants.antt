use Rattle.std.proofs.Common.{◌≡◌, drop}
use Rattle.swarm_objects.specs.Nodes.Constraints.{label_value}
use Rattle.swarm_filters.proofs.matching.value_of.Given as goal

abbrev pub invariant-loop-label : goal.invariant-loop-label
invariant-loop-label l = label_value (drop l.label-index l.label-items) l.name ≡ label_value l.label-items l.name
