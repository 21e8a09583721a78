use Rattle.std.proofs.Common.{◌≡◌, take}
use Rattle.std.specs.Prelude.{map}
use Rattle.swarm_objects.specs.Nodes.Constraints.{key_value}
use Rattle.swarm_spread.proofs.values.path_of.Given as goal

abbrev pub invariant-loop-key : goal.invariant-loop-key
invariant-loop-key l = l.path ≡ map (key_value l.node) (take l.key-index l.keys)
