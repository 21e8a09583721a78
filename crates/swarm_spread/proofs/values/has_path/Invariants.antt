use Rattle.std.proofs.Common.{◌≡◌, take}
use Rattle.std.specs.Prelude.{map}
use Rattle.swarm_objects.specs.Nodes.Constraints.{key_value}
use Rattle.swarm_spread.proofs.values.has_path.Given as goal

abbrev pub invariant-loop-place : goal.invariant-loop-place
invariant-loop-place l = take l.place l.path ≡ map (key_value l.node) (take l.place l.keys)
