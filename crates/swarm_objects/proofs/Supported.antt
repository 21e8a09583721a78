-- Where a platform is named, one has to be the node's.
use Rattle.std.proofs.Common.{◌≡◌, false, List, [], ◌∷◌, eqb, length, refl}
use Rattle.std.specs.List.{list_any}
use Rattle.swarm_objects.specs.Nodes.Filters.{is_platform, is_supported}
use Rattle.swarm_objects.specs.declared.nodes.Node.{Node}
use Rattle.swarm_objects.specs.declared.templates.Platform.{Platform}

pub one_named : (platforms : List Platform) (n : Node) → eqb (length platforms) 0 ≡ false →
    is_supported platforms n ≡ list_any (is_platform n) platforms
one_named [] n named = cc
one_named (p ∷ platforms) n named = refl
