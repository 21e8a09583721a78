use Rattle.std.proofs.Common.{◌≡◌, [], drop, take}
use Rattle.swarm_objects.specs.Nodes.BestNode.{spread_cmp}
use Rattle.swarm_plain.specs.Plain.{world_of}
use Rattle.plain_placement.proofs.best_node.spread_cmp.Given as goal

abbrev pub invariant-loop-depth : goal.invariant-loop-depth
invariant-loop-depth l =
    let compare = spread_cmp (world_of l.plain).tables l.service in
    compare (take l.depth l.keys) (drop l.depth l.keys) l.a l.b ≡ compare [] l.keys l.a l.b
