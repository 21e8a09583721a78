use Rattle.std.proofs.Common.{◌≡◌, ◌≤◌, ◌*◌, ◌^◌, take}
use Rattle.std.specs.Prelude.{filter, sum_by}
use Rattle.swarm_objects.specs.Nodes.BestNode.{agrees}
use Rattle.swarm_objects.specs.Nodes.Filters.{here}
use Rattle.swarm_objects.specs.declared.nodes.Node.{Node}
use Rattle.swarm_plain.specs.Plain.{world_of}
use Rattle.plain_placement.proofs.best_node.branch_load.Given as goal

abbrev pub invariant-loop-other : goal.invariant-loop-other
invariant-loop-other l = record {
  so_far :
      let here_on = λ (m : Node). here (world_of l.plain).tables m.id l.service in
      l.sum ≡ sum_by here_on (filter (agrees l.keys l.node) (take l.other-index l.other-items));
  small : l.sum ≤ l.other-index * 2 ^ 64;
}
