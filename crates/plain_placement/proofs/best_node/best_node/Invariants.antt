use Rattle.std.proofs.Common.{◌≡◌, drop}
use Rattle.std.specs.Option.{option_copied}
use Rattle.std.specs.Prelude.{filter}
use Rattle.plain_placement.specs.Inside.Filtering.{is_open}
use Rattle.plain_placement.specs.Inside.Loads.{HoldsBest}
use Rattle.swarm_objects.specs.Nodes.BestNode.{best_node, node_cmp}
use Rattle.swarm_objects.specs.Rows.{least_by}
use Rattle.swarm_plain.specs.Plain.{world_of}
use Rattle.plain_placement.proofs.best_node.best_node.Given as goal

abbrev pub invariant-loop-node : goal.invariant-loop-node
invariant-loop-node l =
    let t = (world_of l.plain).tables in
    record {
      best :
          least_by (node_cmp t l.task) (option_copied l.best)
          (filter (is_open t l.task) (drop l.node-index l.node-items))
          ≡ best_node t l.task;
      held : HoldsBest t l.task.service (option_copied l.best) l.best_load;
    }
