use Rattle.std.proofs.Common.{List, None, ap, ◌∙◌}
use Rattle.std.specs.Prelude.{filter}
use Rattle.plain_placement.specs.Inside.Filtering.{is_open}
use Rattle.swarm_objects.specs.Nodes.BestNode.{node_cmp}
use Rattle.swarm_objects.specs.Rows.{least_by}
use Rattle.swarm_objects.specs.declared.nodes.Node.{Node}
use Rattle.swarm_plain.specs.Plain.{tables_of}
use Rattle.plain_placement.proofs.Filtering.{best_is}
use Rattle.plain_placement.proofs.best_node.best_node.Goals as goal

pub loop-node-init : goal.loop-node-init
loop-node-init c =
    let t = tables_of c.args.plain.now in
    let x = c.args.task.now in
    record {
      best =
          ap (λ (nodes : List Node). least_by (node_cmp t x) None (filter (is_open t x) nodes))
          c.as_slice-node-items.ensures
          ∙ best_is t x;
      held = tt;
    }
