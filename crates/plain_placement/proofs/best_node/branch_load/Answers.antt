use Rattle.std.proofs.Common.{rules}
use Rattle.swarm_objects.specs.Nodes.BestNode.{agrees}
use Rattle.swarm_objects.specs.Nodes.Filters.{here}
use Rattle.swarm_objects.specs.declared.nodes.Node.{Node}
use Rattle.swarm_plain.specs.Plain.{tables_of}
use Rattle.plain_placement.proofs.Sums.{added, passed_by}
use Rattle.plain_placement.proofs.best_node.branch_load.Goals as goal
use Rattle.plain_placement.proofs.best_node.branch_load.Goals.{then-agrees, else-agrees}

pub loop-other-preserved : goal.loop-other-preserved
loop-other-preserved c =
    let here_on = λ (m : Node). here (tables_of c.args.plain.now) m.id c.args.service in
    let test = agrees c.args.keys.now c.args.node.now in
    elim c.if-agrees.branch [
      | then-agrees w ↦ record {
        so_far =
            added here_on test c.as_slice-other-items.result.now c.loop-other.other-index c.other-item.result
            c.agrees.result c.loop-other.sum w.here.result c.if-agrees.sum c.loop-other-test.true c.other-item.is
            c.agrees.ensures w.if-agrees.true c.loop-other.invariant.so_far w.here.ensures w.sum-is;
        small = search rules;
      }
      | else-agrees w ↦ record {
        so_far =
            passed_by here_on test c.as_slice-other-items.result.now c.loop-other.other-index c.other-item.result
            c.agrees.result c.loop-other.sum c.if-agrees.sum c.loop-other-test.true c.other-item.is
            c.agrees.ensures w.if-agrees.false c.loop-other.invariant.so_far w.sum-is;
        small = search rules;
      }
    ]
