use Rattle.swarm_objects.specs.Rows.{node_id}
use Rattle.swarm_objects.specs.declared.rows.Change.TheVariants as change
use Rattle.swarm_spans.proofs.Timing.{put_grows}
use Rattle.swarm_spans.proofs.Touches.{none-touched, one-touched}
use Rattle.swarm_spans.proofs.passing.add_put_nodes.Goals as goal
use Rattle.swarm_spans.specs.Timed.{AddsNode}

pub loop-change-init : goal.loop-change-init
loop-change-init g c = none-touched (AddsNode g.T.NodeTest.test) c.args.changes.now c.args.span.now

pub loop-change-preserved : goal.loop-change-preserved
loop-change-preserved g c =
    one-touched (AddsNode g.T.NodeTest.test) (put_grows node_id change.PutNode g.T.NodeTest.test) c.args.changes.now
    c.loop-change.left.now c.in-Some.others.now c.args.span.now c.loop-change.span c.add_put_node.new.span
    c.in-Some.change.now c.loop-change.invariant c.in-Some.ensures.cases.0 c.add_put_node.ensures.wider
    c.add_put_node.ensures.adds
