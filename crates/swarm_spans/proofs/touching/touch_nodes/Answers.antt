use Rattle.swarm_spans.proofs.Touches.{one_ready}
use Rattle.swarm_spans.proofs.touching.touch_nodes.Goals as goal

pub loop-change-preserved : goal.loop-change-preserved
loop-change-preserved c =
    one_ready c.args.changes.now c.loop-change.left.now c.in-Some.others.now c.args.span.now c.loop-change.span
    c.touch_ready.new.span c.in-Some.change.now c.loop-change.invariant c.in-Some.ensures.cases.0
    c.touch_ready.ensures.wider c.touch_ready.ensures.touches
