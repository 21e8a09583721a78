use Rattle.swarm_spans.specs.Spans.{empty}
use Rattle.swarm_world.proofs.ToldNodes.{told_one}
use Rattle.swarm_world.proofs.touched.touched_nodes.Goals as goal
use Rattle.swarm_world.specs.Inside.Records.{tables_of}

pub loop-change-preserved : goal.loop-change-preserved
loop-change-preserved c =
    told_one (tables_of c.args.records.now) c.args.changes.now c.loop-change.left.now c.in-Some.others.now
    empty c.loop-change.span c.touch_by.new.span c.in-Some.change.now c.loop-change.invariant
    c.in-Some.ensures.cases.0 c.touch_by.ensures.wider c.touch_by.ensures.touches
