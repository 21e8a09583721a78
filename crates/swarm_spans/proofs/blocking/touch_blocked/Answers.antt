use Rattle.swarm_spans.proofs.Blocked.{one_blocked}
use Rattle.swarm_spans.proofs.blocking.touch_blocked.Goals as goal

pub loop-change-preserved : goal.loop-change-preserved
loop-change-preserved g c =
    one_blocked (g.R.Rows.tables c.args.rows.now) c.args.waiting.now c.args.changes.now c.loop-change.left.now
    c.in-Some.others.now c.args.span.now c.loop-change.span c.touch_by.new.span c.in-Some.change.now
    c.loop-change.invariant c.in-Some.ensures.cases.0 c.touch_by.ensures.wider c.touch_by.ensures.touches
