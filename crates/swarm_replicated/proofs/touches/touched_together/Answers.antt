use Rattle.swarm_replicated.proofs.Reaching.{more-only, touch-next}
use Rattle.swarm_replicated.proofs.touches.touched_together.Goals as goal
use Rattle.swarm_replicated.specs.Inside.Touches.{touches_only}

pub returns-in-More : goal.returns-in-More
returns-in-More g c = more-only (touches_only (g.R.Rows.tables c.args.rows.now)) c.args.changes.now

pub loop-change-preserved : goal.loop-change-preserved
loop-change-preserved g c =
    touch-next (g.R.Rows.tables c.args.rows.now) c.loop-change.together c.touched.result c.joined-together.result
    c.args.changes.now c.loop-change.change-index c.change-item.result c.loop-change-test.true c.change-item.is
    c.touched.ensures c.joined-together.ensures c.loop-change.invariant
