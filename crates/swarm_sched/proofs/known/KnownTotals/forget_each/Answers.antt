use Rattle.swarm_sched.proofs.Knowing.{forgetting_one}
use Rattle.swarm_sched.proofs.known.KnownTotals.forget_each.Goals as goal

pub loop-change-preserved : goal.loop-change-preserved
loop-change-preserved g c =
    forgetting_one (g.R.Rows.tables c.args.rows.now) c.args.changes.now c.loop-change.left.now c.in-Some.others.now
    c.args.self.now c.loop-change.self c.forget_by.new.self c.in-Some.change.now c.loop-change.invariant
    c.in-Some.ensures.cases.0 c.forget_by.ensures.fewer c.forget_by.ensures.gone
