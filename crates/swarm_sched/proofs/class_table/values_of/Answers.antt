use Rattle.std.proofs.Common.{length, subst}
use Rattle.std.specs.Borrow.{Bor}
use Rattle.swarm_objects.specs.declared.nodes.Node.{Node}
use Rattle.swarm_sched.proofs.Comparing.{rows_one}
use Rattle.swarm_sched.proofs.class_table.values_of.Goals as goal
use Rattle.swarm_sched.specs.Inside.ClassTable.{IsRow}

pub loop-class-preserved : goal.loop-class-preserved
loop-class-preserved c =
    rows_one c.in-Some.key.now c.args.heads.now c.loop-class.class c.loop-class.rows c.row_of.result
    c.index-heads-class.result c.loop-class-test.true c.requires
    (subst (λ (h : Bor Node). IsRow c.in-Some.key.now c.args.heads.now h.now (length c.args.heads.now) c.row_of.result)
    c.index-heads-class.is c.row_of.ensures) c.loop-class.invariant
