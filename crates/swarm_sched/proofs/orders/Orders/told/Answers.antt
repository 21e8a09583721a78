use Rattle.std.proofs.Common.{ap, arith, get_or, subst, sym, ◌∙◌, ◌+◌}
use Rattle.std.specs.Ordering.{ordering_then}
use Rattle.std.specs.declared.cmp.Ordering.TheVariants.{Less}
use Rattle.swarm_sched.proofs.Comparing.{told_none, told_one}
use Rattle.swarm_sched.proofs.orders.Orders.told.Goals as goal
use Rattle.swarm_sched.specs.Inside.ClassTable.{AreTold}

pub loop-class-init : goal.loop-class-init
loop-class-init c =
    subst (AreTold c.args.loads.now c.args.load c.args.values.now 0) (sym c.new-orders.ensures)
    (told_none c.args.loads.now c.args.load c.args.values.now)

pub loop-class-preserved : goal.loop-class-preserved
loop-class-preserved c =
    subst (AreTold c.args.loads.now c.args.load c.args.values.now (c.loop-class.class + 1)) (sym c.set.ensures)
    (told_one c.args.loads.now c.args.load c.args.values.now c.loop-class.class c.loop-class.orders c.then.result
    (omega (arith, c.loop-class-test.true, c.requires))
    (c.then.ensures ∙ ap (λ o. ordering_then o (get_or c.args.values.now c.loop-class.class Less)) c.cmp.ensures)
    c.loop-class.invariant)
