use Rattle.std.proofs.Common.{arith, get_or, ◌+◌}
use Rattle.swarm_sched.proofs.Classing.{below_all, below_one, class_small, greater_of}
use Rattle.swarm_sched.proofs.classes.class_count.Goals as goal
use Rattle.swarm_sched.specs.declared.classes.ClassedNode.{ClassedNode}
use Rattle.swarm_sched.specs.declared.classes.TheConstants.{CLASSES}

pub overflow_add-entry : goal.overflow_add-entry
overflow_add-entry c =
    let small = class_small c.args.sorted.now c.loop-entry.entry-index (record { id = 0; class = 0 }) c.requires
    c.loop-entry-test.true in
    omega (arith, small)

pub loop-entry-preserved : goal.loop-entry-preserved
loop-entry-preserved c =
    let d : ClassedNode = record { id = 0; class = 0 } in
    let small = class_small c.args.sorted.now c.loop-entry.entry-index d c.requires c.loop-entry-test.true in
    let most = greater_of c.loop-entry.count ((get_or c.args.sorted.now c.loop-entry.entry-index d).class + 1)
    c.max-count.result CLASSES c.max-count.ensures c.loop-entry.invariant.few (omega (arith, small)) in
    below_one c.args.sorted.now c.loop-entry.entry-index c.loop-entry.count c.max-count.result d
    c.loop-entry.invariant most.0 (omega (arith, most.1)) most.2 c.loop-entry-test.true

pub returns : goal.returns
returns c =
    below_all c.args.sorted.now c.loop-entry.entry-index c.loop-entry.count (omega (arith, c.loop-entry-test.false))
    c.loop-entry.invariant
