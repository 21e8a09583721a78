use Rattle.std.proofs.Common.{arith}
use Rattle.swarm_sched.proofs.Totalling.{bit_small, has_room, totals_are}
use Rattle.swarm_sched.proofs.totals.count_up.Goals as goal

pub with-totals-requires : goal.with-totals-requires
with-totals-requires g c =
    (has_room (g.R.Rows.tables c.args.rows.now) c.args.node c.args.service c.loop-task.totals c.loop-task.here
    c.in-Some.task.now c.loop-task.task-iterator c.next.new.self c.requires c.loop-task.invariant
    c.in-Some.ensures.steps).0

pub overflow_add-here : goal.overflow_add-here
overflow_add-here g c =
    let room = has_room (g.R.Rows.tables c.args.rows.now) c.args.node c.args.service c.loop-task.totals c.loop-task.here
    c.in-Some.task.now c.loop-task.task-iterator c.next.new.self c.requires c.loop-task.invariant
    c.in-Some.ensures.steps in
    omega (arith, room.1, c.bit.ensures, bit_small c.if-is_of.bit)

pub returns-clause-totals : goal.returns-clause-totals
returns-clause-totals g c =
    (totals_are (g.R.Rows.tables c.args.rows.now) c.args.node c.args.service c.loop-task.totals c.loop-task.here
    c.loop-task.task-iterator c.loop-task.invariant c.in-None.ensures.steps.0).1

pub returns-clause-here : goal.returns-clause-here
returns-clause-here g c =
    (totals_are (g.R.Rows.tables c.args.rows.now) c.args.node c.args.service c.loop-task.totals c.loop-task.here
    c.loop-task.task-iterator c.loop-task.invariant c.in-None.ensures.steps.0).0
