use Rattle.swarm_objects.specs.Loops.Scheduler.{schedule}
use Rattle.swarm_spans.proofs.Firsts.{less_tasks, task_duty}
use Rattle.swarm_world.proofs.scheduling.first_scheduled.Goals as goal

pub returns-in-Some-schedule_after-clause-first : goal.returns-in-Some-schedule_after-clause-first
returns-in-Some-schedule_after-clause-first g c =
    let t = g.R.Rows.tables c.args.rows.now in
    task_duty (schedule t) t c.loop-task.span c.in-Some.task.now c.in-Some-schedule_after.duty
    c.loop-task.invariant.covers c.in-Some.ensures c.in-Some-schedule_after.ensures.first

pub loop-task-smaller : goal.loop-task-smaller
loop-task-smaller g c =
    less_tasks (g.R.Rows.tables c.args.rows.now) c.loop-task.span c.pass.new.self c.in-Some.task.now
    c.in-Some.ensures c.pass.ensures
