use Rattle.swarm_model.specs.Settle.{start_wait}
use Rattle.swarm_objects.specs.Rows.{task_id}
use Rattle.swarm_settle.proofs.Asking.{start_asked}
use Rattle.swarm_settle.proofs.GoingOver.{begins, covers_giving, ends, goes_on}
use Rattle.swarm_settle.proofs.waits.start_waits.Goals as goal
use Rattle.swarm_spans.proofs.Firsts.{less_tasks}
use Rattle.swarm_spans.specs.Lines.{to_wait}
use Rattle.swarm_spans.specs.Spans.{has_duty}

pub loop-task-init : goal.loop-task-init
loop-task-init g c =
    let t = g.R.Rows.tables c.args.rows.now in
    begins task_id (start_wait t) t.tasks c.args.asked c.args.best
    (covers_giving task_id (has_duty (to_wait t)) (start_wait t) c.args.asked t.tasks (start_asked t) c.requires.asked)

pub loop-task-preserved : goal.loop-task-preserved
loop-task-preserved g c =
    let t = g.R.Rows.tables c.args.rows.now in
    goes_on task_id (start_wait t) t.tasks c.loop-task.left c.pass.new.self c.args.best c.loop-task.least
    c.start_wait-least.result c.in-Some.task.now c.requires.usable.sound.ordered.tasks c.loop-task.invariant
    c.in-Some.ensures c.start_wait-least.ensures c.pass.ensures

pub loop-task-smaller : goal.loop-task-smaller
loop-task-smaller g c =
    less_tasks (g.R.Rows.tables c.args.rows.now) c.loop-task.left c.pass.new.self c.in-Some.task.now
    c.in-Some.ensures c.pass.ensures

pub returns : goal.returns
returns g c =
    let t = g.R.Rows.tables c.args.rows.now in
    ends task_id (start_wait t) t.tasks c.loop-task.left c.args.best c.loop-task.least c.loop-task.invariant
    c.in_default.ensures
