use Rattle.std.proofs.Common.{subst, sym}
use Rattle.swarm_objects.specs.Rows.{task_id}
use Rattle.swarm_spans.proofs.Firsts.{less_tasks}
use Rattle.swarm_spans.proofs.Narrowing.{narrow_begins, narrow_ends, narrow_goes_on}
use Rattle.swarm_spans.proofs.first.narrowed.Goals as goal
use Rattle.swarm_spans.specs.Spans.{Covers, has_duty, is_left_out}

pub loop-task-init : goal.loop-task-init
loop-task-init g c =
    let t = g.R.Rows.tables c.args.rows.now in
    narrow_begins task_id (has_duty (g.L.TaskLine.duties t)) _ c.args.span t.tasks c.requires.covers

pub loop-task-preserved : goal.loop-task-preserved
loop-task-preserved g c =
    let t = g.R.Rows.tables c.args.rows.now in
    let duties = g.L.TaskLine.duties t in
    let x = c.in-Some.task.now in
    subst (λ s. Covers task_id (is_left_out task_id (has_duty duties) c.with_task-narrow.result) s t.tasks)
    (sym c.pass.ensures)
    (narrow_goes_on duties t c.loop-task.narrow c.with_task-narrow.result c.loop-task.left x c.requires.usable
    c.loop-task.invariant c.in-Some.ensures c.with_task-narrow.ensures)

pub loop-task-smaller : goal.loop-task-smaller
loop-task-smaller g c =
    less_tasks (g.R.Rows.tables c.args.rows.now) c.loop-task.left c.pass.new.self c.in-Some.task.now
    c.in-Some.ensures c.pass.ensures

pub returns : goal.returns
returns g c =
    let t = g.R.Rows.tables c.args.rows.now in
    narrow_ends task_id (has_duty (g.L.TaskLine.duties t)) c.loop-task.narrow c.loop-task.left t.tasks c.loop-task.invariant
    c.in_default.ensures
