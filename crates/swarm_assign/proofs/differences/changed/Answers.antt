use Rattle.std.proofs.Common.{ap, arith, length, subst, sym, ◌∙◌}
use Rattle.swarm_assign.proofs.Together.{put-end, put-next, steps}
use Rattle.swarm_assign.specs.Inside.Merging.{change_task, left_of}
use Rattle.swarm_objects.specs.Agents.Messages.{assigned_task}
use Rattle.swarm_objects.specs.Rows.{IsRising}
use Rattle.swarm_assign.proofs.differences.changed.Goals as goal

pub loop-task-smaller : goal.loop-task-smaller
loop-task-smaller c =
    let s = steps change_task assigned_task left_of c.in-Some.task c.loop-task.changes.now c.loop-task.told.now
    c.loop-task.invariant.one c.loop-task.invariant.two (sym c.least_task.ensures ∙ c.in-Some.is) in
    omega (arith, s.less, ap length c.rest_at-changes.ensures, ap length c.rest_at-told.ensures)

pub loop-task-preserved : goal.loop-task-preserved
loop-task-preserved c =
    let s = steps change_task assigned_task left_of c.in-Some.task c.loop-task.changes.now c.loop-task.told.now
    c.loop-task.invariant.one c.loop-task.invariant.two (sym c.least_task.ensures ∙ c.in-Some.is) in
    record {
      one = subst (IsRising change_task) (sym c.rest_at-changes.ensures) s.rises_one;
      two = subst (IsRising assigned_task) (sym c.rest_at-told.ensures) s.rises_two;
      put =
          put-next change_task assigned_task left_of c.in-Some.task c.loop-task.changes.now c.rest_at-changes.result.now
          c.loop-task.told.now c.rest_at-told.result.now c.loop-task.left c.put.new.list _ s c.left_at.ensures
          c.in_ok-put.ensures.ok c.rest_at-changes.ensures c.rest_at-told.ensures
          ∙ c.loop-task.invariant.put;
    }

pub returns : goal.returns
returns c =
    put-end change_task assigned_task left_of c.loop-task.changes.now c.loop-task.told.now c.loop-task.left _
    (sym c.least_task.ensures ∙ c.in_default.is) c.loop-task.invariant.put
