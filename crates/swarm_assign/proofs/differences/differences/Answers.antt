use Rattle.std.proofs.Common.{ap, arith, length, subst, sym, ◌∙◌}
use Rattle.swarm_assign.proofs.Together.{put-end, put-next, steps}
use Rattle.swarm_assign.specs.Inside.Merging.{difference_of}
use Rattle.swarm_objects.specs.Agents.Messages.{assigned_task}
use Rattle.swarm_objects.specs.Rows.{IsRising}
use Rattle.swarm_assign.proofs.differences.differences.Goals as goal

pub loop-task-smaller : goal.loop-task-smaller
loop-task-smaller c =
    let s = steps assigned_task assigned_task difference_of c.in-Some.task c.loop-task.sent.now c.loop-task.due.now
    c.loop-task.invariant.one c.loop-task.invariant.two (sym c.least_task.ensures ∙ c.in-Some.is) in
    omega (arith, s.less, ap length c.rest_at-sent.ensures, ap length c.rest_at-due.ensures)

pub loop-task-preserved : goal.loop-task-preserved
loop-task-preserved c =
    let s = steps assigned_task assigned_task difference_of c.in-Some.task c.loop-task.sent.now c.loop-task.due.now
    c.loop-task.invariant.one c.loop-task.invariant.two (sym c.least_task.ensures ∙ c.in-Some.is) in
    record {
      one = subst (IsRising assigned_task) (sym c.rest_at-sent.ensures) s.rises_one;
      two = subst (IsRising assigned_task) (sym c.rest_at-due.ensures) s.rises_two;
      put =
          put-next assigned_task assigned_task difference_of c.in-Some.task c.loop-task.sent.now c.rest_at-sent.result.now
          c.loop-task.due.now c.rest_at-due.result.now c.loop-task.changes c.put.new.list _ s c.difference_at.ensures
          c.in_ok-put.ensures.ok c.rest_at-sent.ensures c.rest_at-due.ensures
          ∙ c.loop-task.invariant.put;
    }

pub returns : goal.returns
returns c =
    put-end assigned_task assigned_task difference_of c.loop-task.sent.now c.loop-task.due.now c.loop-task.changes _
    (sym c.least_task.ensures ∙ c.in_default.is) c.loop-task.invariant.put
