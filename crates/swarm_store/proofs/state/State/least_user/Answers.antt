use Rattle.std.proofs.Common.{◌∙◌, ap, sym, None, cond}
use Rattle.std.specs.Option.{option_copied}
use Rattle.std.specs.Ordering.{nat_cmp}
use Rattle.std.specs.Prelude.{filter, map}
use Rattle.swarm_objects.specs.NetworkUse.{service_uses, task_uses}
use Rattle.swarm_model.specs.Calls.Refusals.{users}
use Rattle.swarm_objects.proofs.RowLemmas.{fewer_above}
use Rattle.swarm_objects.specs.Rows.{keep_least, least_by, service_id, task_id}
use Rattle.swarm_store.proofs.Least.{least-begins, least-ends, least-next, least-next_last, least-turns}
use Rattle.swarm_store.proofs.state.State.least_user.Goals as goal
use Rattle.swarm_store.specs.Inside.State.{tables_now}

pub loop-service-init : goal.loop-service-init
loop-service-init c =
    let t = tables_now c.args.self.now in
    least-begins service_id (service_uses c.args.network) t.services (map task_id (filter (task_uses c.args.network) t.tasks)) None
    c.requires.ordered.services

pub loop-service-smaller : goal.loop-service-smaller
loop-service-smaller c =
    fewer_above service_id c.loop-service.after c.args.self.now.services.rows c.in-Some.service.now c.requires.ordered.services
    (ap option_copied (sym c.in-Some.is) ∙ c.next_service.ensures)

pub loop-service-preserved : goal.loop-service-preserved
loop-service-preserved c =
    let t = tables_now c.args.self.now in
    let s = c.in-Some.service.now in
    least-next service_id (service_uses c.args.network) c.loop-service.after t.services s c.loop-service.least
    c.keep_user-least.result (map task_id (filter (task_uses c.args.network) t.tasks))
    (least_by nat_cmp None (users t c.args.network)) c.requires.ordered.services
    (ap option_copied (sym c.in-Some.is) ∙ c.next_service.ensures)
    (c.keep_user-least.ensures
    ∙ ap (λ b. cond b (keep_least nat_cmp c.loop-service.least s.id) c.loop-service.least) c.service_uses.ensures)
    c.loop-service.invariant

pub loop-task-init : goal.loop-task-init
loop-task-init c =
    let t = tables_now c.args.self.now in
    least-turns service_id (service_uses c.args.network) c.loop-service.after t.services task_id (task_uses c.args.network) t.tasks
    c.loop-service.least (least_by nat_cmp None (users t c.args.network))
    (ap option_copied (sym c.in_default.is) ∙ c.next_service.ensures) c.requires.ordered.tasks c.loop-service.invariant

pub loop-task-smaller : goal.loop-task-smaller
loop-task-smaller c =
    fewer_above task_id c.loop-task.after c.args.self.now.tasks.rows c.in-Some-next_task.task.now c.requires.ordered.tasks
    (ap option_copied (sym c.in-Some-next_task.is) ∙ c.next_task.ensures)

pub loop-task-preserved : goal.loop-task-preserved
loop-task-preserved c =
    let t = tables_now c.args.self.now in
    let x = c.in-Some-next_task.task.now in
    least-next_last task_id (task_uses c.args.network) c.loop-task.after t.tasks x c.loop-task.least c.keep_user-least-in-Some-next_task.result
    (least_by nat_cmp None (users t c.args.network)) c.requires.ordered.tasks
    (ap option_copied (sym c.in-Some-next_task.is) ∙ c.next_task.ensures)
    (c.keep_user-least-in-Some-next_task.ensures
    ∙ ap (λ b. cond b (keep_least nat_cmp c.loop-task.least x.id) c.loop-task.least) c.task_uses.ensures)
    c.loop-task.invariant

pub returns : goal.returns
returns c =
    let t = tables_now c.args.self.now in
    least-ends task_id (task_uses c.args.network) c.loop-task.after t.tasks c.loop-task.least
    (least_by nat_cmp None (users t c.args.network)) (ap option_copied (sym c.in_default-next_task.is) ∙ c.next_task.ensures)
    c.loop-task.invariant
