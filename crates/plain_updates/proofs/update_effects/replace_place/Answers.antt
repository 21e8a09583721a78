use Rattle.std.proofs.Common.{Some, ap, refl, ◌∙◌}
use Rattle.plain_updates.proofs.UpdateSteps.{put_back, replaced}
use Rattle.swarm_objects.specs.Rows.{row_at, service_id}
use Rattle.swarm_objects.specs.declared.services.Service.{Service}
use Rattle.swarm_plain.specs.Plain.{world_of}
use Rattle.plain_updates.proofs.update_effects.replace_place.Goals as goal

pub returns-clause-ok : goal.returns-clause-ok
returns-clause-ok c =
    let v = c.in-Some.row.now in
    let u = c.in-Some-service_at.row.now in
    let new = c.in_ok-new.new in
    let change = λ (s : Service). record s { version = c.args.version; run = new.run } in
    replaced (world_of c.args.plain.now) c.args.version c.args.service c.args.number v u (Some v) new.run new.task
    c.put_last.new.tasks _ c.requires.order.services c.in-Some.ensures refl
    (c.in-Some-service_at.ensures ∙ ap (row_at service_id c.args.service) c.as_slice.ensures) c.in_ok-new.ensures.run
    c.in_ok-new.ensures.task c.in_ok-put_last.ensures.ok
    (put_back service_id c.args.service change c.args.plain.now.services c.as_mut_slice.result.now
    c.set_run.new.services
    c.as_mut_slice.ensures.value c.set_run.ensures)
