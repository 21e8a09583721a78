use Rattle.std.proofs.Common.{Some, ap, refl, ◌∙◌}
use Rattle.plain_updates.proofs.UpdateSteps.{put_back, started}
use Rattle.swarm_objects.specs.Loops.Update.{new_run, with_run}
use Rattle.swarm_objects.specs.Rows.{row_at, service_id}
use Rattle.swarm_objects.specs.declared.services.RunStatus.{RunStatus}
use Rattle.swarm_plain.specs.Plain.{tables_of, world_of}
use Rattle.plain_updates.proofs.update_effects.start_update.Goals as goal

pub returns-clause-ok : goal.returns-clause-ok
returns-clause-ok c =
    let t = tables_of c.args.plain.now in
    let v = c.in-Some.row.now in
    let run = c.in_ok-run.run' in
    started (world_of c.args.plain.now) c.args.version c.args.service v (Some v) run _
    (c.in-Some.ensures ∙ ap (row_at service_id c.args.service) c.as_slice.ensures) refl
    (c.in_ok-run.ensures ∙ ap (λ (st : RunStatus). new_run t v st) c.start_status.ensures)
    (put_back service_id c.args.service (with_run c.args.version run) c.args.plain.now.services
    c.as_mut_slice.result.now
    c.set_run.new.services c.as_mut_slice.ensures.value c.set_run.ensures)
