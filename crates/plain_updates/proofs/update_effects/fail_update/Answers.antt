use Rattle.std.proofs.Common.{None, Some, ap, refl, ◌∙◌}
use Rattle.plain_updates.proofs.UpdateLists.{on_ok}
use Rattle.plain_updates.proofs.UpdateSteps.{back, halted, put_back}
use Rattle.swarm_objects.specs.Loops.Update.{change_run, in_status, paused_status}
use Rattle.swarm_objects.specs.Rows.{row_at, service_id}
use Rattle.swarm_plain.specs.Plain.{world_of}
use Rattle.plain_updates.proofs.update_effects.fail_update.Goals as goal

pub returns-in_ok-back-in-Some-spec_back-clause-ok : goal.returns-in_ok-back-in-Some-spec_back-clause-ok
returns-in_ok-back-in-Some-spec_back-clause-ok c =
    let v = c.in-Some.row.now in
    let spec = c.in-Some-spec_back.spec.now in
    on_ok c.put_row.result
    (back (world_of c.args.plain.now) c.args.version c.args.service v (Some v) spec (Some spec)
    c.in_ok-back-in-Some-spec_back.back c.put_row.new.rows
    (c.in-Some.ensures ∙ ap (row_at service_id c.args.service) c.as_slice.ensures) refl c.in-Some-spec_back.ensures refl
    c.in_ok-back-in-Some-spec_back.ensures)
    c.put_row.ensures.ok

pub returns-in-None-clause-ok : goal.returns-in-None-clause-ok
returns-in-None-clause-ok c =
    let v = c.in-Some.row.now in
    let change = change_run (λ run. in_status (paused_status run.status) run) c.args.version in
    halted (world_of c.args.plain.now) c.args.version c.args.service v (Some v) None _
    (c.in-Some.ensures ∙ ap (row_at service_id c.args.service) c.as_slice.ensures) refl
    c.in-None.ensures refl
    (put_back service_id c.args.service change c.args.plain.now.services c.as_mut_slice.result.now c.pause.new.services
    c.as_mut_slice.ensures.value c.pause.ensures)
