use Rattle.plain_updates.proofs.UpdateSteps.{finished, put_back}
use Rattle.swarm_objects.specs.Loops.Update.{change_run, finished_status, in_status}
use Rattle.swarm_objects.specs.Rows.{service_id}
use Rattle.swarm_plain.specs.Plain.{world_of}
use Rattle.plain_updates.proofs.update_effects.finish_update.Goals as goal

pub returns : goal.returns
returns c =
    let change = change_run (λ run. in_status (finished_status run.status) run) c.args.version in
    finished (world_of c.args.plain.now) c.args.version c.args.service _
    (put_back service_id c.args.service change c.args.plain.now.services c.as_mut_slice.result.now c.finish.new.services
    c.as_mut_slice.ensures.value c.finish.ensures)
