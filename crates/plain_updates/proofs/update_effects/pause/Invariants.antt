use Rattle.std.proofs.Common.{◌≡◌, ◌++◌, drop, take}
use Rattle.swarm_objects.specs.Loops.Update.{change_run, in_status, paused_status}
use Rattle.swarm_objects.specs.Rows.{change_row, service_id}
use Rattle.plain_updates.proofs.update_effects.pause.Given as goal

abbrev pub invariant-loop-service : goal.invariant-loop-service
invariant-loop-service l =
    let change = change_row service_id l.id (change_run (λ run. in_status (paused_status run.status) run) l.version) in
    take l.service-index l.services ++ change (drop l.service-index l.services) ≡ change l.initial.services
