use Rattle.std.proofs.Common.{None, Some, refl}
use Rattle.plain_updates.proofs.UpdateSteps.{not_found, set_found}
use Rattle.swarm_objects.specs.Rows.{service_id}
use Rattle.swarm_objects.specs.declared.services.Service.{Service}
use Rattle.plain_updates.proofs.update_effects.set_run.Goals as goal

pub returns-in-None : goal.returns-in-None
returns-in-None c =
    let change = λ (s : Service). record s { version = c.args.version; run = c.args.run } in
    not_found service_id c.args.id change c.args.services.now None c.in-None.ensures refl

pub returns-in-Some : goal.returns-in-Some
returns-in-Some c =
    let change = λ (s : Service). record s { version = c.args.version; run = c.args.run } in
    set_found service_id c.args.id change c.args.services.now (Some c.in-Some.at) c.in-Some.at
    c.index-services-at.result _
    c.requires c.in-Some.ensures refl c.index-services-at.is refl
