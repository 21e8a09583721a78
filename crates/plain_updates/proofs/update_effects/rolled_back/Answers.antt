use Rattle.plain_updates.proofs.UpdateSteps.{rolled}
use Rattle.swarm_plain.specs.Plain.{tables_of}
use Rattle.plain_updates.proofs.update_effects.rolled_back.Goals as goal

pub returns : goal.returns
returns c =
    rolled (tables_of c.args.plain.now) c.args.version c.args.spec.now c.args.service.now c.in_ok-back.back
    c.in_ok-run.run'
    c.in_ok-back.ensures c.in_ok-run.ensures
