use Rattle.std.proofs.Common.{[], ◌∷◌, refl, ◌∙◌}
use Rattle.swarm_objects.specs.declared.duties.Duty.TheVariants as duty
use Rattle.swarm_plain.specs.Plain.{tables_of}
use Rattle.plain_placement.proofs.Scheduling.{scheduled}
use Rattle.plain_placement.proofs.scheduler.is_place_due.Goals as goal

pub returns : goal.returns
returns c =
    c.one_goes_to.ensures
    ∙ scheduled (tables_of c.args.plain.now) (duty.Place c.args.task c.args.node) c.args.task (c.args.node ∷ []) refl
