use Rattle.std.proofs.Common.{[], refl, ◌∙◌}
use Rattle.swarm_objects.specs.declared.duties.Duty.TheVariants as duty
use Rattle.swarm_plain.specs.Plain.{tables_of}
use Rattle.plain_placement.proofs.Scheduling.{scheduled}
use Rattle.plain_placement.proofs.scheduler.is_drop_due.Goals as goal

pub returns : goal.returns
returns c =
    c.is_one_dropped.ensures
    ∙ scheduled (tables_of c.args.plain.now) (duty.Drop c.args.task) c.args.task [] refl
