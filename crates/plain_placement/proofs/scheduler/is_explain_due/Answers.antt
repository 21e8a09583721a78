use Rattle.std.proofs.Common.{[], refl, ◌∙◌}
use Rattle.swarm_objects.specs.declared.duties.Duty.TheVariants as duty
use Rattle.swarm_plain.specs.Plain.{tables_of}
use Rattle.plain_placement.proofs.Scheduling.{scheduled}
use Rattle.plain_placement.proofs.scheduler.is_explain_due.Goals as goal

pub returns : goal.returns
returns c =
    c.is_one_explained.ensures
    ∙ scheduled (tables_of c.args.plain.now) (duty.Explain c.args.task) c.args.task [] refl
