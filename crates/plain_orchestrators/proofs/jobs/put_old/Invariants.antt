use Rattle.std.proofs.Common.{◌≡◌, ◌++◌, take}
use Rattle.swarm_objects.specs.Loops.Jobs.{is_old}
use Rattle.swarm_objects.specs.Loops.Words.{duty_where}
use Rattle.swarm_objects.specs.declared.duties.Duty.TheVariants as duty
use Rattle.swarm_plain.specs.Plain.{tables_of}
use Rattle.plain_orchestrators.proofs.jobs.put_old.Given as goal

abbrev pub invariant-loop-task : goal.invariant-loop-task
invariant-loop-task l =
    let t = tables_of l.plain in
    l.duties ≡ l.initial.duties ++ duty_where (is_old t) (λ x. duty.Old x.id) (take l.task-index l.task-items)
