use Rattle.std.proofs.Common.{◌≡◌, take}
use Rattle.swarm_objects.specs.Loops.Enforcer.{is_misplaced}
use Rattle.swarm_objects.specs.Loops.Words.{duty_where}
use Rattle.swarm_objects.specs.declared.duties.Duty.TheVariants as duty
use Rattle.swarm_plain.specs.Plain.{tables_of}
use Rattle.plain_orchestrators.proofs.enforcer.enforcer_duties.Given as goal

abbrev pub invariant-loop-task : goal.invariant-loop-task
invariant-loop-task l =
    l.duties ≡ duty_where (is_misplaced (tables_of l.plain)) (λ x. duty.Reject x.id) (take l.task-index l.task-items)
