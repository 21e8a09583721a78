use Rattle.std.proofs.Common.{◌≡◌, ◌++◌, take}
use Rattle.swarm_objects.specs.Loops.Restart.{wants_raise}
use Rattle.swarm_objects.specs.Loops.Words.{duty_where}
use Rattle.swarm_objects.specs.declared.duties.Duty.TheVariants as duty
use Rattle.swarm_plain.specs.Plain.{tables_of}
use Rattle.plain_orchestrators.proofs.restart.put_raises.Given as goal

abbrev pub invariant-loop-task : goal.invariant-loop-task
invariant-loop-task l =
    let t = tables_of l.plain in
    l.duties ≡ l.initial.duties ++ duty_where (wants_raise t) (λ x. duty.Raise x.id) (take l.task-index l.task-items)
