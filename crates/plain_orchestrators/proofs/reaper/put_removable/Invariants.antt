use Rattle.std.proofs.Common.{◌≡◌, ◌++◌, take}
use Rattle.swarm_objects.specs.Loops.Reaper.{is_removable}
use Rattle.swarm_objects.specs.Loops.Words.{duty_where}
use Rattle.swarm_objects.specs.declared.duties.Duty.TheVariants as duty
use Rattle.plain_orchestrators.proofs.reaper.put_removable.Given as goal

abbrev pub invariant-loop-task : goal.invariant-loop-task
invariant-loop-task l =
    l.duties
    ≡ l.initial.duties ++ duty_where is_removable (λ x. duty.Delete x.id) (take l.task-index l.task-items)
