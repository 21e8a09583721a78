use Rattle.std.proofs.Common.{◌≡◌}
use Rattle.swarm_objects.specs.Loops.Restart.{wants_raise}
use Rattle.swarm_objects.specs.Loops.Words.{duty_where}
use Rattle.swarm_objects.specs.Rows.{first_of}
use Rattle.swarm_objects.specs.declared.duties.Duty.TheVariants as duty
use Rattle.swarm_restart.proofs.first_raise.Given as goal

abbrev pub invariant-loop-task : goal.invariant-loop-task
invariant-loop-task g l =
    let t = g.R.Rows.tables l.rows in
    first_of (duty_where (wants_raise t) (λ x. duty.Raise x.id) l.task-iterator)
    ≡ first_of (duty_where (wants_raise t) (λ x. duty.Raise x.id) t.tasks)
