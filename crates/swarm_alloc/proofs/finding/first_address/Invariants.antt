use Rattle.std.proofs.Common.{◌≡◌}
use Rattle.swarm_objects.specs.Loops.Allocator.{gets_address}
use Rattle.swarm_objects.specs.Loops.Words.{duty_where}
use Rattle.swarm_objects.specs.Rows.{first_of}
use Rattle.swarm_objects.specs.declared.duties.Duty.TheVariants as duty
use Rattle.swarm_alloc.proofs.finding.first_address.Given as goal

abbrev pub invariant-loop-task : goal.invariant-loop-task
invariant-loop-task g l =
    let t = g.R.Rows.tables l.rows in
    first_of (duty_where (gets_address t) (λ x. duty.Address x.id) l.task-iterator)
    ≡ first_of (duty_where (gets_address t) (λ x. duty.Address x.id) t.tasks)
