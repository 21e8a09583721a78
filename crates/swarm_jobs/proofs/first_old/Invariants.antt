use Rattle.std.proofs.Common.{◌≡◌}
use Rattle.swarm_objects.specs.Loops.Jobs.{is_old}
use Rattle.swarm_objects.specs.Loops.Words.{duty_where}
use Rattle.swarm_objects.specs.Rows.{first_of}
use Rattle.swarm_objects.specs.declared.duties.Duty.TheVariants as duty
use Rattle.swarm_jobs.proofs.first_old.Given as goal

abbrev pub invariant-loop-task : goal.invariant-loop-task
invariant-loop-task g l =
    let t = g.R.Rows.tables l.rows in
    first_of (duty_where (is_old t) (λ x. duty.Old x.id) l.task-iterator)
    ≡ first_of (duty_where (is_old t) (λ x. duty.Old x.id) t.tasks)
