use Rattle.std.proofs.Common.{◌≡◌}
use Rattle.swarm_objects.specs.Loops.Dispatcher.{is_orphaned}
use Rattle.swarm_objects.specs.Loops.Words.{duty_where}
use Rattle.swarm_objects.specs.Rows.{first_of}
use Rattle.swarm_objects.specs.declared.duties.Duty.TheVariants as duty
use Rattle.swarm_sessions.proofs.dispatching.scan_orphaned.Given as goal

abbrev pub invariant-loop-task : goal.invariant-loop-task
invariant-loop-task g l =
    let t = g.R.Rows.tables l.rows in
    first_of (duty_where (is_orphaned t) (λ x. duty.Orphan x.id) l.task-iterator)
    ≡ first_of (duty_where (is_orphaned t) (λ x. duty.Orphan x.id) t.tasks)
