use Rattle.std.proofs.Common.{◌≡◌}
use Rattle.std.specs.Prelude.{filter, flat_map}
use Rattle.swarm_model.specs.Settle.{remote_wait, wait_cmp}
use Rattle.swarm_objects.specs.Rows.{least_by}
use Rattle.swarm_objects.specs.Tasks.Words.{is_on}
use Rattle.swarm_settle.proofs.waits.reports_on.Given as goal
use Rattle.swarm_settle.specs.Standing.{with_sessions}

abbrev pub invariant-loop-task : goal.invariant-loop-task
invariant-loop-task g l =
    let t = with_sessions (g.R.Rows.tables l.rows) l.sessions in
    least_by wait_cmp l.least (flat_map (remote_wait t) l.task-iterator)
    ≡ least_by wait_cmp l.fn.best (flat_map (remote_wait t) (filter (is_on l.node) t.tasks))
