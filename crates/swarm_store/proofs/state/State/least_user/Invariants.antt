use Rattle.std.proofs.Common.{◌≡◌, ◌++◌, length, None}
use Rattle.std.specs.Ordering.{nat_cmp}
use Rattle.std.specs.Prelude.{filter, map}
use Rattle.swarm_objects.specs.NetworkUse.{service_uses, task_uses}
use Rattle.swarm_model.specs.Calls.Refusals.{users}
use Rattle.swarm_objects.specs.Rows.{least_by, rows_above, service_id, task_id}
use Rattle.swarm_store.proofs.state.State.least_user.Given as goal
use Rattle.swarm_store.specs.Inside.State.{tables_now}

abbrev pub invariant-loop-service : goal.invariant-loop-service
invariant-loop-service l =
    least_by nat_cmp l.least (
    map service_id (filter (service_uses l.network) (rows_above service_id l.after l.self.services.rows))
    ++ map task_id (filter (task_uses l.network) l.self.tasks.rows)
    ) ≡ least_by nat_cmp None (users (tables_now l.self) l.network)

abbrev pub decreases-loop-service : goal.decreases-loop-service
decreases-loop-service l = length (rows_above service_id l.after l.self.services.rows)

abbrev pub invariant-loop-task : goal.invariant-loop-task
invariant-loop-task l =
    least_by nat_cmp l.least (map task_id (filter (task_uses l.network) (rows_above task_id l.after l.self.tasks.rows)))
    ≡ least_by nat_cmp None (users (tables_now l.self) l.network)

abbrev pub decreases-loop-task : goal.decreases-loop-task
decreases-loop-task l = length (rows_above task_id l.after l.self.tasks.rows)
