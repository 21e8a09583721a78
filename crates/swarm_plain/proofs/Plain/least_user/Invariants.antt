use Rattle.std.proofs.Common.{◌≡◌, ◌++◌, drop, None}
use Rattle.std.specs.Ordering.{nat_cmp}
use Rattle.std.specs.Prelude.{filter, map}
use Rattle.swarm_objects.specs.NetworkUse.{service_uses, task_uses}
use Rattle.swarm_model.specs.Calls.Refusals.{users}
use Rattle.swarm_objects.specs.Rows.{least_by, service_id, task_id}
use Rattle.swarm_plain.specs.Plain.{tables_of}
use Rattle.swarm_plain.proofs.Plain.least_user.Given as goal

abbrev pub invariant-loop-service : goal.invariant-loop-service
invariant-loop-service l =
    least_by nat_cmp l.least (
    map service_id (filter (service_uses l.network) (drop l.service-index l.service-items))
    ++ map task_id (filter (task_uses l.network) l.self.tasks)
    ) ≡ least_by nat_cmp None (users (tables_of l.self) l.network)

abbrev pub invariant-loop-task : goal.invariant-loop-task
invariant-loop-task l =
    least_by nat_cmp l.least (map task_id (filter (task_uses l.network) (drop l.task-index l.task-items))) ≡
    least_by nat_cmp None (users (tables_of l.self) l.network)
