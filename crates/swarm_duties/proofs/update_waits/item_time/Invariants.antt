use Rattle.std.proofs.Common.{◌≡◌, ◌+◌, drop}
use Rattle.std.specs.Prelude.{filter, map, ◌&&◌}
use Rattle.std.specs.Ordering.{nat_cmp}
use Rattle.swarm_objects.specs.Rows.{least_by}
use Rattle.swarm_objects.specs.Services.Runs.{is_flying}
use Rattle.swarm_objects.specs.Tasks.Places.{is_in_place}
use Rattle.swarm_objects.specs.Tasks.Words.{is_running}
use Rattle.swarm_objects.specs.declared.tasks.Task.{Task}
use Rattle.swarm_plain.specs.Plain.{tables_of}
use Rattle.swarm_duties.proofs.update_waits.item_time.Given as goal

abbrev pub invariant-loop-task : goal.invariant-loop-task
invariant-loop-task l =
    let end = λ (x : Task). x.since + l.service.spec.update.delay in
    let test =
    λ (x : Task). is_in_place l.service l.item.place x && is_flying (tables_of l.plain) l.service x && is_running x in
    least_by nat_cmp l.time (map end (filter test (drop l.task-index l.task-items)))
    ≡ least_by nat_cmp l.fn.least (map end (filter test l.plain.tasks))
