use Rattle.std.proofs.Common.{true, ◌≡◌}
use Rattle.std.specs.List.{list_all}
use Rattle.std.specs.Ordering.{nat_cmp}
use Rattle.std.specs.Prelude.{flat_map}
use Rattle.swarm_objects.specs.Bounds.{is_near_task}
use Rattle.swarm_objects.specs.Rows.{least_by}
use Rattle.swarm_settle.proofs.update_waits.item_time.Given as goal
use Rattle.swarm_settle.specs.Flights.{item_times, task_times}

abbrev pub invariant-loop-task : goal.invariant-loop-task
invariant-loop-task g l =
    let t = g.R.Rows.tables l.rows in
    record {
      least : least_by nat_cmp l.time (flat_map (task_times t l.service) l.task-iterator)
          ≡ least_by nat_cmp l.fn.least (item_times t l.service l.item);
      near : list_all is_near_task l.task-iterator ≡ true;
    }
