use Rattle.std.proofs.Common.{None, drop, ◌≡◌}
use Rattle.std.specs.Ordering.{nat_cmp}
use Rattle.std.specs.Prelude.{flat_map}
use Rattle.swarm_objects.specs.Rows.{least_by}
use Rattle.role_words.specs.UpdateMarks.{ShowsUpdates}
use Rattle.swarm_settle.proofs.update_waits.flight_time.Given as goal
use Rattle.swarm_settle.specs.Flights.{item_times}

abbrev pub invariant-loop-item : goal.invariant-loop-item
invariant-loop-item g l =
    let t = g.R.Rows.tables l.rows in
    let times = item_times t l.service in
    record {
      shows : ShowsUpdates l.window t l.service t.tasks;
      least : least_by nat_cmp l.least (flat_map times (drop l.item-index l.item-items))
          ≡ least_by nat_cmp None (flat_map times l.run.replaced);
    }
