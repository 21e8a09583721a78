use Rattle.std.proofs.Common.{◌≡◌, drop, None}
use Rattle.std.specs.Prelude.{flat_map}
use Rattle.std.specs.Ordering.{nat_cmp}
use Rattle.swarm_settle.specs.Flights.{item_times}
use Rattle.swarm_objects.specs.Rows.{least_by}
use Rattle.swarm_plain.specs.Plain.{tables_of}
use Rattle.swarm_duties.proofs.update_waits.flight_time.Given as goal

abbrev pub invariant-loop-item : goal.invariant-loop-item
invariant-loop-item l =
    let times = item_times (tables_of l.plain) l.service in
    least_by nat_cmp l.least (flat_map times (drop l.item-index l.item-items))
    ≡ least_by nat_cmp None (flat_map times l.run.replaced)
