use Rattle.std.proofs.Common.{None, arith, get_or, ◌∙◌}
use Rattle.std.specs.Ordering.{nat_cmp}
use Rattle.std.specs.Prelude.{flat_map}
use Rattle.swarm_objects.specs.Rows.{least_by}
use Rattle.swarm_objects.specs.declared.services.Replaced.{Replaced}
use Rattle.swarm_objects.specs.declared.tasks.Place.TheVariants.{Slot}
use Rattle.swarm_settle.proofs.FlightTimes.{flight_made}
use Rattle.swarm_settle.proofs.LeastWaits.{least_end, least_next, row_is}
use Rattle.swarm_settle.proofs.update_waits.flight_time.Goals as goal
use Rattle.swarm_settle.specs.Flights.{item_times}

pub loop-item-preserved : goal.loop-item-preserved
loop-item-preserved g c =
    let times = item_times (g.R.Rows.tables c.args.rows.now) c.args.service.now in
    let rows = c.as_slice-item-items.result.now in
    let i = c.loop-item.item-index in
    let other : Replaced = record { place = Slot 0; task = 0; created = 0 } in
    record {
      shows = c.flying_time-least.ensures.shows;
      least = least_next nat_cmp times rows i (get_or rows i other) c.loop-item.least c.flying_time-least.result
          (least_by nat_cmp None (flat_map times c.args.run.now.replaced)) (omega arith)
          (row_is rows i other (omega arith)) c.flying_time-least.ensures.least c.loop-item.invariant.least;
    }

pub returns : goal.returns
returns g c =
    let t = g.R.Rows.tables c.args.rows.now in
    let s = c.args.service.now in
    let times = item_times t s in
    least_end nat_cmp times c.as_slice-item-items.result.now c.loop-item.item-index c.loop-item.least
    (least_by nat_cmp None (flat_map times c.args.run.now.replaced)) (omega arith) c.loop-item.invariant.least
    ∙ flight_made t s c.args.run.now
