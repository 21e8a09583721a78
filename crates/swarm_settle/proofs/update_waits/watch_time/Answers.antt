use Rattle.std.proofs.Common.{arith}
use Rattle.swarm_objects.specs.declared.services.Replaced.{Replaced}
use Rattle.swarm_objects.specs.declared.tasks.Place.TheVariants.{Slot}
use Rattle.swarm_settle.proofs.NearTimes.{watch_fits}
use Rattle.swarm_settle.proofs.update_waits.watch_time.Goals as goal

pub overflow_add-item : goal.overflow_add-item
overflow_add-item g c =
    let other : Replaced = record { place = Slot 0; task = 0; created = 0 } in
    omega (
      arith,
      watch_fits c.args.service.now c.args.run.now c.as_slice-item-items.result.now c.loop-item.item-index other
          c.requires.service c.requires.run c.as_slice-item-items.ensures (omega arith),
    )
