use Rattle.std.proofs.Common.{drop, ◌+◌, ◌≡◌}
use Rattle.std.specs.Ordering.{nat_cmp}
use Rattle.std.specs.Prelude.{filter, map, not}
use Rattle.swarm_model.specs.Settle.{least_time, watch_times}
use Rattle.swarm_objects.specs.Loops.Update.{is_watched}
use Rattle.swarm_objects.specs.Rows.{least_by}
use Rattle.swarm_objects.specs.declared.services.Replaced.{Replaced}
use Rattle.swarm_settle.proofs.update_waits.watch_time.Given as goal

abbrev pub invariant-loop-item : goal.invariant-loop-item
invariant-loop-item g l =
    let t = g.R.Rows.tables l.rows in
    let end = λ (i : Replaced). i.created + l.service.spec.update.monitor in
    let test = λ (i : Replaced). not (is_watched t l.service i) in
    least_by nat_cmp l.least (map end (filter test (drop l.item-index l.item-items)))
    ≡ least_time (watch_times t l.service l.run)
