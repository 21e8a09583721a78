use Rattle.swarm_replicated.proofs.Reaching.{more-only, place-next}
use Rattle.swarm_replicated.proofs.place_changes.places_together.Goals as goal
use Rattle.swarm_replicated.specs.Inside.PlaceChanges.{spares}

pub returns-in-More : goal.returns-in-More
returns-in-More g c =
    more-only (spares (g.R.Rows.tables c.args.rows.now) c.args.service.now) c.args.changes.now

pub loop-change-preserved : goal.loop-change-preserved
loop-change-preserved g c =
    place-next (g.R.Rows.tables c.args.rows.now) c.args.service.now c.loop-change.together c.places_changed.result
    c.joined-together.result c.args.changes.now c.loop-change.change-index c.change-item.result c.loop-change-test.true
    c.change-item.is c.places_changed.ensures c.joined-together.ensures c.loop-change.invariant
