use Rattle.std.proofs.Common.{sym}
use Rattle.swarm_replicated.proofs.Reaching.{place-both}
use Rattle.swarm_replicated.proofs.place_changes.places_put.Goals as goal

pub returns : goal.returns
returns g c =
    place-both (g.R.Rows.tables c.args.rows.now) c.args.service.now c.args.task.now c.in-Some.former.now
    c.place_of-2.result c.place_of-3.result c.joined.result (sym c.in-Some.ensures) c.place_of-2.ensures
    c.place_of-3.ensures c.joined.ensures
