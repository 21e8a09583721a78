use Rattle.swarm_store.proofs.Tracking.{counted-put}
use Rattle.swarm_store.proofs.tracked.put_counted.Goals as goal

pub returns-clause-counted : goal.returns-clause-counted
returns-clause-counted g c =
    counted-put g.R.Row.id_of c.args.row c.id.result c.args.count.now c.count_with-next.result c.args.rows.now.rows
    c.put_tracked.new.rows.rows c.requires.tracked.rising c.id.ensures c.count_with-next.ensures.count c.requires.counted
    c.in-Ok.ensures.ok
