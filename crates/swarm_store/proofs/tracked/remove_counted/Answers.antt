use Rattle.swarm_store.proofs.Tracking.{counted-drop}
use Rattle.swarm_store.proofs.tracked.remove_counted.Goals as goal

pub returns-clause-counted : goal.returns-clause-counted
returns-clause-counted g c =
    counted-drop g.R.Row.id_of c.args.id c.args.count.now c.count_without-next.result c.args.rows.now.rows
    c.remove_tracked.new.rows.rows c.requires.tracked.rising c.count_without-next.ensures.count c.requires.counted
    c.in-Ok.ensures.ok
