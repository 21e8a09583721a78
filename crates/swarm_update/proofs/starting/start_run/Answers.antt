use Rattle.swarm_update.proofs.Running.{start_made}
use Rattle.swarm_update.proofs.starting.start_run.Goals as goal

pub returns : goal.returns
returns g c =
    let t = g.R.Rows.tables c.args.rows.now in
    start_made c.args.version t c.args.service.now c.started.result c.requires.usable.sound c.requires.there
    c.started.ensures
