use Rattle.swarm_alloc.proofs.HeldPorts.{all_noted}
use Rattle.swarm_alloc.proofs.held_ports.held_ports.Goals as goal

pub returns : goal.returns
returns g c =
    all_noted c.args.udp (g.R.Rows.tables c.args.rows.now).services c.loop-service.service-iterator c.loop-service.held
    c.loop-service.invariant c.in-None.ensures.steps.0
