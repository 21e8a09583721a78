use Rattle.swarm_alloc.proofs.Steps.{port_given}
use Rattle.swarm_alloc.proofs.finding.port_of.Goals as goal

pub returns-then-gets_number : goal.returns-then-gets_number
returns-then-gets_number g c =
    port_given (g.R.Rows.tables c.args.rows.now) c.args.service.now c.as_slice-port-items.result.now
    c.loop-port.port-index _ c.gets_number.result _ c.loop-port-test.true c.gets_number.ensures c.if-gets_number.true
    c.loop-port.invariant
