use Rattle.std.proofs.Common.{arith, false}
use Rattle.swarm_alloc.proofs.HeldPorts.{free_found, held_on}
use Rattle.swarm_objects.proofs.FreeNumbers.{no_port}
use Rattle.swarm_alloc.proofs.free_numbers.free_port.Goals as goal

pub returns-then-not-held-from : goal.returns-then-not-held-from
returns-then-not-held-from g c =
    free_found (g.R.Rows.tables c.args.rows.now) c.args.udp c.held_ports-held.result c.loop-number.number c.from.result
    false c.held_ports-held.ensures c.loop-number.invariant c.loop-number-test.true c.from.ensures
    c.if-not-held-from.true

pub loop-number-preserved : goal.loop-number-preserved
loop-number-preserved g c =
    held_on (g.R.Rows.tables c.args.rows.now) c.args.udp c.held_ports-held.result c.loop-number.number c.from.result
    false c.held_ports-held.ensures c.loop-number.invariant c.loop-number-test.true c.from.ensures c.if-not-held-from.false

pub returns : goal.returns
returns g c =
    no_port (g.R.Rows.tables c.args.rows.now) c.args.udp c.loop-number.number
    (omega (arith, c.loop-number-test.false)) c.loop-number.invariant.taken
