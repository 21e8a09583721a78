use Rattle.std.proofs.Common.{arith}
use Rattle.swarm_objects.proofs.FreeNumbers.{next_port, no_port, port_found}
use Rattle.swarm_plain.specs.Plain.{tables_of}
use Rattle.plain_placement.proofs.free_numbers.free_port.Goals as goal

pub returns-then-not-is_port_held : goal.returns-then-not-is_port_held
returns-then-not-is_port_held c =
    port_found (tables_of c.args.plain.now) c.args.udp c.loop-number.number c.is_port_held.result c.is_port_held.ensures
    c.if-not-is_port_held.true (omega arith) c.loop-number.invariant

pub loop-number-preserved : goal.loop-number-preserved
loop-number-preserved c =
    next_port (tables_of c.args.plain.now) c.args.udp c.loop-number.number c.is_port_held.result c.is_port_held.ensures
    c.if-not-is_port_held.false c.loop-number.invariant

pub returns : goal.returns
returns c =
    no_port (tables_of c.args.plain.now) c.args.udp c.loop-number.number (omega arith) c.loop-number.invariant
