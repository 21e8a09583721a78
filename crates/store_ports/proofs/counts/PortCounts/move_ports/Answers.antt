use Rattle.std.proofs.Common.{rules, ◌≤◌, ◌<◌, length}
use Rattle.swarm_objects.specs.Services.Ports.{has_port_number}
use Rattle.store_ports.proofs.Counting.{left_end, left_next}
use Rattle.store_ports.proofs.counts.PortCounts.move_ports.Goals as goal

pub loop-port-preserved : goal.loop-port-preserved
loop-port-preserved c = λ udp n.
    let below : c.loop-port.port-index < length c.args.ports.now = search rules in
    left_next (has_port_number udp n) c.args.more c.args.ports.now c.loop-port.port-index _ _ _ _ below (c.move_port.ensures udp n)
    (c.loop-port.invariant udp n)

pub returns : goal.returns
returns c = λ udp n.
    let past : length c.args.ports.now ≤ c.loop-port.port-index = search rules in
    left_end (has_port_number udp n) c.args.more c.args.ports.now c.loop-port.port-index _ _ past (c.loop-port.invariant udp n)
