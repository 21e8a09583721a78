use Rattle.std.proofs.Common.{rules, ◌≤◌, ◌<◌, length}
use Rattle.swarm_objects.specs.Services.Ports.{is_numbered}
use Rattle.store_ports.proofs.Counting.{left_end, left_next}
use Rattle.store_ports.proofs.counts.PortCounts.move_given.Goals as goal

pub loop-given-preserved : goal.loop-given-preserved
loop-given-preserved c = λ udp n.
    let below : c.loop-given.given-index < length c.args.numbers.now = search rules in
    left_next (is_numbered udp n) c.args.more c.args.numbers.now c.loop-given.given-index _ _ _ _ below (c.move_one.ensures udp n)
    (c.loop-given.invariant udp n)

pub returns : goal.returns
returns c = λ udp n.
    let past : length c.args.numbers.now ≤ c.loop-given.given-index = search rules in
    left_end (is_numbered udp n) c.args.more c.args.numbers.now c.loop-given.given-index _ _ past (c.loop-given.invariant udp n)
