use Rattle.swarm_plain.specs.Plain.{world_of}
use Rattle.plain_placement.proofs.AllocatorDue.{port_due}
use Rattle.plain_placement.proofs.allocator.is_port_due.Goals as goal

pub returns : goal.returns
returns c =
    port_due (world_of c.args.plain.now) c.args.service c.args.target c.args.udp c.has_to_number.result
    c.has_to_number.ensures
