use Rattle.swarm_plain.specs.Plain.{world_of}
use Rattle.plain_placement.proofs.AllocatorDue.{address_due}
use Rattle.plain_placement.proofs.allocator.is_address_due.Goals as goal

pub returns : goal.returns
returns c = address_due (world_of c.args.plain.now) c.args.task c.has_to_address.result c.has_to_address.ensures
