use Rattle.std.proofs.Common.{arith}
use Rattle.swarm_plain.specs.Plain.{world_of}
use Rattle.plain_placement.proofs.AllocatorEffects.{addressing_done, no_task_addressed}
use Rattle.plain_placement.proofs.allocator.address_task.Goals as goal

pub returns-in_default-clause-ok : goal.returns-in_default-clause-ok
returns-in_default-clause-ok c =
    no_task_addressed c.args.version (world_of c.args.plain.now) c.args.task c.in_default.ensures

pub returns-clause-ok : goal.returns-clause-ok
returns-clause-ok c =
    addressing_done c.args.version (world_of c.args.plain.now) c.args.task c.in-Some.waiting.now
    c.in_ok-addresses.addresses
    c.as_mut_slice.result.now c.address.new.tasks c.as_mut_slice.ensures.value (omega arith) c.requires.order.tasks
    c.in-Some.ensures c.in_ok-addresses.ensures c.address.ensures
