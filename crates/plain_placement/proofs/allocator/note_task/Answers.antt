use Rattle.std.proofs.Common.{arith}
use Rattle.swarm_plain.specs.Plain.{world_of}
use Rattle.plain_placement.proofs.AllocatorEffects.{noting_done}
use Rattle.plain_placement.proofs.allocator.note_task.Goals as goal

pub returns : goal.returns
returns c =
    noting_done c.args.version (world_of c.args.plain.now) c.args.task c.in-Some.waiting.now
    c.in-Some-exhausted_for.note
    c.as_mut_slice.result.now c.set_note.new.tasks c.as_mut_slice.ensures.value (omega arith) c.in-Some.ensures
    c.in-Some-exhausted_for.ensures c.set_note.ensures
