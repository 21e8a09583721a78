use Rattle.swarm_plain.specs.Plain.{world_of}
use Rattle.plain_placement.proofs.AllocatorDue.{note_due}
use Rattle.plain_placement.proofs.allocator.is_note_due.Goals as goal

pub returns : goal.returns
returns c = note_due (world_of c.args.plain.now) c.args.task c.has_to_note.result c.has_to_note.ensures
