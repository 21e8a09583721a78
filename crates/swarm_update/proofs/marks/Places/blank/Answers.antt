use Rattle.swarm_update.proofs.Ending.{ends_blank}
use Rattle.swarm_update.proofs.marks.Places.blank.Goals as goal

pub invariant_of-result : goal.invariant_of-result
invariant_of-result c = ends_blank
