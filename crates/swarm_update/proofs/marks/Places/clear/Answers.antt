use Rattle.swarm_update.proofs.Ending.{cleared}
use Rattle.swarm_update.proofs.marks.Places.clear.Goals as goal

pub returns : goal.returns
returns c = cleared c.loop-end.end c.loop-end.self-inside.marks c.loop-end-test.false c.loop-end.invariant
