use Rattle.swarm_update.specs.Marks.{NoneBefore}
use Rattle.swarm_update.proofs.marks.Places.first.Given as goal

abbrev pub invariant-loop-index : goal.invariant-loop-index
invariant-loop-index l = NoneBefore l.index l.self l.question
