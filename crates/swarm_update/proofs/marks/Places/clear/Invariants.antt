use Rattle.swarm_update.specs.PlaceMarks.{EndsAt}
use Rattle.swarm_update.proofs.marks.Places.clear.Given as goal

abbrev pub invariant-loop-end : goal.invariant-loop-end
invariant-loop-end l = EndsAt l.end l.self-inside.marks

abbrev pub decreases-loop-end : goal.decreases-loop-end
decreases-loop-end l = l.end
