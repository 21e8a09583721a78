use Rattle.std.proofs.Common.{length}
use Rattle.swarm_sched.proofs.ranks.Ranks.new.Given as goal
use Rattle.swarm_sched.specs.Inside.Ranks.{AreRanking}

abbrev pub invariant-loop-entry : goal.invariant-loop-entry
invariant-loop-entry l = AreRanking l.nodes l.left l.ranks

abbrev pub decreases-loop-entry : goal.decreases-loop-entry
decreases-loop-entry l = length l.left
