use Rattle.swarm_spans.proofs.HasBits.{AreJoined}
use Rattle.swarm_spans.proofs.bits.Bits.join.Given as goal

abbrev pub invariant-loop-place : goal.invariant-loop-place
invariant-loop-place l = AreJoined l.place l.initial.self.words l.other.words l.self.words
