use Rattle.swarm_spans.proofs.Waking.{AreWoken}
use Rattle.swarm_spans.proofs.wakes.Wakes.wake.Given as goal

abbrev pub invariant-loop-word : goal.invariant-loop-word
invariant-loop-word l = AreWoken l.now l.word l.initial.self l.self l.initial.span l.span
