use Rattle.swarm_update.proofs.Passing.{PassSlots}
use Rattle.swarm_update.proofs.kept_surveys.KeptSurveys.pass_time.Given as goal

abbrev pub invariant-loop-slot : goal.invariant-loop-slot
invariant-loop-slot l = PassSlots l.slot l.initial.self l.self
