use Rattle.swarm_update.proofs.known_survey.Subject.without_flying.Given as goal
use Rattle.swarm_update.specs.KnownSurvey.{AreStale, IsLess}

abbrev pub invariant-loop-index : goal.invariant-loop-index
invariant-loop-index l = record {
  less : IsLess l.initial.self l.self;
  stale : AreStale l.index l.places l.self;
}
