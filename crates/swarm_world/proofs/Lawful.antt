-- All laws hold of a legal history.
use Rattle.std.proofs.Common.{List, subst}
use Rattle.swarm_settle.proofs.Bound.Settling.{comes-to-rest}
use Rattle.swarm_settle.proofs.Matched.{settled-matches}
use Rattle.swarm_model.proofs.Base.Histories.{IsLegalFrom-append}
use Rattle.swarm_model.proofs.Laws.DeadSessions.{dead-sessions}
use Rattle.swarm_model.proofs.Laws.Fitting.{all-fits}
use Rattle.swarm_model.proofs.Laws.OneEach.{one-template}
use Rattle.swarm_model.proofs.Laws.Orderly.{tasks-rise}
use Rattle.swarm_model.specs.History.{IsLegal}
use Rattle.swarm_objects.specs.World.{empty_world}
use Rattle.swarm_objects.specs.declared.calls.Entry.{Entry}
use Rattle.swarm_world.specs.Laws.{IsLawful}

pub lawful : (h : List Entry) → IsLegal h → IsLawful h
lawful h legal = record {
  legal = legal;
  rises = tasks-rise h legal;
  fits = all-fits h legal;
  sessions = dead-sessions h legal;
  places = one-template h legal;
  matched = λ before after is settled.
      settled-matches before (IsLegalFrom-append empty_world before after (subst IsLegal is legal)).0 settled;
  rests = comes-to-rest h;
}
