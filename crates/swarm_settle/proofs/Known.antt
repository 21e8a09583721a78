-- What every world of a legal history is known to have.
use Rattle.std.proofs.Common.{List}
use Rattle.swarm_settle.proofs.HomeNodes.{HomeNodes, home-replay}
use Rattle.swarm_model.proofs.Base.Histories.{replay-keeps}
use Rattle.swarm_model.proofs.Laws.GivesOut.{GivesOut}
use Rattle.swarm_model.proofs.Laws.Kept.{InOrder, order-of}
use Rattle.swarm_model.proofs.Laws.KeptCalls.{IsKept, kept-empty, kept-step}
use Rattle.swarm_model.proofs.Laws.OfService.{OfServices, of-services-keep}
use Rattle.swarm_model.proofs.Laws.OneEach.{one-each-empty}
use Rattle.swarm_model.proofs.Moves.Worlds.{IsOrderly}
use Rattle.swarm_model.specs.History.{IsLegal, replay}
use Rattle.swarm_objects.specs.World.{World, empty_world}
use Rattle.swarm_objects.specs.declared.calls.Entry.{Entry}

pub record Known (w : World) : Type 0 where
  pub orderly : IsOrderly w
  pub gives : GivesOut w
  pub of : OfServices w.tables
  pub home : HomeNodes w.tables

pub order : (w : World) → Known w → InOrder w.tables
order w known = order-of w known.orderly

pub known-replay : (h : List Entry) → IsLegal h → Known (replay h)
known-replay h legal =
    let kept : IsKept OfServices (replay h) =
    replay-keeps (IsKept OfServices) (kept-step OfServices of-services-keep) empty_world h
    (kept-empty OfServices (record { one = one-each-empty; of = λ x s j k e. absurd j })) legal in
    record { orderly = kept.0.0; gives = kept.0.1; of = kept.1; home = home-replay h legal }
