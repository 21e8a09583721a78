use Rattle.std.proofs.Common.{◌≡◌}
use Rattle.swarm_replicated.proofs.Choosing.{IsFirst}
use Rattle.swarm_replicated.specs.Inside.Weights.{Weighs}
use Rattle.swarm_replicated.proofs.order.first_to_go.Given as goal

abbrev pub invariant-loop-number : goal.invariant-loop-number
invariant-loop-number g l =
    let t = g.R.Rows.tables l.rows in
    record {
      seen : l.crowds ≡ record { tables = t; service = l.service };
      weighs : Weighs t l.service l.weights;
      first : IsFirst t l.service l.first l.number-iterator;
    }
