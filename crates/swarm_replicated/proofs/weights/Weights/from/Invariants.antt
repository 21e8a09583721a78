use Rattle.std.proofs.Common.{◌≡◌}
use Rattle.swarm_replicated.specs.Inside.Weights.{Remains}
use Rattle.swarm_replicated.proofs.weights.Weights.from.Given as goal

abbrev pub invariant-loop-task : goal.invariant-loop-task
invariant-loop-task g l =
    record {
      same : l.crowds ≡ l.initial.crowds;
      first : l.weights.first ≡ l.first;
      rest : Remains (g.R.Rows.tables l.rows) l.service l.weights l.task-iterator;
    }
