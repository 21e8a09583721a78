-- A settle line with just the budget that the bound asks for.
use Rattle.std.proofs.Common.{arith}
use Rattle.std.specs.Prelude.{drop, refl, take, ◌≡◌}
use Rattle.swarm_model.specs.Follows.{IsSettleLine}
use Rattle.swarm_model.specs.History.{replay}
use Rattle.swarm_settle.proofs.Examples.NoNode as no_node
use Rattle.swarm_settle.specs.Bound.Laws.{most_duties}

-- the world of a service that wants one task has size 6
budget_is_enough : most_duties (replay (take 1 no_node.history)) ≡ 72000
budget_is_enough = refl

it_is_a_settle_line : IsSettleLine (replay (take 1 no_node.history)) 72000 (drop 1 no_node.history)
it_is_a_settle_line = record {
  duties = take 3 (drop 1 no_node.history);
  entries = refl;
  are_duties = refl;
  most = omega arith;
  busy = λ e. absurd cc;
}
