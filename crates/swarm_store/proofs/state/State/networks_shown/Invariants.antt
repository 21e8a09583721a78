use Rattle.std.proofs.Common.{◌≡◌, ◌++◌}
use Rattle.std.specs.Prelude.{map}
use Rattle.swarm_model.specs.Calls.Views.{network_row}
use Rattle.swarm_store.specs.Inside.State.{tables_now}
use Rattle.swarm_store.proofs.state.State.networks_shown.Given as goal

abbrev pub invariant-loop-network : goal.invariant-loop-network
invariant-loop-network l =
    l.rows ++ map network_row l.network-iterator ≡ map network_row (tables_now l.self).networks
