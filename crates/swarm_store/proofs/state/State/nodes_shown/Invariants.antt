use Rattle.std.proofs.Common.{◌≡◌, ◌++◌}
use Rattle.std.specs.Prelude.{map}
use Rattle.swarm_model.specs.Calls.Views.{shown}
use Rattle.swarm_store.specs.Inside.State.{tables_now}
use Rattle.swarm_store.proofs.state.State.nodes_shown.Given as goal

abbrev pub invariant-loop-node : goal.invariant-loop-node
invariant-loop-node l =
    l.rows ++ map shown l.node-iterator ≡ map shown (tables_now l.self).nodes
