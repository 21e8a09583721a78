use Rattle.std.proofs.Common.{◌≡◌, ◌++◌}
use Rattle.std.specs.Prelude.{map}
use Rattle.swarm_model.specs.Calls.Views.{service_row}
use Rattle.swarm_store.specs.Inside.State.{tables_now}
use Rattle.swarm_store.proofs.state.State.services_shown.Given as goal

abbrev pub invariant-loop-service : goal.invariant-loop-service
invariant-loop-service l =
    l.rows ++ map (service_row (tables_now l.self)) l.service-iterator ≡ map (service_row (tables_now l.self)) (tables_now l.self).services
