use Rattle.std.proofs.Common.{◌≡◌, take}
use Rattle.std.specs.Prelude.{map}
use Rattle.swarm_model.specs.Calls.Views.{service_row}
use Rattle.swarm_plain.specs.Plain.{tables_of}
use Rattle.swarm_plain.proofs.Plain.services_shown.Given as goal

abbrev pub invariant-loop-service : goal.invariant-loop-service
invariant-loop-service l = l.rows ≡ map (service_row (tables_of l.self)) (take l.service-index l.service-items)
