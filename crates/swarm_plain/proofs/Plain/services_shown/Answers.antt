use Rattle.std.proofs.Common.{◌<◌, length, arith, rules, ◌≡◌, ◌++◌, ◌∷◌, []}
use Rattle.swarm_model.specs.Calls.Views.{service_row}
use Rattle.swarm_plain.proofs.Passes.{mapped_next}
use Rattle.swarm_plain.proofs.Plain.services_shown.Goals as goal
use Rattle.swarm_plain.specs.Plain.{tables_of}

pub loop-service-preserved : goal.loop-service-preserved
loop-service-preserved c =
    let services = c.as_slice-service-items.result.now in
    let lt : c.loop-service.service-index < length services = omega arith in
    let row = c.in_ok-service_row.field-0 in
    let next : c.add.new.list ≡ c.loop-service.rows ++ row ∷ [] = search rules in
    mapped_next (service_row (tables_of c.args.self.now)) services c.loop-service.service-index
    c.service-item.result c.loop-service.rows c.add.new.list row lt c.service-item.is
    c.loop-service.invariant c.in_ok-service_row.ensures next
