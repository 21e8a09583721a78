use Rattle.std.proofs.Common.{◌≡◌, ◌++◌, drop}
use Rattle.std.specs.Prelude.{flat_map}
use Rattle.swarm_objects.specs.Loops.Allocator.{port_duties}
use Rattle.swarm_plain.specs.Plain.{tables_of}
use Rattle.plain_placement.proofs.allocator.add_ports.Given as goal

abbrev pub invariant-loop-service : goal.invariant-loop-service
invariant-loop-service l =
    let t = tables_of l.plain in
    l.duties ++ flat_map (port_duties t) (drop l.service-index l.service-items) ≡
    l.initial.duties ++ flat_map (port_duties t) t.services
