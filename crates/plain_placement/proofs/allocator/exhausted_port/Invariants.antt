use Rattle.std.proofs.Common.{◌≡◌, drop, not}
use Rattle.std.specs.Prelude.{filter, find}
use Rattle.swarm_objects.specs.Loops.Allocator.{exhausted_port, has_free_port}
use Rattle.swarm_objects.specs.Services.Ports.{is_unnumbered}
use Rattle.swarm_objects.specs.declared.templates.Port.{Port}
use Rattle.swarm_plain.specs.Plain.{tables_of}
use Rattle.plain_placement.proofs.allocator.exhausted_port.Given as goal

abbrev pub invariant-loop-port : goal.invariant-loop-port
invariant-loop-port l =
    let t = tables_of l.plain in
    find (λ (p : Port). not (has_free_port t p.udp))
    (filter (is_unnumbered l.service) (drop l.port-index l.port-items)) ≡
    exhausted_port t l.service
