use Rattle.std.proofs.Common.{◌≡◌, length}
use Rattle.std.specs.Prelude.{◌&&◌, filter, map, not}
use Rattle.std.specs.Option.{option_eq}
use Rattle.swarm_objects.specs.Rows.{first_of, rows_above, service_id}
use Rattle.swarm_objects.specs.Same.{same_number}
use Rattle.swarm_objects.specs.Services.Ports.{holds_port}
use Rattle.swarm_objects.specs.declared.services.Service.{Service}
use Rattle.std.proofs.Common.{Some}
use Rattle.swarm_store.proofs.state.State.scanned_holder.Given as goal

-- the services that are left decide
abbrev pub invariant-loop-service : goal.invariant-loop-service
invariant-loop-service l =
    let other = λ (s : Service). not (option_eq same_number l.own (Some s.id)) && holds_port l.port.udp l.number s in
    first_of (map service_id (filter other (rows_above service_id l.after l.self.services.rows)))
    ≡ first_of (map service_id (filter other l.self.services.rows))

abbrev pub decreases-loop-service : goal.decreases-loop-service
decreases-loop-service l = length (rows_above service_id l.after l.self.services.rows)
