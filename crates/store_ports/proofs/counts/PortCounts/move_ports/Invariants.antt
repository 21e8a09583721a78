use Rattle.std.proofs.Common.{◌≡◌, ℕ, Bool, count_by, drop}
use Rattle.std.specs.Option.{option_map}
use Rattle.swarm_objects.specs.Services.Ports.{has_port_number}
use Rattle.store_ports.proofs.counts.PortCounts.move_ports.Given as goal
use Rattle.store_ports.specs.Counts.{count_of, moved}

-- those that are left decide
abbrev pub invariant-loop-port : goal.invariant-loop-port
invariant-loop-port l = (udp : Bool) (n : ℕ) →
    option_map (moved l.more (count_by (has_port_number udp n) (drop l.port-index l.ports))) (count_of udp l.self n)
    ≡ option_map (moved l.more (count_by (has_port_number udp n) l.ports)) (count_of udp l.initial.self n)
