use Rattle.std.proofs.Common.{◌≡◌, ℕ, Bool, count_by, drop}
use Rattle.std.specs.Option.{option_map}
use Rattle.swarm_objects.specs.Services.Ports.{is_numbered}
use Rattle.store_ports.proofs.counts.PortCounts.move_given.Given as goal
use Rattle.store_ports.specs.Counts.{count_of, moved}

-- those that are left decide
abbrev pub invariant-loop-given : goal.invariant-loop-given
invariant-loop-given l = (udp : Bool) (n : ℕ) →
    option_map (moved l.more (count_by (is_numbered udp n) (drop l.given-index l.numbers))) (count_of udp l.self n)
    ≡ option_map (moved l.more (count_by (is_numbered udp n) l.numbers)) (count_of udp l.initial.self n)
