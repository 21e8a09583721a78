-- The ingress ports that services hold.
use Rattle.std.specs.Prelude.{Bool, Some, ℕ, ◌&&◌, ◌==◌, List, None, Option, [], ◌||◌, filter, flat_map, option_to_list, map, ◌++◌, is_none, not}
use Rattle.std.specs.List.{list_any}
use Rattle.std.specs.Option.{option_eq}
use Rattle.swarm_objects.specs.Limits.{last_port, first_port}
use Rattle.swarm_objects.specs.Rows.{first_free}
use Rattle.swarm_objects.specs.Same.{same_bool, same_number}
use Rattle.swarm_objects.specs.World.{Tables}
use Rattle.swarm_objects.specs.declared.services.PortNumber.{PortNumber}
use Rattle.swarm_objects.specs.declared.services.Service.{Service}
use Rattle.swarm_objects.specs.declared.services.ServiceSpec.{ServiceSpec}
use Rattle.swarm_objects.specs.declared.templates.Port.{Port}

-- Ingress ports.

-- the port has this protocol and number
abbrev pub has_port_number : Bool → ℕ → Port → Bool
has_port_number udp number p = same_bool p.udp udp && option_eq same_number p.number (Some number)

abbrev pub is_numbered : Bool → ℕ → PortNumber → Bool
is_numbered udp number n = same_bool n.udp udp && n.number == number

abbrev pub ports_of : Option ServiceSpec → List Port
ports_of None = []
ports_of (Some spec) = spec.ports

-- the service holds the number of this protocol: its specification, its previous one or its numbers name it
abbrev pub holds_port : Bool → ℕ → Service → Bool
holds_port udp number s =
    list_any (has_port_number udp number) s.spec.ports
    || list_any (has_port_number udp number) (ports_of s.previous)
    || list_any (is_numbered udp number) s.numbers

-- the numbers of this protocol that ports name
abbrev pub numbers_named : Bool → List Port → List ℕ
numbers_named udp ports = flat_map (λ p. option_to_list p.number) (filter (λ p. same_bool p.udp udp) ports)

abbrev pub numbers_given : Bool → List PortNumber → List ℕ
numbers_given udp numbers = map (λ n. n.number) (filter (λ n. same_bool n.udp udp) numbers)

abbrev pub ports_held : Bool → Service → List ℕ
ports_held udp s =
    numbers_named udp s.spec.ports ++ numbers_named udp (ports_of s.previous) ++ numbers_given udp s.numbers

-- the least number of the protocol that no service holds
abbrev pub free_port : Tables → Bool → Option ℕ
free_port t udp = first_free first_port last_port (flat_map (ports_held udp) t.services)

-- Open ports.

-- an open port has an item with its target and protocol
abbrev pub gives_number : Port → PortNumber → Bool
gives_number p n = n.target == p.target && same_bool n.udp p.udp

-- the ingress port has no number, and was given none
abbrev pub is_unnumbered : Service → Port → Bool
is_unnumbered s p = is_none p.number && not (list_any (gives_number p) s.numbers)

abbrev pub unnumbered_ports : Service → List Port
unnumbered_ports s = filter (is_unnumbered s) s.spec.ports

-- one of the specification's ports is open, and the item is its number
abbrev pub is_open_in : List Port → PortNumber → Bool
is_open_in ports n = list_any (λ p. is_none p.number && gives_number p n) ports

-- the numbers that a service keeps with these specifications
abbrev pub kept_numbers : List PortNumber → ServiceSpec → Option ServiceSpec → List PortNumber
kept_numbers numbers spec previous = filter (λ n. is_open_in spec.ports n || is_open_in (ports_of previous) n) numbers
