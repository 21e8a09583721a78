-- Whether one row wants a number or addresses.
use Rattle.std.specs.Prelude.{Bool, List, ℕ, ◌&&◌, ◌==◌}
use Rattle.std.specs.List.{list_any}
use Rattle.swarm_objects.specs.Changes.{addressed}
use Rattle.swarm_objects.specs.Loops.Allocator.{gets_address, has_free_port, wants_note}
use Rattle.swarm_objects.specs.Same.{same_bool}
use Rattle.swarm_objects.specs.Services.Ports.{is_unnumbered}
use Rattle.swarm_objects.specs.World.{Tables}
use Rattle.swarm_objects.specs.declared.services.Service.{Service}
use Rattle.swarm_objects.specs.declared.tasks.Address.{Address}
use Rattle.swarm_objects.specs.declared.tasks.Task.{Task}
use Rattle.swarm_objects.specs.declared.templates.Port.{Port}

-- the port can get a number
abbrev pub gets_number : Tables → Service → Port → Bool
gets_number t s p = is_unnumbered s p && has_free_port t p.udp

-- and has this target and protocol
abbrev pub is_open_port : Tables → ℕ → Bool → Service → Port → Bool
is_open_port t target udp s p = p.target == target && same_bool p.udp udp && gets_number t s p

-- the service is this one, and has such a port
abbrev pub is_to_number : Tables → ℕ → ℕ → Bool → Service → Bool
is_to_number t id target udp s = s.id == id && list_any (is_open_port t target udp s) s.spec.ports

-- the task is this one, and can get its addresses
abbrev pub is_to_address : Tables → ℕ → Task → Bool
is_to_address t id x = x.id == id && gets_address t x

-- the task is this one, and is to get a note
abbrev pub is_to_note : Tables → ℕ → Task → Bool
is_to_note t id x = x.id == id && wants_note t x

-- the task is PENDING with these addresses, since now, by the entry with this number
abbrev pub given_addresses : ℕ → ℕ → List Address → Task → Task
given_addresses version clock addresses x = record (addressed version clock x) { addresses = addresses }
