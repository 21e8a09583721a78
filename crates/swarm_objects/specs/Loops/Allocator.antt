-- The allocator's duties: numbers for open ports, addresses for tasks, and why there are none.
use Rattle.std.specs.Prelude.{Bool, is_some, List, not, ℕ, ◌&&◌, Option, find, None, Some, false, true, ◌==◌, flat_map, ◌++◌, [], ◌∷◌, map, option_to_list}
use Rattle.std.specs.Cmp.Lexicographic.{pointwise}
use Rattle.std.specs.List.{list_any, list_all}
use Rattle.swarm_objects.specs.Changes.{on_task, change_service, addressed, change_task, noted}
use Rattle.swarm_objects.specs.Loops.Words.{duty_where}
use Rattle.swarm_objects.specs.Rows.{on_row, row_at, service_id, is_some_and}
use Rattle.swarm_objects.specs.Same.{same_bool, same_number}
use Rattle.swarm_objects.specs.Services.Ports.{free_port, unnumbered_ports, is_unnumbered}
use Rattle.swarm_objects.specs.Services.Words.{has_service, is_service_and}
use Rattle.swarm_objects.specs.Tasks.Addresses.{free_address}
use Rattle.swarm_objects.specs.Tasks.Words.{is_new, is_wanted}
use Rattle.swarm_objects.specs.World.{Tables}
use Rattle.swarm_objects.specs.declared.duties.Duty.{Duty}
use Rattle.swarm_objects.specs.declared.duties.Duty.TheVariants as duty
use Rattle.swarm_objects.specs.declared.services.PortNumber.{PortNumber}
use Rattle.swarm_objects.specs.declared.services.Service.{Service}
use Rattle.swarm_objects.specs.declared.tasks.Address.{Address}
use Rattle.swarm_objects.specs.declared.tasks.Note.{Note}
use Rattle.swarm_objects.specs.declared.tasks.Note.TheVariants as note
use Rattle.swarm_objects.specs.declared.tasks.Task.{Task}
use Rattle.swarm_objects.specs.declared.templates.Port.{Port}

-- the protocol has a number that is free
abbrev pub has_free_port : Tables → Bool → Bool
has_free_port t udp = is_some (free_port t udp)

abbrev pub port_duties : Tables → Service → List Duty
port_duties t s = duty_where (λ p. has_free_port t p.udp) (λ p. duty.Port s.id p.target p.udp) (unnumbered_ports s)

abbrev pub has_numbered_ports : Service → Bool
has_numbered_ports s = not (list_any (is_unnumbered s) s.spec.ports)

abbrev pub has_free_address : Tables → ℕ → Bool
has_free_address t network = is_some (free_address t network)

-- NEW, wanted, and with its service there
abbrev pub is_fresh : Tables → Task → Bool
is_fresh t x = is_new x.state && is_wanted x && has_service t x

abbrev pub gets_address : Tables → Task → Bool
gets_address t x =
    is_fresh t x && is_service_and t has_numbered_ports x && list_all (has_free_address t) x.template.networks

-- Why a task gets none.

abbrev pub port_note : Port → Note
port_note p = note.NoPort p.udp

-- the first unnumbered port whose protocol has no free number
abbrev pub exhausted_port : Tables → Service → Option Port
exhausted_port t s = find (λ p. not (has_free_port t p.udp)) (unnumbered_ports s)

abbrev pub exhausted_network : Tables → Task → Option ℕ
exhausted_network t x = find (λ n. not (has_free_address t n)) x.template.networks

abbrev pub first_note : Option Port → Option ℕ → Option Note
first_note (Some p) network = Some (port_note p)
first_note None (Some network) = Some (note.NoAddress network)
first_note None None = None

-- the first exhausted thing
abbrev pub exhausted : Tables → Task → Service → Option Note
exhausted t x s = first_note (exhausted_port t s) (exhausted_network t x)

abbrev pub exhausted_for : Tables → Task → Option Note
exhausted_for t x = on_row None (exhausted t x) (row_at service_id x.service t.services)

abbrev pub same_note : Note → Note → Bool
same_note note.Empty note.Empty = true
same_note (note.Filters a) (note.Filters b) = pointwise same_number a b
same_note (note.NoPort a) (note.NoPort b) = same_bool a b
same_note (note.NoAddress a) (note.NoAddress b) = a == b
same_note _ _ = false

abbrev pub wants_note : Tables → Task → Bool
wants_note t x = is_fresh t x && is_some_and (λ n. not (same_note n x.note)) (exhausted_for t x)

abbrev pub allocator : Tables → List Duty
allocator t =
    flat_map (port_duties t) t.services
    ++ duty_where (gets_address t) (λ x. duty.Address x.id) t.tasks
    ++ duty_where (wants_note t) (λ x. duty.Note x.id) t.tasks

-- What they do.

abbrev pub port_number : ℕ → Bool → ℕ → PortNumber
port_number target udp number = record { target = target; udp = udp; number = number }

abbrev pub with_port : ℕ → PortNumber → Service → Service
with_port version n s = record s { version = version; numbers = s.numbers ++ n ∷ [] }

abbrev pub give_port : ℕ → Tables → ℕ → ℕ → Bool → Option ℕ → Tables
give_port version t s target udp None = t
give_port version t s target udp (Some number) = change_service s (with_port version (port_number target udp number)) t

abbrev pub address_in : Tables → ℕ → List Address
address_in t network = map (λ a. record { network = network; number = a }) (option_to_list (free_address t network))

abbrev pub new_addresses : Tables → Task → List Address
new_addresses t x = flat_map (address_in t) x.template.networks

abbrev pub with_addresses : ℕ → Tables → Task → Task
with_addresses version t x = record (addressed version t.clock x) { addresses = new_addresses t x }

abbrev pub with_exhausted : ℕ → Tables → Task → Tables
with_exhausted version t x = on_row t (λ n. change_task x.id (noted version n) t) (exhausted_for t x)

-- the least free number of the protocol goes to the port
abbrev pub after_port : ℕ → Tables → ℕ → ℕ → Bool → Tables
after_port version t s target udp = give_port version t s target udp (free_port t udp)

abbrev pub after_address : ℕ → Tables → ℕ → Tables
after_address version t x = change_task x (with_addresses version t) t

abbrev pub after_note : ℕ → Tables → ℕ → Tables
after_note version t x = on_task t x (with_exhausted version t)
