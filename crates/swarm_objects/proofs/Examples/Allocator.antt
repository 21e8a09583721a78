-- The allocator, computed.
use Rattle.std.specs.Prelude.{List, None, Option, Some, [], codes, false, refl, true, ℕ, ◌∷◌, ◌≡◌}
use Rattle.swarm_objects.proofs.Examples.Rows.{replicas, spec, tables, task, template, with_desired}
use Rattle.swarm_objects.specs.Loops.Allocator.{after_address, after_note, after_port, allocator, first_note}
use Rattle.swarm_objects.specs.Tasks.Addresses.{free_address}
use Rattle.swarm_objects.specs.World.{Tables}
use Rattle.swarm_objects.specs.declared.duties.Duty.TheVariants as duty
use Rattle.swarm_objects.specs.declared.networks.Network.{Network}
use Rattle.swarm_objects.specs.declared.services.Mode.TheVariants as mode
use Rattle.swarm_objects.specs.declared.services.Service.{Service}
use Rattle.swarm_objects.specs.declared.tasks.Desired.TheVariants as desired
use Rattle.swarm_objects.specs.declared.tasks.Note.TheVariants as note
use Rattle.swarm_objects.specs.declared.tasks.Place.TheVariants.{Slot}
use Rattle.swarm_objects.specs.declared.tasks.Task.{Task}
use Rattle.swarm_objects.specs.declared.tasks.TaskState.TheVariants as state
use Rattle.swarm_objects.specs.declared.templates.Port.{Port}

abbrev port : ℕ → Option ℕ → Port
port target number = record { target = target; number = number; udp = false }

abbrev with_ports : List Port → Service
with_ports ports = record (replicas 1) { spec = record (spec (mode.Replicated 1)) { ports = ports } }

-- a network of eight addresses, and so of five for tasks
abbrev lan : Network
lan = record { id = 8; version = 1; name = codes "lan"; base = 1000; length = 29 }

abbrev on_lan : Task → Task
on_lan x = record x { template = record template { networks = 8 ∷ [] } }

-- the task has this address on the network
abbrev addressed_at : ℕ → Task → Task
addressed_at number x = record (on_lan x) { addresses = record { network = 8; number = number } ∷ [] }

abbrev fresh : Task
fresh = task 3 (Slot 1) state.New

abbrev world_of : Service → List Task → Tables
world_of s tasks = record (tables [] (s ∷ []) tasks) { networks = lan ∷ [] }

-- Ports.

port_without_number : allocator (world_of (with_ports (port 80 None ∷ [])) []) ≡ duty.Port 2 80 false ∷ []
port_without_number = refl

-- in the order in which the specification names them
ports_in_order : allocator (world_of (with_ports (port 90 None ∷ port 85 (Some 85) ∷ port 80 None ∷ [])) [])
    ≡ duty.Port 2 90 false ∷ duty.Port 2 80 false ∷ []
ports_in_order = refl

no_port_with_number : allocator (world_of (with_ports (port 80 (Some 90) ∷ [])) []) ≡ []
no_port_with_number = refl

abbrev given : ℕ → Service → Service
given number s = record s { version = 7; numbers = record { target = 80; udp = false; number = number } ∷ [] }

no_port_twice : allocator (world_of (given 30000 (with_ports (port 80 None ∷ []))) []) ≡ []
no_port_twice = refl

port_given : after_port 7 (world_of (with_ports (port 80 None ∷ [])) []) 2 80 false
    ≡ world_of (given 30000 (with_ports (port 80 None ∷ []))) []
port_given = refl

-- a number that the specification or the one before it names is held
least_free_port : (after_port 7 (world_of (record (with_ports (port 80 None ∷ port 81 (Some 30000) ∷ [])) {
  previous = Some (record (spec (mode.Replicated 1)) { ports = port 82 (Some 30001) ∷ [] });
}) []) 2 80 false).services ≡ given 30002 (record (with_ports (port 80 None ∷ port 81 (Some 30000) ∷ [])) {
  previous = Some (record (spec (mode.Replicated 1)) { ports = port 82 (Some 30001) ∷ [] });
}) ∷ []
least_free_port = refl

abbrev with_udp_port : Service
with_udp_port = with_ports (port 80 None ∷ record (port 81 (Some 30000)) { udp = true } ∷ [])

-- each protocol has numbers of its own, named ones
least_of_protocol : (after_port 7 (world_of with_udp_port []) 2 80 false).services ≡ given 30000 with_udp_port ∷ []
least_of_protocol = refl

abbrev with_udp_number : Service
with_udp_number = record (replicas 1) { id = 5; numbers = record { target = 81; udp = true; number = 30000 } ∷ [] }

-- and given ones
least_given_of_protocol :
    (after_port 7 (tables [] (with_ports (port 80 None ∷ []) ∷ with_udp_number ∷ []) []) 2 80 false).services
    ≡ given 30000 (with_ports (port 80 None ∷ [])) ∷ with_udp_number ∷ []
least_given_of_protocol = refl

-- Addresses.

address_of_new : allocator (world_of (replicas 1) (on_lan fresh ∷ [])) ≡ duty.Address 3 ∷ []
address_of_new = refl

no_address_of_unwanted : allocator (world_of (replicas 1) (with_desired desired.Shutdown fresh ∷ [])) ≡ []
no_address_of_unwanted = refl

no_address_without_service : allocator (tables [] [] (fresh ∷ [])) ≡ []
no_address_without_service = refl

-- the port's number comes first
no_address_before_port : allocator (world_of (with_ports (port 80 None ∷ [])) (fresh ∷ [])) ≡ duty.Port 2 80 false ∷ []
no_address_before_port = refl

-- the base is no address, and the one after it is the gateway's; nothing is noted any more
addressed_first : after_address 7 (world_of (replicas 1) (record (on_lan fresh) { note = note.NoAddress 8 } ∷ [])) 3
    ≡ world_of (replicas 1) (record (addressed_at 1002 fresh) { version = 7; state = state.Pending; since = 1000 } ∷ [])
addressed_first = refl

-- a task that runs keeps its address, one that ended doesn't
address_held : free_address (world_of (replicas 1) (addressed_at 1002 (task 3 (Slot 1) state.Running) ∷ [])) 8
    ≡ Some 1003
address_held = refl

address_free_again : free_address (world_of (replicas 1) (addressed_at 1002 (task 3 (Slot 1) state.Failed) ∷ [])) 8
    ≡ Some 1002
address_free_again = refl

-- Why there is none.

abbrev holder : ℕ → ℕ → Task
holder id number = addressed_at number (task id (Slot id) state.Running)

abbrev full : List Task → Tables
full tasks =
    world_of (replicas 9) (holder 10 1002 ∷ holder 11 1003 ∷ holder 12 1004 ∷ holder 13 1005 ∷ holder 14 1006 ∷ tasks)

-- the last address is none
note_where_full : allocator (full (on_lan fresh ∷ [])) ≡ duty.Note 3 ∷ []
note_where_full = refl

noted_full : after_note 7 (full (on_lan fresh ∷ [])) 3
    ≡ full (record (on_lan fresh) { version = 7; note = note.NoAddress 8 } ∷ [])
noted_full = refl

port_before_network : first_note (Some (port 80 None)) (Some 8) ≡ Some (note.NoPort false)
port_before_network = refl

note_of_protocol : first_note (Some (record (port 80 None) { udp = true })) None ≡ Some (note.NoPort true)
note_of_protocol = refl

no_note_twice : allocator (full (record (on_lan fresh) { note = note.NoAddress 8 } ∷ [])) ≡ []
no_note_twice = refl

note_where_network_is_gone : allocator (record (world_of (replicas 1) (on_lan fresh ∷ [])) { networks = [] })
    ≡ duty.Note 3 ∷ []
note_where_network_is_gone = refl

-- Ports come before addresses, and these before notes.

ports_first : allocator (record (world_of (with_ports (port 80 None ∷ [])) (
    record (on_lan fresh) { template = record template { networks = 9 ∷ [] } }
    ∷ record fresh { id = 4; service = 5 }
    ∷ [])) { services = with_ports (port 80 None ∷ []) ∷ record (replicas 1) { id = 5 } ∷ [] })
    ≡ duty.Port 2 80 false ∷ duty.Address 4 ∷ duty.Note 3 ∷ []
ports_first = refl
