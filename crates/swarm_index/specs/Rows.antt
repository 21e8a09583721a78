-- The keys of a world's rows.
use Rattle.std.specs.Prelude.{ℕ, ◌==◌, Option, None, Some, if◌then◌else◌}
use Rattle.std.specs.Option.{option_map}
use Rattle.swarm_index.specs.Keys.{KeyValue, Num, Pair, Text}
use Rattle.swarm_objects.specs.declared.networks.Network.{Network}
use Rattle.swarm_objects.specs.declared.nodes.Node.{Node}
use Rattle.swarm_objects.specs.declared.services.Service.{Service}
use Rattle.swarm_objects.specs.declared.tasks.Place.{Place}
use Rattle.swarm_objects.specs.declared.tasks.Place.TheVariants.{Slot, On}
use Rattle.swarm_objects.specs.declared.tasks.Task.{Task}

abbrev pub node_key : ℕ → Node → Option KeyValue
node_key which n = Some (Text n.name)

abbrev pub service_key : ℕ → Service → Option KeyValue
service_key which s = Some (Text s.name)

abbrev pub network_key : ℕ → Network → Option KeyValue
network_key which n = Some (Text n.name)

-- a service with a slot of it
abbrev pub slot_key : ℕ → Place → Option KeyValue
slot_key service (Slot slot) = Some (Pair service slot)
slot_key service (On node) = None

-- a service with a node on which it has a place
abbrev pub host_key : ℕ → Place → Option KeyValue
host_key service (Slot slot) = None
host_key service (On node) = Some (Pair service node)

-- a task is found by its service, its node and its place
abbrev pub task_key : ℕ → Task → Option KeyValue
task_key which t =
    if which == 0 then Some (Num t.service)
    else if which == 1 then option_map Num t.node
    else if which == 2 then slot_key t.service t.place
    else if which == 3 then host_key t.service t.place
    else None
