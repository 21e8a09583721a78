-- Reservations fit.
use Rattle.std.specs.Prelude.{Bool, nat_le, ◌&&◌, false, true, ◌||◌, [], is_some, ◌∷◌, ◌≡◌, List}
use Rattle.std.specs.List.{list_any, list_all}
use Rattle.std.specs.Option.{option_eq}
use Rattle.swarm_model.specs.Content.{same_address}
use Rattle.swarm_model.specs.History.{IsLegal}
use Rattle.swarm_model.specs.Laws.Steps.{EachWorld}
use Rattle.swarm_objects.specs.Nodes.Holdings.{reserved_cpu, reserved_mem, is_host_port_used}
use Rattle.swarm_objects.specs.Rules.Services.{has_alike}
use Rattle.swarm_objects.specs.Same.{same_number}
use Rattle.swarm_objects.specs.Services.Ports.{holds_port, ports_held}
use Rattle.swarm_objects.specs.Tasks.Words.{is_not_over, is_placed}
use Rattle.swarm_objects.specs.World.{Tables, empty_world}
use Rattle.swarm_objects.specs.declared.calls.Entry.{Entry}
use Rattle.swarm_objects.specs.declared.nodes.Node.{Node}
use Rattle.swarm_objects.specs.declared.services.Service.{Service}
use Rattle.swarm_objects.specs.declared.tasks.Address.{Address}
use Rattle.swarm_objects.specs.declared.tasks.Task.{Task}

-- Reservations fit.

-- what is reserved on the node is at most what it has
abbrev pub has_room_for : Tables → Node → Bool
has_room_for t n = nat_le (reserved_cpu t n.id) n.cpu && nat_le (reserved_mem t n.id) n.mem

-- two services hold a number of one protocol
abbrev pub share_port : Service → Service → Bool
share_port a b =
    list_any (λ number. holds_port false number b) (ports_held false a)
    || list_any (λ number. holds_port true number b) (ports_held true a)

abbrev pub has_address : Task → Address → Bool
has_address x a = list_any (same_address a) x.addresses

-- two tasks up to RUNNING have an address of one network
abbrev pub share_address : Task → Task → Bool
share_address a b = is_not_over a && is_not_over b && list_any (has_address b) a.addresses

-- two tasks from ASSIGNED to RUNNING on one node name a host port of one protocol and number
abbrev pub share_host_port : Task → Task → Bool
share_host_port a b =
    is_placed a && is_placed b && is_some a.node && option_eq same_number a.node b.node
    && list_any (is_host_port_used (b ∷ [])) a.template.host_ports

pub record Fits (t : Tables) : Type 0 where
  pub resources : list_all (has_room_for t) t.nodes ≡ true
  pub ports : has_alike share_port t.services ≡ false
  pub addresses : has_alike share_address t.tasks ≡ false
  pub host_ports : has_alike share_host_port t.tasks ≡ false

abbrev pub FittingLaw : Type 0
FittingLaw = (h : List Entry) → IsLegal h → EachWorld (λ w. Fits w.tables) empty_world h
