-- Why a call is refused; each test is none, or the refusal.
use Rattle.swarm_objects.specs.NetworkUse.{service_uses, task_uses}
use Rattle.swarm_objects.specs.Refusals.{refuse}
use Rattle.std.specs.Prelude.{List, None, Option, Some, [], Err, Result, Bool, ℕ, not, ◌==◌, nat_le, find, is_none, filter, map, ◌&&◌, flat_map, ◌++◌}
use Rattle.std.specs.Option.{option_map, option_eq}
use Rattle.std.specs.Ordering.{nat_cmp}
use Rattle.std.specs.Str.{bytes_eq}
use Rattle.swarm_objects.specs.Agents.Messages.{names}
use Rattle.swarm_objects.specs.Rows.{service_id, first_of, task_id, least_by}
use Rattle.swarm_objects.specs.Same.{same_number}
use Rattle.swarm_objects.specs.Services.Ports.{holds_port}
use Rattle.swarm_objects.specs.World.{World, Tables}
use Rattle.swarm_objects.specs.declared.ids.Kind.{Kind}
use Rattle.swarm_objects.specs.declared.ids.Kind.TheVariants as kind
use Rattle.swarm_objects.specs.declared.networks.Network.{Network}
use Rattle.swarm_objects.specs.declared.nodes.Node.{Node}
use Rattle.swarm_objects.specs.declared.replies.Refusal.{Refusal}
use Rattle.swarm_objects.specs.declared.replies.Refusal.TheVariants as refusal
use Rattle.swarm_objects.specs.declared.replies.Wanted.{Wanted}
use Rattle.swarm_objects.specs.declared.replies.Wanted.TheVariants as wanted_by
use Rattle.swarm_objects.specs.declared.rules.SpecRule.{SpecRule}
use Rattle.swarm_objects.specs.declared.services.Service.{Service}
use Rattle.swarm_objects.specs.declared.templates.Port.{Port}

-- the world after an operation and the id of its object, or its refusal
abbrev pub Done : Type 0
Done = Result (World × ℕ) Refusal

-- what follows, where the row is there
abbrev pub found : {X Y : Type 0} → Kind → Wanted → Option X → (X → Result Y Refusal) → Result Y Refusal
found k asked None next = Err (refusal.NotFound k asked)
found k asked (Some row) next = next row

abbrev pub bad_spec : Option SpecRule → Option Refusal
bad_spec r = option_map refusal.BadSpec r

abbrev pub name_taken : Option ℕ → Option Refusal
name_taken id = option_map refusal.NameTaken id

-- a version is asked for, and it isn't the row's
abbrev pub conflict : Option ℕ → ℕ → Option Refusal
conflict None now = None
conflict (Some asked) now = refuse (not (asked == now)) (refusal.SequenceConflict now)

abbrev pub too_many : Kind → ℕ → ℕ → Option Refusal
too_many k most there = refuse (nat_le most there) (refusal.TooMany k there)

-- Rows by name.

abbrev pub has_name : {X : Type 0} → (X → List ℕ) → List ℕ → X → Bool
has_name name_of name row = bytes_eq (name_of row) name

abbrev pub row_named : {X : Type 0} → (X → List ℕ) → List ℕ → List X → Option X
row_named name_of name rows = find (has_name name_of name) rows

abbrev pub node_name : Node → List ℕ
node_name n = n.name

abbrev pub service_name : Service → List ℕ
service_name s = s.name

abbrev pub network_name : Network → List ℕ
network_name n = n.name

abbrev pub node_by : Tables → List ℕ → Option Node
node_by t name = row_named node_name name t.nodes

abbrev pub service_by : Tables → List ℕ → Option Service
service_by t name = row_named service_name name t.services

abbrev pub network_by : Tables → List ℕ → Option Network
network_by t name = row_named network_name name t.networks

abbrev pub on_node : {Y : Type 0} → Tables → List ℕ → (Node → Result Y Refusal) → Result Y Refusal
on_node t name next = found kind.Node (wanted_by.Name name) (node_by t name) next

abbrev pub on_service_by : {Y : Type 0} → Tables → List ℕ → (Service → Result Y Refusal) → Result Y Refusal
on_service_by t name next = found kind.Service (wanted_by.Name name) (service_by t name) next

abbrev pub on_network_by : {Y : Type 0} → Tables → List ℕ → (Network → Result Y Refusal) → Result Y Refusal
on_network_by t name next = found kind.Network (wanted_by.Name name) (network_by t name) next

-- Networks and ports of drafts.

abbrev pub is_missing_network : Tables → List ℕ → Bool
is_missing_network t name = is_none (network_by t name)

abbrev pub no_network : List ℕ → Refusal
no_network name = refusal.NotFound kind.Network (wanted_by.Name name)

-- the first named network that isn't there
abbrev pub missing_network : Tables → List (List ℕ) → Option Refusal
missing_network t names = option_map no_network (find (is_missing_network t) names)

-- the first other service that holds the port's number
abbrev pub other_holder : Tables → Option ℕ → Port → Option ℕ → List ℕ
other_holder t own p None = []
other_holder t own p (Some number) =
    map service_id (filter (λ s. not (option_eq same_number own (Some s.id)) && holds_port p.udp number s) t.services)

-- the first port that another service holds
abbrev pub port_taken : Tables → Option ℕ → List Port → Option Refusal
port_taken t own ports = option_map refusal.PortTaken (first_of (flat_map (λ p. other_holder t own p p.number) ports))

abbrev pub users : Tables → ℕ → List ℕ
users t network =
    map service_id (filter (service_uses network) t.services) ++ map task_id (filter (task_uses network) t.tasks)

-- the least id of a user
abbrev pub in_use : Tables → ℕ → Option Refusal
in_use t network = option_map refusal.InUse (least_by nat_cmp None (users t network))
