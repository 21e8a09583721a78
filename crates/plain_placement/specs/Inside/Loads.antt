-- What nodes hold, gathered in one pass.
use Rattle.std.specs.Prelude.{ℕ, Bool, Option, Some, None, ◌≡◌, ◌+◌, ◌&&◌, ◌||◌, ◌==◌, nat_le, nat_lt, true, false, ⊤}
use Rattle.plain_placement.specs.Inside.Filtering.{is_open}
use Rattle.plain_placement.specs.declared.loads.NodeLoad.{NodeLoad}
use Rattle.swarm_objects.specs.Nodes.BestNode.{load}
use Rattle.swarm_objects.specs.Nodes.Filters.{has_free_host_ports, here, is_supported, is_tested_on, takes_tasks}
use Rattle.swarm_objects.specs.Nodes.Holdings.{reserved_cpu, reserved_mem}
use Rattle.swarm_objects.specs.Nodes.Words.{meets_all}
use Rattle.swarm_objects.specs.World.{Tables}
use Rattle.swarm_objects.specs.declared.nodes.Node.{Node}
use Rattle.swarm_objects.specs.declared.tasks.Task.{Task}

-- it is what the node holds, for the service
pub record IsLoad (t : Tables) (node service : ℕ) (held : NodeLoad) : Type 0 where
  pub cpu : held.cpu ≡ reserved_cpu t node
  pub mem : held.mem ≡ reserved_mem t node
  pub here : held.here ≡ here t node service
  pub live : held.live ≡ load t node

-- the tests that need no load
abbrev pub suits : Tables → Task → Node → Bool
suits t x n =
    is_tested_on x.place n.id && takes_tasks t n && meets_all x.template.constraints n
    && is_supported x.template.platforms n && has_free_host_ports t x n

-- the tests that need it
abbrev pub has_room_by : Task → Node → NodeLoad → Bool
has_room_by x n held =
    nat_le (held.cpu + x.template.cpu) n.cpu && nat_le (held.mem + x.template.mem) n.mem
    && (x.template.max_replicas == 0 || nat_lt held.here x.template.max_replicas)

abbrev pub IsLoadIfOpen : Tables → Task → Node → Option NodeLoad → Type 0
IsLoadIfOpen t x n None = is_open t x n ≡ false
IsLoadIfOpen t x n (Some held) = (is_open t x n ≡ true) × IsLoad t n.id x.service held

-- it is what the best node so far holds, if there is one
abbrev pub HoldsBest : Tables → ℕ → Option Node → NodeLoad → Type 0
HoldsBest t service None held = ⊤
HoldsBest t service (Some n) held = IsLoad t n.id service held
