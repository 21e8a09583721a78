-- The addresses that tasks hold.
use Rattle.std.specs.Prelude.{List, filter, map, ℕ, ◌==◌, flat_map, ◌-◌, Option, ◌+◌, ◌^◌, None}
use Rattle.swarm_objects.specs.Rows.{first_free, on_row, network_id, row_at}
use Rattle.swarm_objects.specs.Tasks.Words.{is_not_over}
use Rattle.swarm_objects.specs.World.{Tables}
use Rattle.swarm_objects.specs.declared.networks.Network.{Network}
use Rattle.swarm_objects.specs.declared.tasks.Address.{Address}
use Rattle.swarm_objects.specs.declared.tasks.Task.{Task}

-- Addresses.

abbrev pub addresses_in : ℕ → Task → List ℕ
addresses_in network x = map (λ a. a.number) (filter (λ (a : Address). a.network == network) x.addresses)

-- the addresses of the network that tasks up to RUNNING have
abbrev pub addresses_held : Tables → ℕ → List ℕ
addresses_held t network = flat_map (addresses_in network) (filter is_not_over t.tasks)

-- neither the base nor the last, and the first after the base is the gateway's
abbrev pub free_in : List ℕ → Network → Option ℕ
free_in held n = first_free (n.base + 2) (n.base + 2 ^ (32 - n.length) - 2) held

-- the least address of the network that is free; none of one that is gone
abbrev pub free_address : Tables → ℕ → Option ℕ
free_address t network = on_row None (free_in (addresses_held t network)) (row_at network_id network t.networks)
