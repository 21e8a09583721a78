-- The operations on networks.
use Rattle.std.specs.Prelude.{List, length, ℕ, [], ◌++◌, ◌∷◌, find}
use Rattle.std.specs.Option.{option_map}
use Rattle.swarm_model.specs.Calls.Refusals.{bad_spec, name_taken, network_by, too_many, in_use, Done}
use Rattle.swarm_objects.specs.Refusals.{first_refusal, unless}
use Rattle.swarm_objects.specs.Changes.{id_taken, with_tables}
use Rattle.swarm_objects.specs.Limits.{most_networks}
use Rattle.swarm_objects.specs.Rows.{network_id, drop_row}
use Rattle.swarm_objects.specs.Rules.Networks.{subnet_breaks, subnet_rules}
use Rattle.swarm_objects.specs.World.{Tables, World}
use Rattle.swarm_objects.specs.declared.ids.Kind.TheVariants as kind
use Rattle.swarm_objects.specs.declared.networks.Network.{Network}

-- Networks and settings.

abbrev pub new_network : ℕ → ℕ → List ℕ → ℕ → ℕ → Network
new_network version id name base bits = record { id = id; version = version; name = name; base = base; length = bits }

abbrev pub with_network : Tables → Network → Tables
with_network t n = record (id_taken t) { networks = t.networks ++ n ∷ [] }

abbrev pub create_network : World → Network → Done
create_network w n =
    unless (first_refusal (
    bad_spec (find (subnet_breaks n.base n.length) subnet_rules)
    ∷ name_taken (option_map network_id (network_by w.tables n.name))
    ∷ too_many kind.Network most_networks (length w.tables.networks)
    ∷ []))
    (with_tables w (with_network w.tables n), n.id)

abbrev pub remove_network : World → Network → Done
remove_network w n =
    unless (in_use w.tables n.id)
    (with_tables w (record w.tables { networks = drop_row network_id n.id w.tables.networks }), n.id)
