-- The changes between two worlds, as events.
use Rattle.std.specs.Prelude.{Bool, List, None, Option, Some, [], if◌then◌else◌, ◌∷◌, ℕ, map, flat_map, ◌++◌}
use Rattle.swarm_model.specs.Content.{same_network, same_node, same_service, same_task}
use Rattle.swarm_objects.specs.Rows.{row_at, rising, network_id, node_id, service_id, task_id}
use Rattle.swarm_objects.specs.World.{Tables}
use Rattle.swarm_objects.specs.declared.ids.Kind.{Kind}
use Rattle.swarm_objects.specs.declared.ids.Kind.TheVariants as kind
use Rattle.swarm_objects.specs.declared.watches.Event.{Event}
use Rattle.swarm_objects.specs.declared.watches.Verb.{Verb}
use Rattle.swarm_objects.specs.declared.watches.Verb.TheVariants as verb

-- Changes.

-- the row came, went or was written
abbrev pub verb_of : {X : Type 0} → (X → X → Bool) → Option X → Option X → List Verb
verb_of same None None = []
verb_of same None (Some new) = verb.Created ∷ []
verb_of same (Some old) None = verb.Deleted ∷ []
verb_of same (Some old) (Some new) = if same old new then [] else verb.Updated ∷ []

abbrev pub event : ℕ → Kind → ℕ → Verb → Event
event entry k id v = record { entry = entry; verb = v; kind = k; id = id }

abbrev pub row_events : {X : Type 0} → ℕ → Kind → (X → ℕ) → (X → X → Bool) → List X → List X → ℕ → List Event
row_events entry k key same old new id = map (event entry k id) (verb_of same (row_at key id old) (row_at key id new))

-- by rising id
abbrev pub events_of : {X : Type 0} → ℕ → Kind → (X → ℕ) → (X → X → Bool) → List X → List X → List Event
events_of entry k key same old new = flat_map (row_events entry k key same old new) (rising (map key (old ++ new)))

-- by kind and then id; they are events of the entry with this number
abbrev pub changes_between : ℕ → Tables → Tables → List Event
changes_between entry old new =
    events_of entry kind.Node node_id same_node old.nodes new.nodes
    ++ events_of entry kind.Service service_id same_service old.services new.services
    ++ events_of entry kind.Task task_id same_task old.tasks new.tasks
    ++ events_of entry kind.Network network_id same_network old.networks new.networks
