-- What the line of an entry has of each row that came, changed or went, as JSON: the keys of each object stand in the
-- order of their bytes.
use Rattle.std.specs.Prelude.{ℕ, codes, Option, unwrap_or}
use Rattle.std.specs.Option.{option_map}
use Rattle.serde_json.specs.Data.{Data, null, string, object, no_members, member}
use Rattle.swarm_objects.specs.Rows.{row_at, network_id, node_id, service_id, task_id}
use Rattle.swarm_objects.specs.Shown.{status_of, task_shown}
use Rattle.swarm_objects.specs.Values.Texts.{state_text}
use Rattle.swarm_objects.specs.World.{Tables}
use Rattle.swarm_objects.specs.declared.ids.Kind.{Kind}
use Rattle.swarm_objects.specs.declared.ids.Kind.TheVariants as kind
use Rattle.swarm_objects.specs.declared.networks.Network.{Network}
use Rattle.swarm_objects.specs.declared.nodes.Node.{Node}
use Rattle.swarm_objects.specs.declared.services.Service.{Service}
use Rattle.swarm_objects.specs.declared.tasks.Task.{Task}
use Rattle.swarm_objects.specs.declared.views.TaskShown.{TaskShown}
use Rattle.swarm_objects.specs.declared.watches.Event.{Event}
use Rattle.swarm_objects.specs.declared.watches.Verb.{Verb}
use Rattle.swarm_objects.specs.declared.watches.Verb.TheVariants as verb
use Rattle.swarm_print.specs.Details.{count, optional_count}
use Rattle.swarm_print.specs.Notes.{note_text}
use Rattle.swarm_print.specs.Objects.{place_text, service_place_text}
use Rattle.swarm_print.specs.Words.{availability_word, desired_word, state_word, update_word, verb_word}

-- what is desired of a node is its availability
abbrev pub node_change : Verb → Node → Data
node_change v n = object
    (member (codes "desired") (string (availability_word n.availability))
    (member (codes "id") (count n.id)
    (member (codes "kind") (string (codes "node"))
    (member (codes "name") (string n.name)
    (member (codes "state") (string (state_word n.state))
    (member (codes "verb") (string (verb_word v))
    no_members))))))

-- a service's state is how its last update stands
abbrev pub service_change : Verb → Service → Data
service_change v s = object
    (member (codes "id") (count s.id)
    (member (codes "kind") (string (codes "service"))
    (member (codes "name") (string s.name)
    (member (codes "state") (string (update_word (status_of s)))
    (member (codes "verb") (string (verb_word v))
    no_members)))))

abbrev pub network_change : Verb → Network → Data
network_change v n = object
    (member (codes "id") (count n.id)
    (member (codes "kind") (string (codes "network"))
    (member (codes "name") (string n.name)
    (member (codes "verb") (string (verb_word v))
    no_members))))

-- a task as a list of tasks shows it, with the ids of its service and its node
abbrev pub shown_change : Verb → Task → TaskShown → Data
shown_change v x shown = object
    (member (codes "desired") (string (desired_word x.desired))
    (member (codes "id") (count x.id)
    (member (codes "kind") (string (codes "task"))
    (member (codes "name") (string (service_place_text shown.service shown.place))
    (member (codes "node") (optional_count x.node)
    (member (codes "note") (string (note_text shown.note))
    (member (codes "place") (string (place_text shown.place))
    (member (codes "service") (count x.service)
    (member (codes "state") (string (state_text x.state))
    (member (codes "verb") (string (verb_word v))
    no_members))))))))))

abbrev pub task_change : Tables → Verb → Task → Data
task_change t v x = shown_change v x (task_shown t x)

-- what is told of the row; a row that isn't there is null
abbrev pub told : {X : Type 0} → (X → Data) → Option X → Data
told tells row = unwrap_or (option_map tells row) null

-- the object of this kind and id, by the tables; watchers are none
abbrev pub row_change : Tables → Verb → Kind → ℕ → Data
row_change t v kind.Node id = told (node_change v) (row_at node_id id t.nodes)
row_change t v kind.Service id = told (service_change v) (row_at service_id id t.services)
row_change t v kind.Task id = told (task_change t v) (row_at task_id id t.tasks)
row_change t v kind.Network id = told (network_change v) (row_at network_id id t.networks)
row_change t v kind.Watcher id = null

-- a row that is gone is told as it was before the entry, every other as it is after it
abbrev pub telling : Verb → Tables → Tables → Tables
telling verb.Deleted old new = old
telling verb.Created old new = new
telling verb.Updated old new = new

abbrev pub change_data : Tables → Tables → Event → Data
change_data old new e = row_change (telling e.verb old new) e.verb e.kind e.id
