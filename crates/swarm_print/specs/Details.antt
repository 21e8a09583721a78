-- What inspections show, as JSON: the keys of each object stand in the order of their bytes.
use Rattle.std.specs.Prelude.{ℕ, List, [], ◌∷◌, ◌++◌, map, codes, Option, Some, None}
use Rattle.serde_json.specs.Data.{Data, null, number, unsigned, string, array, object, Members, no_members, member, put}
use Rattle.serde_json.specs.View.{items_of}
use Rattle.serde_json.specs.Written.{compact_text}
use Rattle.swarm_objects.specs.declared.views.NetworkDetail.{NetworkDetail}
use Rattle.swarm_objects.specs.declared.views.NodeDetail.{NodeDetail}
use Rattle.swarm_objects.specs.declared.views.ServiceDetail.{ServiceDetail}
use Rattle.swarm_objects.specs.declared.views.TaskDetail.{TaskDetail}
use Rattle.swarm_objects.specs.declared.templates.Port.{Port}
use Rattle.swarm_print.specs.Notes.{note_text}
use Rattle.swarm_print.specs.Objects.{address_text, place_text, subnet_text}
use Rattle.swarm_objects.specs.Values.Texts.{role_text, state_text}
use Rattle.swarm_print.specs.Words.{availability_word, desired_word, mode_word, protocol_word, state_word, update_word}

abbrev pub count : ℕ → Data
count n = number (unsigned n)

-- a number that isn't there is null
abbrev pub optional_count : Option ℕ → Data
optional_count None = null
optional_count (Some n) = count n

-- each label at its key; of labels with one key the first stands
abbrev pub label_members : List (List ℕ × List ℕ) → Members
label_members [] = no_members
label_members (label ∷ labels) = put label.0 (string label.1) (label_members labels)

abbrev pub node_data : NodeDetail → Data
node_data n = object
    (member (codes "availability") (string (availability_word n.availability))
    (member (codes "cpu") (count n.cpu)
    (member (codes "id") (count n.id)
    (member (codes "kind") (string (codes "node"))
    (member (codes "labels") (object (label_members n.labels))
    (member (codes "mem") (count n.mem)
    (member (codes "name") (string n.name)
    (member (codes "role") (string (role_text n.role))
    (member (codes "state") (string (state_word n.state))
    (member (codes "version") (count n.version)
    no_members))))))))))

abbrev pub port_data : Port → Data
port_data p = object
    (member (codes "number") (optional_count p.number)
    (member (codes "protocol") (string (protocol_word p.udp))
    (member (codes "target") (count p.target)
    no_members)))

abbrev pub service_data : ServiceDetail → Data
service_data s = object
    (member (codes "id") (count s.id)
    (member (codes "kind") (string (codes "service"))
    (member (codes "mode") (string (mode_word s.mode))
    (member (codes "name") (string s.name)
    (member (codes "ports") (array (items_of (map port_data s.ports)))
    (member (codes "running") (count s.running)
    (member (codes "update") (string (update_word s.update))
    (member (codes "version") (count s.version)
    (member (codes "wanted") (count s.wanted)
    no_members)))))))))

abbrev pub network_data : NetworkDetail → Data
network_data n = object
    (member (codes "id") (count n.id)
    (member (codes "kind") (string (codes "network"))
    (member (codes "name") (string n.name)
    (member (codes "subnet") (string (subnet_text n.base n.length))
    (member (codes "version") (count n.version)
    no_members)))))

abbrev pub address_data : ℕ → Data
address_data a = string (address_text a)

abbrev pub task_data : TaskDetail → Data
task_data t = object
    (member (codes "addresses") (array (items_of (map address_data t.addresses)))
    (member (codes "desired") (string (desired_word t.desired))
    (member (codes "id") (count t.id)
    (member (codes "kind") (string (codes "task"))
    (member (codes "node") (optional_count t.node)
    (member (codes "note") (string (note_text t.note))
    (member (codes "place") (string (place_text t.place))
    (member (codes "service") (count t.service)
    (member (codes "state") (string (state_text t.state))
    (member (codes "version") (count t.version)
    no_members))))))))))

-- the value without spaces, and a newline
unfoldable pub json_line : Data → List ℕ
json_line value = compact_text value ++ codes "\n"
