-- The lines of lists, of events and of messages.
use Rattle.std.specs.Prelude.{ℕ, List, [], ◌∷◌, ◌++◌, length, flat_map, codes, decimal, Option, Some, None}
use Rattle.swarm_objects.specs.declared.messages.AssignChange.{AssignChange}
use Rattle.swarm_objects.specs.declared.messages.AssignChange.TheVariants.{Update, Remove}
use Rattle.swarm_objects.specs.declared.messages.Message.{Message}
use Rattle.swarm_objects.specs.declared.views.NetworkShown.{NetworkShown}
use Rattle.swarm_objects.specs.declared.views.NodeShown.{NodeShown}
use Rattle.swarm_objects.specs.declared.views.ServiceShown.{ServiceShown}
use Rattle.swarm_objects.specs.declared.views.TaskShown.{TaskShown}
use Rattle.swarm_objects.specs.declared.watches.Event.{Event}
use Rattle.swarm_print.specs.Lines.{line}
use Rattle.swarm_print.specs.Notes.{note_text}
use Rattle.swarm_print.specs.Objects.{node_text, service_place_text, subnet_text}
use Rattle.swarm_objects.specs.Values.Texts.{kind_text, role_text, state_text}
use Rattle.swarm_print.specs.Words.{availability_word, desired_word, extent_word, mode_word, state_word, update_word, verb_word}

abbrev pub node_line : NodeShown → List ℕ
node_line n =
    line (codes "node" ∷ decimal n.id ∷ n.name ∷ state_word n.state ∷ availability_word n.availability
    ∷ role_text n.role ∷ decimal n.cpu ∷ decimal n.mem ∷ [])

-- so many of so many
abbrev pub share_text : ℕ → ℕ → List ℕ
share_text running wanted = decimal running ++ codes "/" ++ decimal wanted

abbrev pub service_line : ServiceShown → List ℕ
service_line s = line (codes "service" ∷ decimal s.id ∷ s.name ∷ mode_word s.mode ∷ share_text s.running s.wanted
    ∷ update_word s.update ∷ [])

abbrev pub network_line : NetworkShown → List ℕ
network_line n = line (codes "network" ∷ decimal n.id ∷ n.name ∷ subnet_text n.base n.length ∷ [])

abbrev pub task_line : TaskShown → List ℕ
task_line t =
    line (codes "task" ∷ decimal t.id ∷ service_place_text t.service t.place ∷ node_text t.node
    ∷ state_text t.state ∷ desired_word t.desired ∷ note_text t.note ∷ [])

-- an event begins with the number of its entry
abbrev pub event_line : Event → List ℕ
event_line e = line (decimal e.entry ∷ verb_word e.verb ∷ kind_text e.kind ∷ decimal e.id ∷ [])

abbrev pub change_line : AssignChange → List ℕ
change_line (Update assigned) = line (codes "update" ∷ decimal assigned.task ∷ desired_word assigned.desired ∷ [])
change_line (Remove task) = line (codes "remove" ∷ decimal task ∷ [])

-- the message that an agent pulled, if there was one
abbrev pub message_text : Option Message → List ℕ
message_text None = line (codes "message" ∷ codes "none" ∷ [])
message_text (Some m) =
    line (codes "message" ∷ extent_word m.complete ∷ decimal m.applies_to ∷ decimal m.results_in
    ∷ decimal (length m.changes) ∷ []) ++ flat_map change_line m.changes
