-- Rows that come, and rows that get another specification.
use Rattle.std.specs.Prelude.{None, [], List, ℕ, Bool, false, true, Some, ◌+◌, if◌then◌else◌}
use Rattle.swarm_objects.specs.declared.nodes.Availability.{Availability}
use Rattle.swarm_objects.specs.declared.nodes.Node.{Node}
use Rattle.swarm_objects.specs.declared.nodes.NodeDraft.{NodeDraft}
use Rattle.swarm_objects.specs.declared.nodes.NodeRole.{NodeRole}
use Rattle.swarm_objects.specs.declared.nodes.NodeState.TheVariants as node_state
use Rattle.swarm_objects.specs.declared.tasks.TaskState.TheVariants as state
use Rattle.swarm_objects.specs.declared.services.Service.{Service}
use Rattle.swarm_objects.specs.Same.{same_template}
use Rattle.swarm_objects.specs.Services.Ports.{kept_numbers}
use Rattle.swarm_objects.specs.declared.services.Mode.{Mode}
use Rattle.swarm_objects.specs.declared.services.Mode.TheVariants as mode
use Rattle.swarm_objects.specs.declared.services.ServiceSpec.{ServiceSpec}

abbrev pub new_node : ℕ → ℕ → List ℕ → NodeDraft → Node
new_node version id name draft = record {
  id = id;
  version = version;
  name = name;
  labels = draft.labels;
  role = draft.role;
  availability = draft.availability;
  state = node_state.Unknown;
  down_since = 0;
  cpu = draft.cpu;
  mem = draft.mem;
  os = draft.os;
  arch = draft.arch;
  engine = draft.engine;
  remote = draft.remote;
}

-- a service that comes, with this specification
abbrev pub first_service : ℕ → ℕ → List ℕ → ServiceSpec → Service
first_service version id name spec = record {
  id = id;
  version = version;
  name = name;
  spec = spec;
  previous = None;
  template_version = version;
  rolling_back = false;
  iteration = 0;
  numbers = [];
  run = None;
}

abbrev pub respecified_node : ℕ → List (List ℕ × List ℕ) → NodeRole → Availability → Node → Node
respecified_node version labels r a n = record n { version = version; labels = labels; role = r; availability = a }

abbrev pub same_mode : Mode → Mode → Bool
same_mode (mode.Replicated a) (mode.Replicated b) = true
same_mode mode.Global mode.Global = true
same_mode (mode.Job a b) (mode.Job c d) = true
same_mode _ _ = false

-- the version of the template, which changes with its content
abbrev pub version_of_template : ℕ → ServiceSpec → Service → ℕ
version_of_template version spec s = if same_template spec.template s.spec.template then s.template_version else version

abbrev pub next_iteration : Mode → ℕ → ℕ
next_iteration (mode.Replicated replicas) k = k
next_iteration mode.Global k = k
next_iteration (mode.Job concurrent total) k = k + 1

-- the service with the specification, whose previous one is that which it had
abbrev pub respecified : ℕ → Bool → ServiceSpec → Service → Service
respecified version back spec s = record s {
  version = version;
  spec = spec;
  previous = Some s.spec;
  template_version = version_of_template version spec s;
  rolling_back = back;
  iteration = next_iteration s.spec.mode s.iteration;
  numbers = kept_numbers s.numbers spec (Some s.spec);
}
