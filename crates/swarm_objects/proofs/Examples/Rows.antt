-- The rows of the examples.
use Rattle.std.specs.Prelude.{List, None, Some, [], codes, false, map, true, ℕ, ◌+◌, ◌∷◌}
use Rattle.swarm_objects.specs.Defaults.{usual_settings}
use Rattle.swarm_objects.specs.World.{Tables}
use Rattle.swarm_objects.specs.declared.nodes.Availability.TheVariants as availability
use Rattle.swarm_objects.specs.declared.nodes.Node.{Node}
use Rattle.swarm_objects.specs.declared.nodes.NodeRole.TheVariants as node_role
use Rattle.swarm_objects.specs.declared.nodes.NodeState.TheVariants as node_state
use Rattle.swarm_objects.specs.declared.services.FailureAction.TheVariants as action
use Rattle.swarm_objects.specs.declared.services.Mode.{Mode}
use Rattle.swarm_objects.specs.declared.services.Mode.TheVariants as mode
use Rattle.swarm_objects.specs.declared.services.Service.{Service}
use Rattle.swarm_objects.specs.declared.services.ServiceSpec.{ServiceSpec}
use Rattle.swarm_objects.specs.declared.services.UpdateConfig.{UpdateConfig}
use Rattle.swarm_objects.specs.declared.services.UpdateOrder.TheVariants as order
use Rattle.swarm_objects.specs.declared.sessions.NodeSession.{NodeSession}
use Rattle.swarm_objects.specs.declared.tasks.Desired.{Desired}
use Rattle.swarm_objects.specs.declared.tasks.Desired.TheVariants as desired
use Rattle.swarm_objects.specs.declared.tasks.Note.TheVariants as note
use Rattle.swarm_objects.specs.declared.tasks.Place.{Place}
use Rattle.swarm_objects.specs.declared.tasks.Place.TheVariants.{Slot}
use Rattle.swarm_objects.specs.declared.tasks.Task.{Task}
use Rattle.swarm_objects.specs.declared.tasks.TaskState.{TaskState}
use Rattle.swarm_objects.specs.declared.templates.Constraint.{Constraint}
use Rattle.swarm_objects.specs.declared.templates.End.TheVariants as end
use Rattle.swarm_objects.specs.declared.templates.Key.TheVariants as key
use Rattle.swarm_objects.specs.declared.templates.RestartCondition.TheVariants as condition
use Rattle.swarm_objects.specs.declared.templates.Template.{Template}
use Rattle.swarm_objects.specs.declared.templates.Workload.{Workload}

abbrev pub workload : Workload
workload = record { prepare = 10; start = 20; stop = 5; end = end.Never }

abbrev pub template : Template
template = record {
  workload = workload;
  cpu = 100;
  mem = 0;
  constraints = [];
  spread = [];
  platforms = [];
  max_replicas = 0;
  networks = [];
  host_ports = [];
  restart = record { condition = condition.Any; delay = 50; max_attempts = 0; window = 0 };
}

-- a template of earlier tasks
abbrev pub old_template : Template
old_template = record template { cpu = 200 }

-- the node's label zone is this
abbrev pub in_zone : List ℕ → Constraint
in_zone zone = record { key = key.Label (codes "zone"); equal = true; value = zone }

abbrev pub update_config : UpdateConfig
update_config =
    record { parallelism = 1; delay = 0; monitor = 30; action = action.Pause; ratio = 0; order = order.StopFirst }

abbrev pub spec : Mode → ServiceSpec
spec m = record { mode = m; template = template; ports = []; update = update_config }

-- the service with id 2
abbrev pub service : Mode → Service
service m = record {
  id = 2;
  version = 2;
  name = codes "web";
  spec = spec m;
  previous = None;
  template_version = 2;
  rolling_back = false;
  iteration = 0;
  numbers = [];
  run = None;
}

-- the service with this template
abbrev pub templated : Template → Service → Service
templated x s = record s { spec = record s.spec { template = x } }

abbrev pub node : ℕ → Node
node id = record {
  id = id;
  version = 1;
  name = codes "n";
  labels = (codes "zone", codes "a") ∷ [];
  role = node_role.Worker;
  availability = availability.Active;
  state = node_state.Ready;
  down_since = 0;
  cpu = 1000;
  mem = 0;
  os = codes "linux";
  arch = codes "amd64";
  engine = [];
  remote = false;
}

abbrev pub down_node : ℕ → ℕ → Node
down_node id time = record (node id) { state = node_state.Down; down_since = time }

-- a task without a node, which is to run
abbrev pub task : ℕ → Place → TaskState → Task
task id p s = record {
  id = id;
  version = 2;
  service = 2;
  place = p;
  iteration = 0;
  template = template;
  born = 2;
  goal = desired.Running;
  node = None;
  state = s;
  since = 0;
  desired = desired.Running;
  created = 0;
  raise_at = 0;
  addresses = [];
  note = note.Empty;
  closed = None;
}

-- the task in a slot, on a node
abbrev pub placed_task : ℕ → ℕ → ℕ → TaskState → Task
placed_task id slot on s = record (task id (Slot slot) s) { node = Some on }

abbrev pub with_desired : Desired → Task → Task
with_desired d x = record x { desired = d }

abbrev pub with_template : Template → Task → Task
with_template template x = record x { template = template }

-- the session of the node, which is live till 6000
abbrev pub session : ℕ → NodeSession
session node = record { node = node; session = record { id = 40 + node; deadline = 6000; beat = 0 } }

-- the tables at 1000, with a session of each node
abbrev pub tables : List Node → List Service → List Task → Tables
tables nodes services tasks = record {
  clock = 1000;
  next_id = 50;
  nodes = nodes;
  services = services;
  tasks = tasks;
  networks = [];
  attempts = [];
  sessions = map (λ n. session n.id) nodes;
  settings = usual_settings;
}

abbrev pub replicas : ℕ → Service
replicas k = service (mode.Replicated k)

abbrev pub global_service : Service
global_service = service mode.Global

-- of so many tasks at a time and in all
abbrev pub job : ℕ → ℕ → Service
job concurrent total = service (mode.Job concurrent total)
