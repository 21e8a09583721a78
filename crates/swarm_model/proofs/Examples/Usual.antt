-- Rows, calls and replies of the examples, with what they usually have: an example names only what is other.
use Rattle.std.specs.Prelude.{List, None, Some, [], false, ℕ, ◌∷◌}
use Rattle.swarm_model.proofs.Examples.Audit.{Told, asked}
use Rattle.swarm_objects.specs.declared.agents.AgentMode.TheVariants as agent_mode
use Rattle.swarm_objects.specs.declared.agents.Executor.{Executor}
use Rattle.swarm_objects.specs.declared.agents.NodeAgent.{NodeAgent}
use Rattle.swarm_objects.specs.declared.calls.Call.TheVariants as call
use Rattle.swarm_objects.specs.declared.ids.Kind.{Kind}
use Rattle.swarm_objects.specs.declared.ids.Kind.TheVariants as kind
use Rattle.swarm_objects.specs.declared.messages.Assigned.{Assigned}
use Rattle.swarm_objects.specs.declared.nodes.Node.{Node}
use Rattle.swarm_objects.specs.declared.nodes.NodeDraft.{NodeDraft}
use Rattle.swarm_objects.specs.declared.nodes.NodeState.TheVariants as node_state
use Rattle.swarm_objects.specs.declared.replies.Refusal.TheVariants as refusal
use Rattle.swarm_objects.specs.declared.replies.Reply.{Reply}
use Rattle.swarm_objects.specs.declared.replies.Reply.TheVariants as reply
use Rattle.swarm_objects.specs.declared.replies.Wanted.TheVariants as wanted_by
use Rattle.swarm_objects.specs.declared.services.Draft.{Draft}
use Rattle.swarm_objects.specs.declared.services.Service.{Service}
use Rattle.swarm_objects.specs.declared.services.ServiceSpec.{ServiceSpec}
use Rattle.swarm_objects.specs.declared.sessions.NodeSession.{NodeSession}
use Rattle.swarm_objects.specs.declared.tasks.Desired.{Desired}
use Rattle.swarm_objects.specs.declared.tasks.Desired.TheVariants as desired
use Rattle.swarm_objects.specs.declared.tasks.Note.TheVariants as note
use Rattle.swarm_objects.specs.declared.tasks.Place.{Place}
use Rattle.swarm_objects.specs.declared.tasks.Task.{Task}
use Rattle.swarm_objects.specs.declared.tasks.TaskState.{TaskState}
use Rattle.swarm_objects.specs.declared.tasks.TaskState.TheVariants as state
use Rattle.swarm_objects.specs.declared.templates.Template.{Template}
use Rattle.swarm_objects.specs.declared.templates.Workload.{Workload}
use Rattle.swarm_objects.specs.declared.views.NoteShown.TheVariants as note_shown
use Rattle.swarm_objects.specs.declared.views.PlaceShown.{PlaceShown}
use Rattle.swarm_objects.specs.declared.views.Shown.TheVariants as by
use Rattle.swarm_objects.specs.declared.views.TaskShown.{TaskShown}

-- Rows.

-- by id, version and name; READY
abbrev pub node_row : ℕ → ℕ → List ℕ → NodeDraft → Node
node_row id version name d = record {
  id = id;
  version = version;
  name = name;
  labels = d.labels;
  role = d.role;
  availability = d.availability;
  state = node_state.Ready;
  down_since = 0;
  cpu = d.cpu;
  mem = d.mem;
  os = d.os;
  arch = d.arch;
  engine = d.engine;
  remote = d.remote;
}

-- by id, version and name; not written since it came
abbrev pub service_row : ℕ → ℕ → List ℕ → ServiceSpec → Service
service_row id version name s = record {
  id = id;
  version = version;
  name = name;
  spec = s;
  previous = None;
  template_version = version;
  rolling_back = false;
  iteration = 0;
  numbers = [];
  run = None;
}

-- by id, version, service and born; NEW, without a node, and to run from the beginning of time
abbrev pub task_row : ℕ → ℕ → ℕ → ℕ → Place → Template → Task
task_row id version service born place x = record {
  id = id;
  version = version;
  service = service;
  place = place;
  iteration = 0;
  template = x;
  born = born;
  goal = desired.Running;
  node = None;
  state = state.New;
  since = 0;
  desired = desired.Running;
  created = 0;
  raise_at = 0;
  addresses = [];
  note = note.Empty;
  closed = None;
}

-- by node, id, deadline and last beat
abbrev pub session_row : ℕ → ℕ → ℕ → ℕ → NodeSession
session_row node id deadline beat =
    record { node = node; session = record { id = id; deadline = deadline; beat = beat } }

-- by node and the number of the message that was applied last; On, with an empty inbox
abbrev pub agent_row : ℕ → ℕ → List Executor → NodeAgent
agent_row node applied executors =
    record { node = node; mode = agent_mode.On; inbox = None; applied = applied; executors = executors }

-- a task's executor that is to run, in the state that it reported, since then
abbrev pub executor_row : ℕ → Workload → TaskState → ℕ → Executor
executor_row task w s since = record {
  task = task;
  desired = desired.Running;
  workload = w;
  state = s;
  since = since;
  stopping = None;
  reported = Some s;
  gone = false;
}

abbrev pub assigned : ℕ → Desired → Workload → Assigned
assigned task d w = record { task = task; desired = d; workload = w }

-- what a list of tasks shows of one that is to run, by id, service, place and node
abbrev pub task_seen : ℕ → List ℕ → PlaceShown → List ℕ → TaskState → TaskShown
task_seen id service place node s = record {
  id = id;
  service = by.Name service;
  place = place;
  node = Some (by.Name node);
  state = s;
  desired = desired.Running;
  note = note_shown.Empty;
}

-- Calls and replies.

-- on no network
abbrev pub draft : ServiceSpec → Draft
draft s = record { spec = s; networks = [] }

-- the one operation made or changed this object
abbrev pub made : ℕ → Reply
made id = reply.Txn (id ∷ [])

abbrev pub no_row : Kind → List ℕ → Reply
no_row k name = reply.Refused (refusal.NotFound k (wanted_by.Name name))

abbrev pub no_node : List ℕ → Reply
no_node name = no_row kind.Node name

abbrev pub no_service : List ℕ → Reply
no_service name = no_row kind.Service name

abbrev pub ticks : ℕ → Told
ticks ms = asked 0 (call.Tick ms) reply.Ticked
