-- New tasks.
use Rattle.std.specs.Prelude.{ℕ, Option, Some, None, [], ◌+◌, ◌∷◌, ◌++◌}
use Rattle.swarm_objects.specs.World.{Tables}
use Rattle.swarm_objects.specs.declared.services.Mode.{Mode}
use Rattle.swarm_objects.specs.declared.services.Mode.TheVariants as mode
use Rattle.swarm_objects.specs.declared.services.Service.{Service}
use Rattle.swarm_objects.specs.declared.tasks.Desired.{Desired}
use Rattle.swarm_objects.specs.declared.tasks.Desired.TheVariants as desired
use Rattle.swarm_objects.specs.declared.tasks.Note.TheVariants as note
use Rattle.swarm_objects.specs.declared.tasks.Place.{Place}
use Rattle.swarm_objects.specs.declared.tasks.Place.TheVariants.{Slot, On}
use Rattle.swarm_objects.specs.declared.tasks.Task.{Task}
use Rattle.swarm_objects.specs.declared.tasks.TaskState.TheVariants as state

-- New tasks.

abbrev pub goal_of : Mode → Desired
goal_of (mode.Replicated replicas) = desired.Running
goal_of mode.Global = desired.Running
goal_of (mode.Job concurrent total) = desired.Complete

-- a task whose place is a node has that node from the start
abbrev pub bound_node : Place → Option ℕ
bound_node (Slot k) = None
bound_node (On node) = Some node

-- a task of the service that the entry with this number makes
abbrev pub new_task : ℕ → Tables → Service → Place → Desired → Task
new_task version t s place wanted = record {
  id = t.next_id;
  version = version;
  service = s.id;
  place = place;
  iteration = s.iteration;
  template = s.spec.template;
  born = s.template_version;
  goal = goal_of s.spec.mode;
  node = bound_node place;
  state = state.New;
  since = t.clock;
  desired = wanted;
  created = t.clock;
  raise_at = t.clock;
  addresses = [];
  note = note.Empty;
  closed = None;
}

-- the tables with this task more, which has the next id
abbrev pub with_task : Tables → Task → Tables
with_task t x = record t { next_id = t.next_id + 1; tasks = t.tasks ++ x ∷ [] }
