-- What a store holds, now and when the changes under way began.
use Rattle.std.specs.Prelude.{◌≡◌, ◌<◌, ◌+◌, ℕ, List, Option, Some, None, []}
use Rattle.swarm_objects.specs.Rows.{task_id, with_row}
use Rattle.swarm_objects.specs.declared.tasks.Task.{Task}
use Rattle.swarm_objects.specs.Sound.{IsBelowNext, IsOrdered}
use Rattle.swarm_objects.specs.World.{Tables, World}
use Rattle.swarm_objects.specs.Effects.{world_with}
use Rattle.swarm_store.specs.Stored.{row_count}
use Rattle.swarm_store.specs.declared.state.State.{State}

abbrev pub tables_now : State → Tables
tables_now s = record {
  clock = s.clock;
  next_id = s.next_id;
  nodes = s.nodes.rows;
  services = s.services.rows;
  tasks = s.tasks.rows;
  networks = s.networks.rows;
  attempts = s.attempts.rows;
  sessions = [];
  settings = s.settings;
}

abbrev pub tables_start : State → Tables
tables_start s = record {
  clock = s.clock;
  next_id = s.next_id_before;
  nodes = s.nodes.start;
  services = s.services.start;
  tasks = s.tasks.start;
  networks = s.networks.start;
  attempts = s.attempts.start;
  sessions = [];
  settings = s.settings_before;
}

-- rows stand by rising id, from 1 and below the next one, and there are fewer than that
pub record Stands (t : Tables) : Type 0 where
  pub ordered : IsOrdered t
  pub below : IsBelowNext t
  pub ids : 0 < t.next_id
  pub few : row_count t < t.next_id

-- how many rows changed since the changes under way began
abbrev pub changed_rows : State → ℕ
changed_rows s = s.nodes.changed + s.services.changed + s.tasks.changed + s.networks.changed

-- no changes are under way
pub record IsUntouched (s : State) : Type 0 where
  pub same : tables_start s ≡ tables_now s
  pub changed : changed_rows s ≡ 0
  pub stands : Stands (tables_now s)

abbrev pub world_now : State → World
world_now s = world_with (tables_now s)

-- the tasks with this one, where it changed
abbrev pub with_changed : Option Task → List Task → List Task
with_changed None tasks = tasks
with_changed (Some x) tasks = with_row task_id x tasks
