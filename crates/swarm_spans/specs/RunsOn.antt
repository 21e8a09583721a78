-- Puts of tasks that run on: most duties are one such put, and it touches nothing but the tasks that wait for a node.
use Rattle.std.specs.Prelude.{Bool, Some, ◌≡◌, ◌&&◌, true, false}
use Rattle.swarm_objects.specs.Rows.{row_at, task_id}
use Rattle.swarm_objects.specs.Tasks.Words.{is_live, is_placed, is_to_wait, is_wanted}
use Rattle.swarm_objects.specs.World.{Tables}
use Rattle.swarm_objects.specs.declared.rows.Change.{Change}
use Rattle.swarm_objects.specs.declared.rows.Change.TheVariants as change
use Rattle.swarm_objects.specs.declared.tasks.Task.{Task}
use Rattle.swarm_spans.specs.Kept.{StandAlike}

-- from ASSIGNED to RUNNING, and not to stop
abbrev pub is_at_work : Task → Bool
is_at_work x = is_placed x && is_wanted x

-- both are at work, and what lines read of them is the same, but that the one may have waited
pub record RunsOn (x y : Task) : Type 0 where
  pub stand : StandAlike x y
  pub worked : is_at_work x ≡ true
  pub works : is_at_work y ≡ true
  pub waits : is_to_wait y ≡ false
  pub live : is_live x ≡ is_live y
  pub addresses : x.addresses ≡ y.addresses
  pub constraints : x.template.constraints ≡ y.template.constraints

-- the change puts a task that runs on
pub record PutsRunning (t : Tables) (c : Change) : Type 0 where
  pub former : Task
  pub new : Task
  pub put : c ≡ change.PutTask new
  pub was : row_at task_id new.id t.tasks ≡ Some former
  pub runs_on : RunsOn former new
