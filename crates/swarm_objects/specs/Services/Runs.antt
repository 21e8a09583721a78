-- Update runs: their failures, and their places in flight.
use Rattle.std.specs.Prelude.{Bool, false, true, ◌==◌, ◌&&◌, nat_lt, ◌+◌, count_by, ℕ, ◌*◌, not, ◌||◌, List, filter}
use Rattle.std.specs.List.{list_any}
use Rattle.swarm_objects.specs.Rows.{is_some_and}
use Rattle.swarm_objects.specs.Services.Words.{is_live_clean}
use Rattle.swarm_objects.specs.Tasks.Places.{tasks_of_place}
use Rattle.swarm_objects.specs.Tasks.Words.{is_of, is_below_running, is_running}
use Rattle.swarm_objects.specs.World.{Tables}
use Rattle.swarm_objects.specs.declared.services.FailureAction.{FailureAction}
use Rattle.swarm_objects.specs.declared.services.FailureAction.TheVariants as action
use Rattle.swarm_objects.specs.declared.services.Replaced.{Replaced}
use Rattle.swarm_objects.specs.declared.services.RunStatus.{RunStatus}
use Rattle.swarm_objects.specs.declared.services.RunStatus.TheVariants as status
use Rattle.swarm_objects.specs.declared.services.Service.{Service}
use Rattle.swarm_objects.specs.declared.services.UpdateRun.{UpdateRun}
use Rattle.swarm_objects.specs.declared.tasks.Task.{Task}
use Rattle.swarm_objects.specs.declared.tasks.TaskState.{TaskState}
use Rattle.swarm_objects.specs.declared.tasks.TaskState.TheVariants as state

-- Runs.

abbrev pub is_open : RunStatus → Bool
is_open status.Updating = true
is_open status.RollbackStarted = true
is_open _ = false

-- the run is under way
abbrev pub is_under_way : UpdateRun → Bool
is_under_way run = is_open run.status

abbrev pub has_open_run : Service → Bool
has_open_run s = is_some_and is_under_way s.run

-- it is a run to the present template
abbrev pub is_of_version : Service → UpdateRun → Bool
is_of_version s run = run.version == s.template_version

abbrev pub is_present : Service → UpdateRun → Bool
is_present s run = is_under_way run && is_of_version s run

-- Failures.

abbrev pub counts_as_failure : TaskState → Bool
counts_as_failure state.Rejected = true
counts_as_failure state.Complete = true
counts_as_failure state.Failed = true
counts_as_failure _ = false

-- a task of the run's version that was rejected, completed or failed within the monitor time
abbrev pub is_failure : Service → UpdateRun → Task → Bool
is_failure s run x =
    is_of s.id x && x.born == run.version && counts_as_failure x.state
    && nat_lt x.since (x.created + s.spec.update.monitor)

abbrev pub failures : Tables → Service → UpdateRun → ℕ
failures t s run = count_by (is_failure s run) t.tasks

-- the ratio of failures, in thousandths, is exceeded
abbrev pub is_exceeded : Tables → Service → UpdateRun → Bool
is_exceeded t s run = nat_lt (s.spec.update.ratio * run.total) (1000 * failures t s run)

abbrev pub goes_on : FailureAction → Bool
goes_on action.Continue = true
goes_on action.Pause = false
goes_on action.Rollback = false

abbrev pub fails : Tables → Service → UpdateRun → Bool
fails t s run = is_present s run && not (goes_on s.spec.update.action) && is_exceeded t s run

-- In flight.

-- a clean live task that is below RUNNING, or RUNNING for less than the delay
abbrev pub is_flying : Tables → Service → Task → Bool
is_flying t s x =
    is_live_clean s x && (is_below_running x || (is_running x && nat_lt t.clock (x.since + s.spec.update.delay)))

-- such tasks of a place that the run replaced
abbrev pub flying_tasks : Tables → Service → Replaced → List Task
flying_tasks t s item = filter (is_flying t s) (tasks_of_place s item.place t.tasks)

abbrev pub is_in_flight : Tables → Service → Replaced → Bool
is_in_flight t s item = list_any (is_flying t s) (tasks_of_place s item.place t.tasks)

abbrev pub in_flight : Tables → Service → UpdateRun → ℕ
in_flight t s run = count_by (is_in_flight t s) run.replaced

-- parallelism lets one more place be in flight
abbrev pub has_room : Tables → Service → UpdateRun → Bool
has_room t s run = s.spec.update.parallelism == 0 || nat_lt (in_flight t s run) s.spec.update.parallelism
