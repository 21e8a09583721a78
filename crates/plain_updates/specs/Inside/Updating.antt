-- What there is to do about one service's update, and what a new task of it has to do with the old ones.
use Rattle.std.specs.Prelude.{Bool, List, None, Option, Some, false, true, ◌&&◌, if◌then◌else◌, map, not, ℕ}
use Rattle.swarm_objects.specs.Changes.{wanted}
use Rattle.swarm_objects.specs.Loops.Update.{is_to_finish, is_to_replace, is_to_start, is_to_swap, lets_replace, live_of_place, with_item}
use Rattle.swarm_objects.specs.Rows.{is_some_and}
use Rattle.swarm_objects.specs.Services.Runs.{fails, is_of_version, is_under_way}
use Rattle.swarm_objects.specs.Services.Words.{is_job}
use Rattle.swarm_objects.specs.Tasks.New.{goal_of}
use Rattle.swarm_objects.specs.World.{Tables}
use Rattle.swarm_objects.specs.declared.services.Mode.{Mode}
use Rattle.swarm_objects.specs.declared.services.Replaced.{Replaced}
use Rattle.swarm_objects.specs.declared.services.Service.{Service}
use Rattle.swarm_objects.specs.declared.services.ServiceSpec.{ServiceSpec}
use Rattle.swarm_objects.specs.declared.services.UpdateOrder.{UpdateOrder}
use Rattle.swarm_objects.specs.declared.services.UpdateOrder.TheVariants as order
use Rattle.swarm_objects.specs.declared.services.UpdateRun.{UpdateRun}
use Rattle.swarm_objects.specs.declared.tasks.Desired.{Desired}
use Rattle.swarm_objects.specs.declared.tasks.Desired.TheVariants as desired
use Rattle.swarm_objects.specs.declared.tasks.Task.{Task}

-- the run, where it is under way
abbrev pub while_open : Option UpdateRun → Option UpdateRun
while_open None = None
while_open (Some run) = if is_under_way run then Some run else None

-- the run under way of a service that is no job
abbrev pub open_run : Service → Option UpdateRun
open_run s = if is_job s.spec.mode then None else while_open s.run

abbrev pub wants_start : Tables → Service → Bool
wants_start t s = not (is_job s.spec.mode) && is_to_start t s

abbrev pub wants_fail : Tables → Service → Bool
wants_fail t s = is_some_and (λ run. fails t s run) (open_run s)

abbrev pub wants_swap : Tables → ℕ → Service → Bool
wants_swap t k s = is_some_and (λ run. is_of_version s run && is_to_swap t s k) (open_run s)

abbrev pub wants_replace : Tables → ℕ → Service → Bool
wants_replace t k s =
    is_some_and (λ run. (is_of_version s run && lets_replace t s run) && is_to_replace t s k) (open_run s)

abbrev pub wants_finish : Tables → Service → Bool
wants_finish t s = is_some_and (λ run. is_to_finish t s run) (open_run s)

-- the run with the item among its replaced places
abbrev pub with_replaced : Replaced → UpdateRun → UpdateRun
with_replaced item run = record run { replaced = with_item item run.replaced }

-- what is wanted of a new task: to wait where the old ones stop first, and else its goal
abbrev pub desired_by_order : Mode → UpdateOrder → Desired
desired_by_order m order.StopFirst = desired.Ready
desired_by_order m order.StartFirst = goal_of m

-- the live tasks of the place are to stop, where that comes first
abbrev pub stopped_by_order : ℕ → Service → ℕ → UpdateOrder → List Task → List Task
stopped_by_order version s k order.StopFirst tasks =
    map (λ x. if live_of_place s k x then wanted version desired.Shutdown x else x) tasks
stopped_by_order version s k order.StartFirst tasks = tasks

-- the specification that a service goes back to, where it may
abbrev pub spec_back : Bool → Option ServiceSpec → Option ServiceSpec
spec_back true previous = previous
spec_back false previous = None
