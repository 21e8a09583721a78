-- Rolling updates: their words, their duties, and what these do.
use Rattle.std.specs.Prelude.{Bool, not, ◌&&◌, ℕ, nat_le, ◌+◌, List, ◌++◌, None, Option, Some, [], if◌then◌else◌, flat_map, length, false, true, ◌∷◌}
use Rattle.std.specs.List.{list_any, list_all}
use Rattle.std.specs.Option.{option_map}
use Rattle.swarm_objects.specs.Changes.{on_service, change_service, change_where, wanted, with_new}
use Rattle.swarm_objects.specs.Loops.Words.{when, places_where}
use Rattle.swarm_objects.specs.Rows.{is_some_and}
use Rattle.swarm_objects.specs.Same.{same_place}
use Rattle.swarm_objects.specs.Services.Ports.{kept_numbers}
use Rattle.swarm_objects.specs.Services.Runs.{is_of_version, has_room, fails, is_under_way}
use Rattle.swarm_objects.specs.Services.Words.{is_live_clean, is_live_dirty}
use Rattle.swarm_objects.specs.Tasks.New.{goal_of}
use Rattle.swarm_objects.specs.Tasks.Places.{has_dirty_place, place_tasks, has_clean, is_dirty_place, place_numbers, dirty_places, place_at, is_in_place}
use Rattle.swarm_objects.specs.Tasks.Words.{is_running, is_live}
use Rattle.swarm_objects.specs.World.{Tables}
use Rattle.swarm_objects.specs.declared.duties.Duty.{Duty}
use Rattle.swarm_objects.specs.declared.duties.Duty.TheVariants as duty
use Rattle.swarm_objects.specs.declared.services.FailureAction.{FailureAction}
use Rattle.swarm_objects.specs.declared.services.FailureAction.TheVariants as action
use Rattle.swarm_objects.specs.declared.services.Mode.{Mode}
use Rattle.swarm_objects.specs.declared.services.Mode.TheVariants as mode
use Rattle.swarm_objects.specs.declared.services.Replaced.{Replaced}
use Rattle.swarm_objects.specs.declared.services.RunStatus.{RunStatus}
use Rattle.swarm_objects.specs.declared.services.RunStatus.TheVariants as status
use Rattle.swarm_objects.specs.declared.services.Service.{Service}
use Rattle.swarm_objects.specs.declared.services.ServiceSpec.{ServiceSpec}
use Rattle.swarm_objects.specs.declared.services.UpdateOrder.{UpdateOrder}
use Rattle.swarm_objects.specs.declared.services.UpdateOrder.TheVariants as order
use Rattle.swarm_objects.specs.declared.services.UpdateRun.{UpdateRun}
use Rattle.swarm_objects.specs.declared.tasks.Desired.TheVariants as desired
use Rattle.swarm_objects.specs.declared.tasks.Place.{Place}
use Rattle.swarm_objects.specs.declared.tasks.Task.{Task}

-- Duties of a service that is no job.

-- a dirty place is there, and no run to the present template
abbrev pub is_to_start : Tables → Service → Bool
is_to_start t s = has_dirty_place t s && not (is_some_and (is_of_version s) s.run)

-- a clean live task of the place runs, and a dirty one is live
abbrev pub is_to_swap : Tables → Service → ℕ → Bool
is_to_swap t s k =
    list_any (λ x. is_live_clean s x && is_running x) (place_tasks t s k)
    && list_any (is_live_dirty s) (place_tasks t s k)

-- the place is dirty, without a clean live task
abbrev pub is_to_replace : Tables → Service → ℕ → Bool
is_to_replace t s k = is_dirty_place t s k && not (has_clean t s k)

abbrev pub lets_replace : Tables → Service → UpdateRun → Bool
lets_replace t s run = has_room t s run && not (fails t s run)

-- the new task of the place was watched for the monitor time
abbrev pub is_watched : Tables → Service → Replaced → Bool
is_watched t s item = nat_le (item.created + s.spec.update.monitor) t.clock

abbrev pub is_to_finish : Tables → Service → UpdateRun → Bool
is_to_finish t s run = not (has_dirty_place t s) && list_all (is_watched t s) run.replaced && not (fails t s run)

-- of a run under way; what changes places only of one to the present template
abbrev pub open_duties : Tables → Service → UpdateRun → List Duty
open_duties t s run =
    when (fails t s run) (duty.Fail s.id)
    ++ places_where (is_of_version s run) (is_to_swap t s) (duty.Swap s.id) (place_numbers t s)
    ++ places_where (is_of_version s run && lets_replace t s run)
    (is_to_replace t s) (duty.Replace s.id) (place_numbers t s)
    ++ when (is_to_finish t s run) (duty.Finish s.id)

abbrev pub run_duties : Tables → Service → Option UpdateRun → List Duty
run_duties t s None = []
run_duties t s (Some run) = if is_under_way run then open_duties t s run else []

abbrev pub update_duties : Tables → Service → Mode → List Duty
update_duties t s (mode.Replicated replicas) = when (is_to_start t s) (duty.Start s.id) ++ run_duties t s s.run
update_duties t s mode.Global = when (is_to_start t s) (duty.Start s.id) ++ run_duties t s s.run
update_duties t s (mode.Job concurrent total) = []

abbrev pub update : Tables → List Duty
update t = flat_map (λ s. update_duties t s s.spec.mode) t.services

-- What they do.

abbrev pub new_run : Tables → Service → RunStatus → UpdateRun
new_run t s st = record { status = st; version = s.template_version; total = length (dirty_places t s); replaced = [] }

abbrev pub with_run : ℕ → UpdateRun → Service → Service
with_run version run s = record s { version = version; run = Some run }

abbrev pub start_status : Bool → RunStatus
start_status true = status.RollbackStarted
start_status false = status.Updating

abbrev pub start_run : ℕ → Tables → Service → Tables
start_run version t s = change_service s.id (with_run version (new_run t s (start_status s.rolling_back))) t

abbrev pub in_status : RunStatus → UpdateRun → UpdateRun
in_status st run = record run { status = st }

-- what the run is, where it can't go on
abbrev pub paused_status : RunStatus → RunStatus
paused_status status.Updating = status.Paused
paused_status _ = status.RollbackPaused

abbrev pub finished_status : RunStatus → RunStatus
finished_status status.Updating = status.Completed
finished_status _ = status.RollbackCompleted

abbrev pub change_run : (UpdateRun → UpdateRun) → ℕ → Service → Service
change_run change version s = record s { version = version; run = option_map change s.run }

abbrev pub finish_run : ℕ → Tables → Service → Tables
finish_run version t s = change_service s.id (change_run (λ run. in_status (finished_status run.status) run) version) t

abbrev pub is_rollback : FailureAction → Bool
is_rollback action.Rollback = true
is_rollback _ = false

abbrev pub is_updating : RunStatus → Bool
is_updating status.Updating = true
is_updating _ = false

-- the service with its previous specification, from this entry on
abbrev pub back_at : ℕ → ServiceSpec → Service → Service
back_at version spec s = record s {
  version = version;
  spec = spec;
  previous = None;
  template_version = version;
  rolling_back = true;
  numbers = kept_numbers s.numbers spec None;
}

-- this service in its place, with the run back to it
abbrev pub rolled_back : ℕ → Tables → Service → Tables
rolled_back version t s = change_service s.id (λ old. with_run version (new_run t s status.RollbackStarted) s) t

abbrev pub paused : ℕ → Tables → Service → Tables
paused version t s = change_service s.id (change_run (λ run. in_status (paused_status run.status) run) version) t

-- a rollback where the action is that, the run is no rollback and there is a previous specification; else a pause
abbrev pub fail_run : ℕ → Tables → Service → Bool → Option ServiceSpec → Tables
fail_run version t s true (Some spec) = rolled_back version t (back_at version spec s)
fail_run version t s _ _ = paused version t s

abbrev pub may_roll_back : Service → Bool
may_roll_back s = is_rollback s.spec.update.action && is_some_and (λ run. is_updating run.status) s.run

abbrev pub swap_place : ℕ → Tables → ℕ → Service → Tables
swap_place version t k s =
    change_where (λ x. is_in_place s (place_at s.spec.mode k) x && is_live_dirty s x)
    (wanted version desired.Shutdown) t

-- the item takes the place of the one with its place
abbrev pub with_item : Replaced → List Replaced → List Replaced
with_item item [] = item ∷ []
with_item item (i ∷ items) = if same_place i.place item.place then item ∷ items else i ∷ with_item item items

abbrev pub item_of : Tables → Place → Replaced
item_of t p = record { place = p; task = t.next_id; created = t.clock }

abbrev pub replaced_in : ℕ → Replaced → Service → Service
replaced_in version item s = change_run (λ run. record run { replaced = with_item item run.replaced }) version s

abbrev pub live_of_place : Service → ℕ → Task → Bool
live_of_place s k x = is_in_place s (place_at s.spec.mode k) x && is_live x

-- stop-first: the live tasks are to stop, and the new one waits; start-first: the new one goes ahead
abbrev pub by_order : ℕ → Tables → Service → ℕ → UpdateOrder → Tables
by_order version t s k order.StopFirst =
    with_new version desired.Ready (change_where (live_of_place s k) (wanted version desired.Shutdown) t) s k
by_order version t s k order.StartFirst = with_new version (goal_of s.spec.mode) t s k

abbrev pub replace_place : ℕ → Tables → ℕ → Service → Tables
replace_place version t k s =
    change_service s.id (replaced_in version (item_of t (place_at s.spec.mode k)))
    (by_order version t s k s.spec.update.order)

-- Each duty on its service, where that is there.

abbrev pub after_start : ℕ → Tables → ℕ → Tables
after_start version t s = on_service t s (start_run version t)

abbrev pub after_fail : ℕ → Tables → ℕ → Tables
after_fail version t s = on_service t s (λ v. fail_run version t v (may_roll_back v) v.previous)

abbrev pub after_swap : ℕ → Tables → ℕ → ℕ → Tables
after_swap version t s p = on_service t s (swap_place version t p)

abbrev pub after_replace : ℕ → Tables → ℕ → ℕ → Tables
after_replace version t s p = on_service t s (replace_place version t p)

abbrev pub after_finish : ℕ → Tables → ℕ → Tables
after_finish version t s = on_service t s (finish_run version t)
