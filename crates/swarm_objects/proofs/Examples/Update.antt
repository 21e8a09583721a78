-- Rolling updates, computed.
use Rattle.std.specs.Prelude.{List, None, Some, [], false, map, refl, true, ℕ, ◌+◌, ◌∷◌, ◌≡◌}
use Rattle.swarm_objects.proofs.Examples.Rows.{job, node, old_template, placed_task, replicas, spec, tables, task, update_config, with_template}
use Rattle.swarm_objects.specs.Loops.Update.{after_fail, after_finish, after_replace, after_start, after_swap, update}
use Rattle.swarm_objects.specs.Rows.{first_of}
use Rattle.swarm_objects.specs.World.{Tables}
use Rattle.swarm_objects.specs.declared.duties.Duty.TheVariants as duty
use Rattle.swarm_objects.specs.declared.services.FailureAction.TheVariants as action
use Rattle.swarm_objects.specs.declared.services.Mode.TheVariants as mode
use Rattle.swarm_objects.specs.declared.services.PortNumber.{PortNumber}
use Rattle.swarm_objects.specs.declared.services.Replaced.{Replaced}
use Rattle.swarm_objects.specs.declared.services.RunStatus.{RunStatus}
use Rattle.swarm_objects.specs.declared.services.RunStatus.TheVariants as status
use Rattle.swarm_objects.specs.declared.services.Service.{Service}
use Rattle.swarm_objects.specs.declared.services.ServiceSpec.{ServiceSpec}
use Rattle.swarm_objects.specs.declared.services.UpdateConfig.{UpdateConfig}
use Rattle.swarm_objects.specs.declared.services.UpdateOrder.{UpdateOrder}
use Rattle.swarm_objects.specs.declared.services.UpdateOrder.TheVariants as order
use Rattle.swarm_objects.specs.declared.services.UpdateRun.{UpdateRun}
use Rattle.swarm_objects.specs.declared.tasks.Closed.TheVariants as closed
use Rattle.swarm_objects.specs.declared.tasks.Desired.{Desired}
use Rattle.swarm_objects.specs.declared.tasks.Desired.TheVariants as desired
use Rattle.swarm_objects.specs.declared.tasks.Place.TheVariants.{Slot}
use Rattle.swarm_objects.specs.declared.tasks.Task.{Task}
use Rattle.swarm_objects.specs.declared.tasks.TaskState.{TaskState}
use Rattle.swarm_objects.specs.declared.tasks.TaskState.TheVariants as state
use Rattle.swarm_objects.specs.declared.templates.Port.{Port}

abbrev at_two : ℕ → TaskState → Task
at_two id s = placed_task id 1 1 s

-- a live task of an earlier template
abbrev dirty : ℕ → TaskState → Task
dirty id s = with_template old_template (record (at_two id s) { born = 1 })

abbrev run : RunStatus → List Replaced → UpdateRun
run st items = record { status = st; version = 2; total = 1; replaced = items }

abbrev item : ℕ → Replaced
item time = record { place = Slot 1; task = 4; created = time }

abbrev running_update : UpdateRun → Service
running_update r = record (replicas 1) { run = Some r }

abbrev with_update : UpdateConfig → Service → Service
with_update config s = record s { spec = record s.spec { update = config } }

abbrev with_tasks : Service → List Task → Tables
with_tasks s tasks = tables (node 1 ∷ []) (s ∷ []) tasks

-- Start.

start_where_dirty : update (with_tasks (replicas 1) (dirty 3 state.Running ∷ [])) ≡ duty.Start 2 ∷ []
start_where_dirty = refl

no_start_where_clean : update (with_tasks (replicas 1) (at_two 3 state.Running ∷ [])) ≡ []
no_start_where_clean = refl

no_start_of_job : update (with_tasks (job 1 1) (record (dirty 3 state.Running) { goal = desired.Complete } ∷ [])) ≡ []
no_start_of_job = refl

-- a run to an earlier template doesn't go on
start_beside_earlier : update
    (with_tasks (record (running_update (run status.Updating [])) { template_version = 9 })
    (dirty 3 state.Running ∷ [])) ≡ duty.Start 2 ∷ []
start_beside_earlier = refl

-- a place that is closed with a dirty task is dirty
start_where_closed : update
    (with_tasks (replicas 1)
    (record (dirty 3 state.Failed) { desired = desired.Shutdown; closed = Some closed.Condition } ∷ []))
    ≡ duty.Start 2 ∷ []
start_where_closed = refl

-- one that only stops closes nothing
no_start_where_stopping : update
    (with_tasks (replicas 1) (record (dirty 3 state.Running) { desired = desired.Shutdown } ∷ [])) ≡ []
no_start_where_stopping = refl

-- but not where a clean one is live
no_start_beside_clean : update
    (with_tasks (replicas 1)
    (at_two 3 state.Running
    ∷ record (dirty 4 state.Failed) { desired = desired.Shutdown; closed = Some closed.Condition }
    ∷ []))
    ≡ []
no_start_beside_clean = refl

started : after_start 7 (with_tasks (replicas 1) (dirty 3 state.Running ∷ [])) 2
    ≡ with_tasks (record (replicas 1) { version = 7; run = Some (run status.Updating []) }) (dirty 3 state.Running ∷ [])
started = refl

-- the total is that of the dirty places
started_at_one_of_two :
    (after_start 7
    (with_tasks (replicas 2) (dirty 3 state.Running ∷ record (at_two 4 state.Running) { place = Slot 2 } ∷ [])) 2).services
    ≡ record (replicas 2) { version = 7; run = Some (run status.Updating []) } ∷ []
started_at_one_of_two = refl

started_back :
    (after_start 7 (with_tasks (record (replicas 1) { rolling_back = true }) (dirty 3 state.Running ∷ [])) 2).services
    ≡ record (replicas 1) { version = 7; rolling_back = true; run = Some (run status.RollbackStarted []) } ∷ []
started_back = refl

-- Fail.

-- within 30 of its creation
abbrev broken : TaskState → ℕ → Task
broken s time = record (at_two 4 s) { created = 900; since = time; desired = desired.Shutdown }

abbrev failing : List Task → Tables
failing tasks = with_tasks (running_update (run status.Updating [])) (dirty 3 state.Running ∷ tasks)

fail_within_monitor : first_of (update (failing (broken state.Rejected 929 ∷ []))) ≡ Some (duty.Fail 2)
fail_within_monitor = refl

no_fail_after_monitor : first_of (update (failing (broken state.Rejected 930 ∷ []))) ≡ Some (duty.Replace 2 1)
no_fail_after_monitor = refl

-- a task that was shut down is no failure
no_fail_by_shutdown : first_of (update (failing (broken state.Shutdown 910 ∷ []))) ≡ Some (duty.Replace 2 1)
no_fail_by_shutdown = refl

-- a task that completes is one: it was to run
fail_by_complete : first_of (update (failing (broken state.Complete 910 ∷ []))) ≡ Some (duty.Fail 2)
fail_by_complete = refl

no_fail_by_other_service : first_of (update (failing (record (broken state.Failed 910) { service = 9 } ∷ [])))
    ≡ Some (duty.Replace 2 1)
no_fail_by_other_service = refl

-- the failed run replaces no further place
only_fail : update (failing (broken state.Rejected 929 ∷ [])) ≡ duty.Fail 2 ∷ []
only_fail = refl

no_fail_by_other_version : first_of (update (failing (record (broken state.Failed 910) { born = 1 } ∷ [])))
    ≡ Some (duty.Replace 2 1)
no_fail_by_other_version = refl

no_fail_where_it_goes_on : first_of
    (update
    (with_tasks
    (with_update (record update_config { action = action.Continue }) (running_update (run status.Updating [])))
    (dirty 3 state.Running ∷ broken state.Failed 910 ∷ []))) ≡ Some (duty.Replace 2 1)
no_fail_where_it_goes_on = refl

-- a run to an earlier template doesn't fail
no_fail_of_earlier : update
    (with_tasks (record (running_update (run status.Updating [])) { template_version = 9 })
    (dirty 3 state.Running ∷ broken state.Failed 910 ∷ []))
    ≡ duty.Start 2 ∷ []
no_fail_of_earlier = refl

-- one failure of one is the whole ratio
no_fail_at_ratio : first_of
    (update (with_tasks (with_update (record update_config { ratio = 1000 }) (running_update (run status.Updating [])))
    (dirty 3 state.Running ∷ broken state.Failed 910 ∷ []))) ≡ Some (duty.Replace 2 1)
no_fail_at_ratio = refl

-- one failure of two places is half of them
no_fail_at_half : first_of
    (update
    (with_tasks
    (with_update (record update_config { ratio = 500 })
    (running_update (record (run status.Updating []) { total = 2 })))
    (dirty 3 state.Running ∷ broken state.Failed 910 ∷ []))) ≡ Some (duty.Replace 2 1)
no_fail_at_half = refl

paused_by_fail : after_fail 7 (failing []) 2
    ≡ with_tasks (record (running_update (run status.Paused [])) { version = 7 }) (dirty 3 state.Running ∷ [])
paused_by_fail = refl

abbrev rolling : RunStatus → Service
rolling st = record (with_update (record update_config { action = action.Rollback }) (running_update (run st []))) {
  previous = Some (record (spec (mode.Replicated 1)) { template = old_template });
}

-- back to the previous specification, and no specification is left to go back to
rolled_back_by_fail : (after_fail 7 (with_tasks (rolling status.Updating) (at_two 3 state.Running ∷ [])) 2).services
    ≡ record (replicas 1) {
      version = 7;
      spec = record (spec (mode.Replicated 1)) { template = old_template };
      previous = None;
      template_version = 7;
      rolling_back = true;
      run = Some (record { status = status.RollbackStarted; version = 7; total = 1; replaced = [] });
    } ∷ []
rolled_back_by_fail = refl

paused_while_rolling_back : (after_fail 7 (with_tasks (rolling status.RollbackStarted) []) 2).services
    ≡ record (rolling status.RollbackPaused) { version = 7 } ∷ []
paused_while_rolling_back = refl

abbrev open_port : ℕ → Port
open_port target = record { target = target; number = None; udp = false }

abbrev given : ℕ → PortNumber
given target = record { target = target; udp = false; number = 30000 + target }

abbrev with_ports : List Port → ServiceSpec
with_ports ports = record (spec (mode.Replicated 1)) { ports = ports }

-- of the numbers, that of a port that is open in the previous specification stays
number_stays : map (λ s. s.numbers)
    (after_fail 7 (with_tasks (record (rolling status.Updating) {
      spec = record (with_ports (open_port 80 ∷ open_port 81 ∷ [])) {
        update = record update_config { action = action.Rollback };
      };
      previous = Some (with_ports (open_port 80 ∷ []));
      numbers = given 80 ∷ given 81 ∷ [];
    }) []) 2).services ≡ (given 80 ∷ []) ∷ []
number_stays = refl

-- Swap.

abbrev beside : TaskState → Tables
beside s = with_tasks (running_update (run status.Updating (item 900 ∷ []))) (dirty 3 state.Running ∷ at_two 4 s ∷ [])

swap_once_new_runs : update (beside state.Running) ≡ duty.Swap 2 1 ∷ []
swap_once_new_runs = refl

no_swap_before : update (beside state.Starting) ≡ []
no_swap_before = refl

no_swap_where_paused : update
    (with_tasks (running_update (run status.Paused [])) (dirty 3 state.Running ∷ at_two 4 state.Running ∷ [])) ≡ []
no_swap_where_paused = refl

swapped : after_swap 7 (beside state.Running) 2 1
    ≡ record (beside state.Running) {
      tasks = record (dirty 3 state.Running) { version = 7; desired = desired.Shutdown }
          ∷ at_two 4 state.Running ∷ [];
    }
swapped = refl

-- Replace.

abbrev slot_two : Task → Task
slot_two x = record x { place = Slot 2 }

-- slot 1 is in flight or not, and slot 2 is dirty; one place may be in flight
abbrev flying : UpdateConfig → Task → Tables
flying config x =
    with_tasks (with_update config (running_update (run status.Updating (item 900 ∷ []))))
    (slot_two (dirty 3 state.Running) ∷ x ∷ [])

abbrev flight : ℕ → Task → Tables
flight delay x = flying (record update_config { delay = delay }) x

replace_where_dirty : update (flight 0 (at_two 4 state.Running)) ≡ duty.Replace 2 2 ∷ []
replace_where_dirty = refl

no_replace_beside_flight : update (flight 0 (at_two 4 state.Starting)) ≡ []
no_replace_beside_flight = refl

-- no bound on how many are
replace_all_at_once : update (flying (record update_config { parallelism = 0 }) (at_two 4 state.Starting))
    ≡ duty.Replace 2 2 ∷ []
replace_all_at_once = refl

-- kinds come before places
swap_before_replace : update
    (with_tasks (running_update (run status.Updating []))
    (dirty 3 state.Running ∷ slot_two (dirty 4 state.Running) ∷ slot_two (at_two 5 state.Running) ∷ []))
    ≡ duty.Swap 2 2 ∷ duty.Replace 2 1 ∷ []
swap_before_replace = refl

-- running since 950, with a delay of 50
replace_after_delay : update (flight 50 (record (at_two 4 state.Running) { since = 950 })) ≡ duty.Replace 2 2 ∷ []
replace_after_delay = refl

no_replace_within_delay : update (flight 50 (record (at_two 4 state.Running) { since = 951 })) ≡ []
no_replace_within_delay = refl

abbrev new_one : Desired → Task
new_one d =
    record (task 50 (Slot 1) state.New) { version = 7; since = 1000; desired = d; created = 1000; raise_at = 1000 }

abbrev to_replace : UpdateOrder → Tables
to_replace o =
    with_tasks (with_update (record update_config { order = o }) (running_update (run status.Updating (item 900 ∷ []))))
    (dirty 3 state.Running ∷ [])

abbrev replaced_by : UpdateOrder → Task → Task → Tables
replaced_by o old new =
    record (with_tasks
    (record (with_update (record update_config { order = o })
    (running_update (run status.Updating (record (item 1000) { task = 50 } ∷ [])))) { version = 7 })
    (old ∷ new ∷ [])) { next_id = 51 }

replaced_after_stop : after_replace 7 (to_replace order.StopFirst) 2 1
    ≡ replaced_by order.StopFirst (record (dirty 3 state.Running) { version = 7; desired = desired.Shutdown })
    (new_one desired.Ready)
replaced_after_stop = refl

replaced_at_once : after_replace 7 (to_replace order.StartFirst) 2 1
    ≡ replaced_by order.StartFirst (dirty 3 state.Running) (new_one desired.Running)
replaced_at_once = refl

-- Finish.

abbrev watched : ℕ → Service → Tables
watched clock s = record (with_tasks s (at_two 4 state.Running ∷ [])) { clock = clock }

finish_after_monitor : update (watched 1030 (running_update (run status.Updating (item 1000 ∷ []))))
    ≡ duty.Finish 2 ∷ []
finish_after_monitor = refl

no_finish_within_monitor : update (watched 1029 (running_update (run status.Updating (item 1000 ∷ [])))) ≡ []
no_finish_within_monitor = refl

-- the failed run doesn't end as if it had gone well
no_finish_beside_fail : update (record (watched 1030 (running_update (run status.Updating (item 1000 ∷ [])))) {
  tasks = at_two 3 state.Running ∷ broken state.Rejected 929 ∷ [];
}) ≡ duty.Fail 2 ∷ []
no_finish_beside_fail = refl

-- a run to an earlier template ends too, where no place is dirty
finish_of_earlier : update
    (watched 1030 (record (running_update (run status.Updating (item 1000 ∷ []))) { template_version = 9 }))
    ≡ duty.Finish 2 ∷ []
finish_of_earlier = refl

no_finish_again : update (watched 1030 (running_update (run status.Completed (item 1000 ∷ [])))) ≡ []
no_finish_again = refl

finished : after_finish 7 (watched 1030 (running_update (run status.Updating []))) 2
    ≡ watched 1030 (record (running_update (run status.Completed [])) { version = 7 })
finished = refl

finished_back : (after_finish 7 (watched 1030 (running_update (run status.RollbackStarted []))) 2).services
    ≡ record (running_update (run status.RollbackCompleted [])) { version = 7 } ∷ []
finished_back = refl
