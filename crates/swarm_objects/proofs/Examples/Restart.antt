-- Restarts, computed.
use Rattle.std.specs.Prelude.{List, Some, [], length, refl, ℕ, ◌∷◌, ◌≡◌}
use Rattle.swarm_objects.proofs.Examples.Rows.{down_node, global_service, job, node, placed_task, replicas, tables, task, template, templated, with_desired}
use Rattle.swarm_objects.specs.Loops.Restart.{after_raise, after_restart, restart}
use Rattle.swarm_objects.specs.World.{Tables}
use Rattle.swarm_objects.specs.declared.duties.Duty.TheVariants as duty
use Rattle.swarm_objects.specs.declared.nodes.Availability.TheVariants as availability
use Rattle.swarm_objects.specs.declared.nodes.Node.{Node}
use Rattle.swarm_objects.specs.declared.tasks.Attempt.{Attempt}
use Rattle.swarm_objects.specs.declared.tasks.Closed.TheVariants as closed
use Rattle.swarm_objects.specs.declared.tasks.Desired.TheVariants as desired
use Rattle.swarm_objects.specs.declared.tasks.Place.TheVariants.{On, Slot}
use Rattle.swarm_objects.specs.declared.tasks.Task.{Task}
use Rattle.swarm_objects.specs.declared.tasks.TaskState.{TaskState}
use Rattle.swarm_objects.specs.declared.tasks.TaskState.TheVariants as state
use Rattle.swarm_objects.specs.declared.templates.RestartCondition.{RestartCondition}
use Rattle.swarm_objects.specs.declared.templates.RestartCondition.TheVariants as condition

-- Tasks that ended.

abbrev failed : Task
failed = placed_task 3 1 1 state.Failed

abbrev with_tasks : List Task → Tables
with_tasks tasks = tables (node 1 ∷ []) (replicas 1 ∷ []) tasks

restart_ended : restart (with_tasks (failed ∷ [])) ≡ duty.Restart 3 ∷ []
restart_ended = refl

no_restart_of_running : restart (with_tasks (placed_task 3 1 1 state.Running ∷ [])) ≡ []
no_restart_of_running = refl

no_restart_of_unwanted : restart (with_tasks (with_desired desired.Shutdown failed ∷ [])) ≡ []
no_restart_of_unwanted = refl

no_restart_without_service : restart (record (with_tasks (failed ∷ [])) { services = [] }) ≡ []
no_restart_without_service = refl

-- on a node that is down
restart_astray : restart (record (with_tasks (placed_task 3 1 1 state.Running ∷ [])) { nodes = down_node 1 0 ∷ [] })
    ≡ duty.Restart 3 ∷ []
restart_astray = refl

restart_drained : restart (record (with_tasks (placed_task 3 1 1 state.Running ∷ [])) {
  nodes = record (node 1) { availability = availability.Drain } ∷ [];
}) ≡ duty.Restart 3 ∷ []
restart_drained = refl

abbrev on_every_node : Node → TaskState → Tables
on_every_node n s = tables (n ∷ []) (global_service ∷ []) (record (task 3 (On 1) s) { node = Some 1 } ∷ [])

restart_on_valid_node : restart (on_every_node (node 1) state.Failed) ≡ duty.Restart 3 ∷ []
restart_on_valid_node = refl

no_restart_on_invalid_node : restart (on_every_node (down_node 1 0) state.Failed) ≡ []
no_restart_on_invalid_node = refl

abbrev done : Task
done = record (placed_task 3 0 1 state.Complete) { goal = desired.Complete; desired = desired.Complete }

abbrev with_job_task : ℕ → Tables
with_job_task iteration = tables (node 1 ∷ []) (record (job 1 1) { iteration = iteration } ∷ []) (done ∷ [])

restart_of_iteration : restart (with_job_task 0) ≡ duty.Restart 3 ∷ []
restart_of_iteration = refl

no_restart_of_earlier : restart (with_job_task 1) ≡ []
no_restart_of_earlier = refl

-- What becomes of the place.

abbrev stopped : Task
stopped = record failed { version = 7; desired = desired.Shutdown }

-- the next task waits for the delay of 50
abbrev next_one : Task
next_one = record (task 50 (Slot 1) state.New) {
  version = 7;
  since = 1000;
  desired = desired.Ready;
  created = 1000;
  raise_at = 1050;
}

abbrev attempt_at : ℕ → Attempt
attempt_at time = record { service = 2; place = Slot 1; version = 2; at = time }

restarted_anew : after_restart 7 (with_tasks (failed ∷ [])) 3
    ≡ record (with_tasks (stopped ∷ next_one ∷ [])) { next_id = 51; attempts = attempt_at 1000 ∷ [] }
restarted_anew = refl

-- beside another live task of the place it only stops
restarted_beside : after_restart 7 (with_tasks (failed ∷ placed_task 4 1 1 state.Running ∷ [])) 3
    ≡ with_tasks (stopped ∷ placed_task 4 1 1 state.Running ∷ [])
restarted_beside = refl

abbrev with_policy : RestartCondition → ℕ → ℕ → List Attempt → List Task → Tables
with_policy c max window attempts tasks = record (tables (node 1 ∷ []) (templated (record template {
  restart = record { condition = c; delay = 50; max_attempts = max; window = window };
}) (replicas 1) ∷ []) tasks) { attempts = attempts }

closed_by_condition : after_restart 7 (with_policy condition.Never 0 0 [] (failed ∷ [])) 3
    ≡ with_policy condition.Never 0 0 [] (record stopped { closed = Some closed.Condition } ∷ [])
closed_by_condition = refl

abbrev completed : Task
completed = placed_task 3 1 1 state.Complete

closed_on_success : (after_restart 7 (with_policy condition.OnFailure 0 0 [] (completed ∷ [])) 3).tasks
    ≡ record completed { version = 7; desired = desired.Shutdown; closed = Some closed.Condition } ∷ []
closed_on_success = refl

again_on_failure : length (after_restart 7 (with_policy condition.OnFailure 0 0 [] (failed ∷ [])) 3).tasks ≡ 2
again_on_failure = refl

-- two attempts within the window of 100 are the most
closed_by_attempts :
    (after_restart 7 (with_policy condition.Any 2 100 (attempt_at 901 ∷ attempt_at 950 ∷ []) (failed ∷ [])) 3).tasks
    ≡ record stopped { closed = Some (closed.Attempts 2) } ∷ []
closed_by_attempts = refl

-- the condition comes before the attempts
condition_before_attempts :
    (after_restart 7 (with_policy condition.Never 1 0 (attempt_at 990 ∷ []) (failed ∷ [])) 3).tasks
    ≡ record stopped { closed = Some closed.Condition } ∷ []
condition_before_attempts = refl

-- the attempt is kept beside the earlier ones
attempts_kept : (after_restart 7 (with_policy condition.Any 0 0 (attempt_at 900 ∷ []) (failed ∷ [])) 3).attempts
    ≡ attempt_at 900 ∷ attempt_at 1000 ∷ []
attempts_kept = refl

-- those for an earlier template or another place don't count
again_by_other_attempts : length (after_restart 7
    (with_policy condition.Any 1 0
    (record (attempt_at 990) { version = 1 } ∷ record (attempt_at 990) { place = Slot 2 } ∷ [])
    (failed ∷ [])) 3).tasks
    ≡ 2
again_by_other_attempts = refl

-- the first of them is as old as the window
again_after_window : length
    (after_restart 7 (with_policy condition.Any 2 100 (attempt_at 900 ∷ attempt_at 950 ∷ []) (failed ∷ [])) 3).tasks ≡ 2
again_after_window = refl

-- the cause stands on the place's newest task
cause_on_newest :
    (after_restart 7
    (with_policy condition.Never 0 0 []
    (failed ∷ with_desired desired.Shutdown (placed_task 4 1 1 state.Running) ∷ [])) 3).tasks
    ≡ stopped
    ∷ record (with_desired desired.Shutdown
    (placed_task 4 1 1 state.Running)) { version = 7; closed = Some closed.Condition } ∷ []
cause_on_newest = refl

job_task_is_done : (after_restart 7 (with_job_task 0) 3).tasks
    ≡ record done { version = 7; desired = desired.Shutdown; closed = Some closed.Done } ∷ []
job_task_is_done = refl

-- which comes before the condition
done_before_condition : (after_restart 7 (tables (node 1 ∷ []) (templated (record template {
  restart = record { condition = condition.Never; delay = 50; max_attempts = 0; window = 0 };
}) (job 1 1) ∷ []) (done ∷ [])) 3).tasks
    ≡ record done { version = 7; desired = desired.Shutdown; closed = Some closed.Done } ∷ []
done_before_condition = refl

-- Tasks that wait.

abbrev waiting : Task
waiting = record (task 4 (Slot 1) state.New) { desired = desired.Ready; raise_at = 1000 }

abbrev unwanted : TaskState → Task
unwanted s = with_desired desired.Shutdown (placed_task 3 1 1 s)

raise_at_its_time : restart (with_tasks (waiting ∷ [])) ≡ duty.Raise 4 ∷ []
raise_at_its_time = refl

no_raise_before : restart (record (with_tasks (waiting ∷ [])) { clock = 999 }) ≡ []
no_raise_before = refl

no_raise_while_held_up : restart (with_tasks (unwanted state.Running ∷ waiting ∷ [])) ≡ []
no_raise_while_held_up = refl

-- one that ended is restarted, and not raised
no_raise_of_ended : restart (with_tasks (record waiting { state = state.Failed } ∷ [])) ≡ duty.Restart 4 ∷ []
no_raise_of_ended = refl

no_raise_of_earlier : restart
    (tables (node 1 ∷ []) (record (job 1 1) { iteration = 1 } ∷ []) (record waiting { goal = desired.Complete } ∷ []))
    ≡ []
no_raise_of_earlier = refl

-- what has no node yet holds nothing up
raise_beside_unassigned : restart (with_tasks (unwanted state.Pending ∷ waiting ∷ [])) ≡ duty.Raise 4 ∷ []
raise_beside_unassigned = refl

raise_after_end : restart (with_tasks (unwanted state.Shutdown ∷ waiting ∷ [])) ≡ duty.Raise 4 ∷ []
raise_after_end = refl

raise_beside_astray : restart
    (record (with_tasks (unwanted state.Running ∷ waiting ∷ [])) { nodes = down_node 1 0 ∷ [] }) ≡ duty.Raise 4 ∷ []
raise_beside_astray = refl

-- a job's task of an earlier iteration holds it up as well
no_raise_beside_earlier : restart (tables (node 1 ∷ []) (record (job 1 1) { iteration = 1 } ∷ []) (
    record (unwanted state.Running) { goal = desired.Complete }
    ∷ record waiting { goal = desired.Complete; iteration = 1 }
    ∷ [])) ≡ []
no_raise_beside_earlier = refl

raised_to_goal : after_raise 7 (with_tasks (waiting ∷ [])) 4
    ≡ with_tasks (record waiting { version = 7; desired = desired.Running } ∷ [])
raised_to_goal = refl

-- Restarts come before raises.

restarts_first : restart (with_tasks (record waiting { id = 3; place = Slot 2 } ∷ record failed { id = 4 } ∷ []))
    ≡ duty.Restart 4 ∷ duty.Raise 3 ∷ []
restarts_first = refl
