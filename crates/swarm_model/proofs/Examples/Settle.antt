-- The settle test on small worlds, in which no agent is inside.
use Rattle.std.specs.Prelude.{List, None, Some, [], refl, true, ℕ, ◌∷◌, ◌≡◌}
use Rattle.swarm_model.specs.Closing.{cause_of_restart}
use Rattle.swarm_model.specs.Settle.{Wait, flight_wait, settle_answer, wait}
use Rattle.swarm_objects.proofs.Examples.Rows.{job, node, old_template, placed_task, replicas, spec, tables, task, template, templated, update_config, with_desired, with_template}
use Rattle.swarm_objects.specs.World.{Tables, World, empty_world}
use Rattle.swarm_objects.specs.declared.agents.AgentMode.{AgentMode}
use Rattle.swarm_objects.specs.declared.agents.AgentMode.TheVariants as agent_mode
use Rattle.swarm_objects.specs.declared.duties.Cause.TheVariants as cause
use Rattle.swarm_objects.specs.declared.duties.Duty.TheVariants as duty
use Rattle.swarm_objects.specs.declared.duties.Settle.{Settle}
use Rattle.swarm_objects.specs.declared.duties.Settle.TheVariants as settle
use Rattle.swarm_objects.specs.declared.nodes.Node.{Node}
use Rattle.swarm_objects.specs.declared.services.Mode.TheVariants as mode
use Rattle.swarm_objects.specs.declared.services.Replaced.{Replaced}
use Rattle.swarm_objects.specs.declared.services.RunStatus.{RunStatus}
use Rattle.swarm_objects.specs.declared.services.RunStatus.TheVariants as status
use Rattle.swarm_objects.specs.declared.services.Service.{Service}
use Rattle.swarm_objects.specs.declared.tasks.Closed.TheVariants as closed
use Rattle.swarm_objects.specs.declared.tasks.Desired.TheVariants as desired
use Rattle.swarm_objects.specs.declared.tasks.Note.{Note}
use Rattle.swarm_objects.specs.declared.tasks.Note.TheVariants as note
use Rattle.swarm_objects.specs.declared.tasks.Place.TheVariants.{Slot}
use Rattle.swarm_objects.specs.declared.tasks.Task.{Task}
use Rattle.swarm_objects.specs.declared.tasks.TaskState.{TaskState}
use Rattle.swarm_objects.specs.declared.tasks.TaskState.TheVariants as state
use Rattle.swarm_objects.specs.declared.templates.RestartCondition.TheVariants as condition

abbrev answer_in : Tables → Settle
answer_in t = settle_answer (record empty_world { tables = t })

abbrev far_from : ℕ → Node
far_from id = record (node id) { remote = true }

abbrev far_node : Node
far_node = far_from 1

abbrev with_tasks : Service → List Task → Tables
with_tasks s tasks = tables (far_node ∷ []) (s ∷ []) tasks

abbrev waiting : ℕ → TaskState → Task
waiting time s = record (with_desired desired.Ready (placed_task 4 1 1 s)) { raise_at = time }

busy_at_its_time : answer_in (with_tasks (replicas 1) (waiting 1000 state.Ready ∷ [])) ≡ settle.Busy (duty.Raise 4)
busy_at_its_time = refl

waits_for_start : answer_in (with_tasks (replicas 1) (waiting 9000 state.Ready ∷ []))
    ≡ settle.Waiting 9000 cause.Start 4
waits_for_start = refl

-- a remote node has still to report READY, till its session ends
waits_for_remote : answer_in (with_tasks (replicas 1) (waiting 9000 state.Preparing ∷ []))
    ≡ settle.Waiting 6000 cause.Remote 4
waits_for_remote = refl

-- the least time is waited for
waits_for_least : answer_in (with_tasks (replicas 1) (waiting 2000 state.Preparing ∷ []))
    ≡ settle.Waiting 2000 cause.Start 4
waits_for_least = refl

all_settled : answer_in (with_tasks (replicas 1) (placed_task 4 1 1 state.Running ∷ [])) ≡ settle.Settled
all_settled = refl

waits_for_stop : answer_in
    (with_tasks (replicas 1)
    (placed_task 4 1 1 state.Running ∷ with_desired desired.Shutdown (placed_task 5 1 1 state.Running) ∷ []))
    ≡ settle.Waiting 6000 cause.Remote 5
waits_for_stop = refl

-- a task of a job that runs has nothing more to report for now
job_runs : answer_in
    (with_tasks (job 1 1)
    (record (with_desired desired.Complete (placed_task 4 0 1 state.Running)) { goal = desired.Complete } ∷ []))
    ≡ settle.Settled
job_runs = refl

-- Updates.

abbrev with_run : RunStatus → List Replaced → Service → Service
with_run st items s = record s { run = Some (record { status = st; version = 2; total = 1; replaced = items }) }

abbrev item : ℕ → Replaced
item time = record { place = Slot 1; task = 5; created = time }

abbrev dirty : Task
dirty = with_template old_template (record (placed_task 3 1 1 state.Running) { born = 1 })

abbrev full_node : Tables → Tables
full_node t = record t { nodes = record far_node { cpu = 0 } ∷ [] }

abbrev no_room : Note
no_room = note.Filters (0 ∷ 1 ∷ 0 ∷ 0 ∷ 0 ∷ 0 ∷ [])

-- the least live clean task below RUNNING holds the run up
held : answer_in
    (full_node
    (with_tasks (with_run status.Updating (item 900 ∷ []) (replicas 2))
    (dirty ∷ placed_task 4 2 1 state.Running ∷ record (task 5 (Slot 1) state.Pending) { note = no_room } ∷ [])))
    ≡ settle.Held 2 5
held = refl

-- a dirty one doesn't, though its id is less
held_by_clean : answer_in
    (full_node
    (with_tasks (with_run status.Updating (item 900 ∷ []) (replicas 3))
    (record dirty { id = 2; place = Slot 3; node = None; state = state.Pending; note = no_room }
    ∷ dirty
    ∷ placed_task 4 2 1 state.Running
    ∷ record (task 5 (Slot 1) state.Pending) { note = no_room }
    ∷ [])))
    ≡ settle.Held 2 5
held_by_clean = refl

-- while a place is dirty the watching isn't waited for
held_while_watched : answer_in
    (full_node
    (with_tasks (with_run status.Updating (item 990 ∷ []) (replicas 1))
    (dirty ∷ record (task 5 (Slot 1) state.Pending) { note = no_room } ∷ [])))
    ≡ settle.Held 2 5
held_while_watched = refl

-- slot 2 is dirty, and slot 1 is in flight till 1050
abbrev flight_of : ℕ → Service
flight_of parallelism = record (replicas 2) {
  spec = record (spec (mode.Replicated 2)) {
    update = record update_config { parallelism = parallelism; delay = 100 };
  };
}

abbrev waits_in_flight : Service → List Wait
waits_in_flight s =
    flight_wait
    (with_tasks s
    (record dirty { place = Slot 2 } ∷ record (placed_task 5 1 1 state.Running) { since = 950 } ∷ [])) s
    (record { status = status.Updating; version = 2; total = 2; replaced = item 900 ∷ [] })

waits_for_flight : waits_in_flight (flight_of 1) ≡ wait cause.Update 2 1050 ∷ []
waits_for_flight = refl

no_wait_with_room : waits_in_flight (flight_of 2) ≡ []
no_wait_with_room = refl

-- watched for 30
waits_for_monitor : answer_in
    (with_tasks (with_run status.Updating (item 990 ∷ []) (replicas 1)) (placed_task 5 1 1 state.Running ∷ []))
    ≡ settle.Waiting 1020 cause.Update 2
waits_for_monitor = refl

paused : answer_in (with_tasks (with_run status.Paused [] (replicas 1)) (placed_task 4 1 1 state.Running ∷ []))
    ≡ settle.Paused 2
paused = refl

paused_back : answer_in
    (with_tasks (with_run status.RollbackPaused [] (replicas 1)) (placed_task 4 1 1 state.Running ∷ []))
    ≡ settle.Paused 2
paused_back = refl

-- a run to an earlier template doesn't count
paused_before : answer_in
    (with_tasks (record (with_run status.Paused [] (replicas 1)) { template_version = 9 })
    (placed_task 4 1 1 state.Running ∷ [])) ≡ settle.Settled
paused_before = refl

-- Agents that aren't On.

abbrev silent : AgentMode → World
silent m = record empty_world {
  tables = tables (node 1 ∷ []) [] [];
  agents = record { node = 1; mode = m; inbox = None; applied = 0; executors = [] } ∷ [];
}

waits_for_session : settle_answer (silent agent_mode.AgentOff) ≡ settle.Waiting 6000 cause.Session 1
waits_for_session = refl

pulls_when_on : settle_answer (silent agent_mode.On) ≡ settle.Busy (duty.Pull 1)
pulls_when_on = refl

-- node 1's session ends when that of a remote node does, on which a task is to stop
session_before_remote : settle_answer (record (silent agent_mode.AgentOff) {
  tables =
      tables (node 1 ∷ far_from 10 ∷ []) (replicas 1 ∷ [])
      (placed_task 4 1 10 state.Running ∷ with_desired desired.Shutdown (placed_task 5 1 10 state.Running) ∷ []);
}) ≡ settle.Waiting 6000 cause.Session 1
session_before_remote = refl

-- The cause of a restart.

abbrev never_again : Service
never_again = templated (record template {
  restart = record { condition = condition.Never; delay = 50; max_attempts = 0; window = 0 };
}) (replicas 1)

abbrev failed : Task
failed = placed_task 3 1 1 state.Failed

sets_cause : cause_of_restart (with_tasks never_again (failed ∷ [])) 3 3 ≡ Some closed.Condition
sets_cause = refl

-- beside another live task of the place there is no closing
sets_none : cause_of_restart (with_tasks never_again (failed ∷ placed_task 4 1 1 state.Running ∷ [])) 4 3 ≡ None
sets_none = refl

-- the cause stands on the newest one
sets_on_newest : cause_of_restart (with_tasks never_again
    (failed ∷ with_desired desired.Shutdown (placed_task 4 1 1 state.Running) ∷ [])) 4 3 ≡ Some closed.Condition
sets_on_newest = refl
