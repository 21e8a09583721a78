-- Agents, computed.
use Rattle.std.specs.Prelude.{List, None, Option, Some, [], false, refl, true, ℕ, ◌∷◌, ◌≡◌}
use Rattle.swarm_objects.proofs.Examples.Rows.{node, placed_task, replicas, tables, task, workload}
use Rattle.swarm_objects.specs.Agents.Executors.{executor_step, phase_time}
use Rattle.swarm_objects.specs.Agents.Messages.{applied, due_set, left_out, message_for}
use Rattle.swarm_objects.specs.Loops.Agents.{after_apply, after_beat, after_exec, after_forget, after_pull, after_register, after_report, agents}
use Rattle.swarm_objects.specs.World.{Tables, World, empty_world}
use Rattle.swarm_objects.specs.declared.agents.AgentMode.TheVariants as agent_mode
use Rattle.swarm_objects.specs.declared.agents.Executor.{Executor}
use Rattle.swarm_objects.specs.declared.agents.NodeAgent.{NodeAgent}
use Rattle.swarm_objects.specs.declared.duties.Duty.{Duty}
use Rattle.swarm_objects.specs.declared.duties.Duty.TheVariants as duty
use Rattle.swarm_objects.specs.declared.messages.AssignChange.TheVariants as assign
use Rattle.swarm_objects.specs.declared.messages.Assigned.{Assigned}
use Rattle.swarm_objects.specs.declared.messages.Message.{Message}
use Rattle.swarm_objects.specs.declared.messages.NodeSent.{NodeSent}
use Rattle.swarm_objects.specs.declared.tasks.Desired.{Desired}
use Rattle.swarm_objects.specs.declared.tasks.Desired.TheVariants as desired
use Rattle.swarm_objects.specs.declared.tasks.Place.TheVariants.{On}
use Rattle.swarm_objects.specs.declared.tasks.Task.{Task}
use Rattle.swarm_objects.specs.declared.tasks.TaskState.{TaskState}
use Rattle.swarm_objects.specs.declared.tasks.TaskState.TheVariants as state
use Rattle.swarm_objects.specs.declared.templates.End.TheVariants as end

abbrev agent : Option Message → List Executor → NodeAgent
agent inbox executors = record { node = 1; mode = agent_mode.On; inbox = inbox; applied = 3; executors = executors }

-- an executor, in its state since 990
abbrev executor : TaskState → Executor
executor s = record {
  task = 3;
  desired = desired.Running;
  workload = workload;
  state = s;
  since = 990;
  stopping = None;
  reported = Some s;
  gone = false;
}

abbrev assigned_three : Desired → Assigned
assigned_three d = record { task = 3; desired = d; workload = workload }

-- what is sent, and what is there
abbrev world : List NodeSent → NodeAgent → Tables → World
world sent a t = record empty_world { tables = t; sent = sent; agents = a ∷ [] }

abbrev running : Task
running = placed_task 3 1 1 state.Running

abbrev calm_tables : Tables
calm_tables = tables (node 1 ∷ []) (replicas 1 ∷ []) (running ∷ [])

abbrev sent_so : Desired → NodeSent
sent_so d = record { node = 1; count = 3; tasks = assigned_three d ∷ [] }

-- all was sent, and the executor has nothing to do
abbrev calm : Executor → World
calm e = world (sent_so desired.Running ∷ []) (agent None (e ∷ [])) calm_tables

nothing_to_do : agents (calm (executor state.Running)) ≡ []
nothing_to_do = refl

-- Register.

abbrev at_time : ℕ → World → World
at_time clock w = record w { tables = record w.tables { clock = clock } }

abbrev registers : World
registers = at_time 6000 (calm (executor state.Running))

register_after_deadline : agents registers ≡ duty.Register 1 ∷ []
register_after_deadline = refl

no_register_when_off : agents (record registers { agents = record (agent None []) { mode = agent_mode.AgentOff } ∷ [] })
    ≡ []
no_register_when_off = refl

abbrev a_message : Message
a_message =
    record {
      complete = false;
      applies_to = 3;
      results_in = 4;
      changes = assign.Update (assigned_three desired.Shutdown)
          ∷ [];
    }

-- a new session: nothing was sent in it, and the inbox is emptied
registered_anew : after_register 7
    (record registers { agents = agent (Some a_message) (executor state.Running ∷ []) ∷ [] }) 1
    ≡ record registers {
      tables = record registers.tables {
        next_id = 51;
        nodes = record (node 1) { version = 7 } ∷ [];
        sessions = record { node = 1; session = record { id = 50; deadline = 21000; beat = 6000 } } ∷ [];
      };
      sent = [];
      agents = record (agent None (executor state.Running ∷ [])) { applied = 0 } ∷ [];
    }
registered_anew = refl

-- Beat.

beat_after_heartbeat : agents (at_time 5000 (calm (executor state.Running))) ≡ duty.Beat 1 ∷ []
beat_after_heartbeat = refl

no_beat_before : agents (at_time 4999 (calm (executor state.Running))) ≡ []
no_beat_before = refl

beaten_at : after_beat (record calm_tables { clock = 5000 }) 1
    ≡ record calm_tables {
      clock = 5000;
      sessions = record { node = 1; session = record { id = 41; deadline = 20000; beat = 5000 } } ∷ [];
    }
beaten_at = refl

-- Pull and apply.

abbrev unsent : World
unsent = record (calm (executor state.Running)) { sent = sent_so desired.Ready ∷ [] }

-- the desired state of a task that was sent is another one now
pull_difference : agents unsent ≡ duty.Pull 1 ∷ []
pull_difference = refl

no_pull_without_session : agents (at_time 6000 unsent) ≡ duty.Register 1 ∷ []
no_pull_without_session = refl

abbrev raise_message : Message
raise_message = record a_message { changes = assign.Update (assigned_three desired.Running) ∷ [] }

pulled : after_pull unsent 1 (message_for unsent 1)
    ≡ record unsent {
      sent = record (sent_so desired.Running) { count = 4 }
          ∷ [];
      agents = agent (Some raise_message) (executor state.Running ∷ []) ∷ [];
    }
pulled = refl

-- the first message of a session has all
first_message : message_for (record unsent { sent = [] }) 1
    ≡ Some (record {
      complete = true;
      applies_to = 0;
      results_in = 1;
      changes = assign.Update (assigned_three desired.Running) ∷ [];
    })
first_message = refl

-- a task that was dropped before it was assigned is due all the same, where it has its node from the start
abbrev dropped : Task
dropped = record (task 4 (On 1) state.Shutdown) { node = Some 1; desired = desired.Shutdown }

due_of_node : due_set (tables (node 1 ∷ []) [] (placed_task 3 1 1 state.Pending ∷ dropped ∷ running ∷ [])) 1
    ≡ record { task = 4; desired = desired.Shutdown; workload = workload } ∷ assigned_three desired.Running ∷ []
due_of_node = refl

-- a task that isn't the node's any more
last_message : message_for (record unsent { tables = tables (node 1 ∷ []) (replicas 1 ∷ []) [] }) 1
    ≡ Some (record a_message { changes = assign.Remove 3 ∷ [] })
last_message = refl

abbrev of_task : ℕ → Desired → Assigned
of_task task d = record (assigned_three d) { task = task }

-- changes come by task, whatever their kind
update_before_removal : message_for
    (record unsent {
      sent = record (sent_so desired.Ready) { tasks = of_task 3 desired.Ready ∷ of_task 4 desired.Ready ∷ [] } ∷ [];
    }) 1
    ≡ Some (record a_message { changes = assign.Update (of_task 3 desired.Running) ∷ assign.Remove 4 ∷ [] })
update_before_removal = refl

removal_before_update : message_for
    (record unsent { tables = tables (node 1 ∷ []) (replicas 1 ∷ []) (placed_task 4 1 1 state.Running ∷ []) }) 1
    ≡ Some (record a_message { changes = assign.Remove 3 ∷ assign.Update (of_task 4 desired.Running) ∷ [] })
removal_before_update = refl

abbrev received_one : Message → World
received_one m = record (calm (executor state.Running)) { agents = agent (Some m) (executor state.Running ∷ []) ∷ [] }

apply_inbox : agents (received_one a_message) ≡ duty.Apply 1 ∷ []
apply_inbox = refl

-- with or without a live session
apply_without_session : agents (at_time 6000 (received_one a_message)) ≡ duty.Register 1 ∷ duty.Apply 1 ∷ []
apply_without_session = refl

applied_update : after_apply (received_one a_message) 1
    ≡ record (calm (executor state.Running)) {
      agents =
          record (agent None (record (executor state.Running) { desired = desired.Shutdown } ∷ [])) { applied = 4 }
          ∷ [];
    }
applied_update = refl

-- a removal marks the executor as gone
applied_removal :
    applied 1000 (record a_message { changes = assign.Remove 3 ∷ [] }) (executor state.Running ∷ [])
    ≡ record (executor state.Running) { gone = true } ∷ []
applied_removal = refl

-- a later update of it doesn't bring it back
stays_gone : applied 1000 a_message (record (executor state.Running) { gone = true } ∷ [])
    ≡ record (executor state.Running) { gone = true; desired = desired.Shutdown } ∷ []
stays_gone = refl

-- a difference leaves the others
not_left_out : left_out a_message (record (executor state.Running) { task = 9 })
    ≡ record (executor state.Running) { task = 9 }
not_left_out = refl

-- a complete message without the task takes its executor, and brings others
applied_complete :
    (after_apply
    (received_one
    (record {
      complete = true;
      applies_to = 0;
      results_in = 1;
      changes = assign.Update
          (record (assigned_three desired.Ready) { task = 4 }) ∷ [];
    })) 1).agents
    ≡ record (agent None (
    record (executor state.Running) { gone = true }
    ∷ record {
      task = 4;
      desired = desired.Ready;
      workload = workload;
      state = state.Accepted;
      since = 1000;
      stopping = None;
      reported = None;
      gone = false;
    }
    ∷ [])) { applied = 1 } ∷ []
applied_complete = refl

-- Executors.

abbrev exec_at : ℕ → Executor → List Duty
exec_at clock e = agents (record (at_time clock (calm e)) { tables = record calm_tables { clock = clock } })

exec_accepted : executor_step 1000 (executor state.Accepted)
    ≡ Some (record (executor state.Preparing) { since = 1000; reported = Some state.Accepted })
exec_accepted = refl

-- prepared for 10
exec_prepared : executor_step 1000 (executor state.Preparing)
    ≡ Some (record (executor state.Ready) { since = 1000; reported = Some state.Preparing })
exec_prepared = refl

no_exec_unprepared : executor_step 999 (executor state.Preparing) ≡ None
no_exec_unprepared = refl

exec_rejects : executor_step 1000
    (record (executor state.Preparing) { workload = record workload { end = end.Reject } })
    ≡ Some (record (executor state.Preparing) {
      workload = record workload { end = end.Reject };
      state = state.Rejected;
      since = 1000;
    })
exec_rejects = refl

exec_ready : exec_at 1000 (executor state.Ready) ≡ duty.Exec 1 3 ∷ []
exec_ready = refl

no_exec_waiting : executor_step 1000 (record (executor state.Ready) { desired = desired.Ready }) ≡ None
no_exec_waiting = refl

exec_started : executor_step 1010 (executor state.Starting)
    ≡ Some (record (executor state.Running) { since = 1010; reported = Some state.Starting })
exec_started = refl

no_exec_starting : executor_step 1009 (executor state.Starting) ≡ None
no_exec_starting = refl

-- the stopping begins, and takes 5
exec_stops : executor_step 1000 (record (executor state.Running) { desired = desired.Shutdown })
    ≡ Some (record (executor state.Running) { desired = desired.Shutdown; since = 1000; stopping = Some 1005 })
exec_stops = refl

exec_stopped : executor_step 1005 (record (executor state.Running) { stopping = Some 1005 })
    ≡ Some (record (executor state.Running) { state = state.Shutdown; since = 1005; stopping = Some 1005 })
exec_stopped = refl

-- before its start it stops at once
exec_stopped_early : executor_step 1000 (record (executor state.Preparing) { gone = true })
    ≡ Some (record (executor state.Preparing) { state = state.Shutdown; since = 1000; gone = true })
exec_stopped_early = refl

abbrev exits : ℕ → Executor
exits code = record (executor state.Running) { workload = record workload { end = end.Exit 10 code } }

exec_completed : executor_step 1000 (exits 0) ≡ Some (record (exits 0) { state = state.Complete; since = 1000 })
exec_completed = refl

exec_failed : executor_step 1000 (exits 1) ≡ Some (record (exits 1) { state = state.Failed; since = 1000 })
exec_failed = refl

-- The times of their phases, whether or not these are reached.

phase_prepares : phase_time (executor state.Preparing) ≡ Some 1000
phase_prepares = refl

phase_starts : phase_time (executor state.Starting) ≡ Some 1010
phase_starts = refl

phase_runs : phase_time (exits 0) ≡ Some 1000
phase_runs = refl

phase_stops : phase_time (record (executor state.Running) { stopping = Some 1005 }) ≡ Some 1005
phase_stops = refl

no_phase_running : phase_time (executor state.Running) ≡ None
no_phase_running = refl

-- its next step comes at once
no_phase_to_stop : phase_time (record (executor state.Preparing) { gone = true }) ≡ None
no_phase_to_stop = refl

no_phase_to_stop_late : phase_time (record (exits 0) { desired = desired.Shutdown }) ≡ None
no_phase_to_stop_late = refl

executed : after_exec (calm (executor state.Ready)) 1 3
    ≡ calm (record (executor state.Starting) { since = 1000; reported = Some state.Ready })
executed = refl

-- Reports.

abbrev unreported : World
unreported = calm (record (executor state.Running) { reported = Some state.Starting })

report_news : agents unreported ≡ duty.Report 1 3 ∷ []
report_news = refl

no_report_of_gone : agents (calm (record (executor state.Failed) { reported = None; gone = true }))
    ≡ duty.Forget 1 3 ∷ []
no_report_of_gone = refl

no_report_without_session : agents (at_time 6000 unreported) ≡ duty.Register 1 ∷ []
no_report_without_session = refl

no_report_without_task : agents
    (record unreported {
      tables = tables (node 1 ∷ [])
          (replicas 1 ∷ []) [];
      sent = record (sent_so desired.Running) { tasks = [] } ∷ [];
    }) ≡ []
no_report_without_task = refl

abbrev starting : Tables
starting = tables (node 1 ∷ []) (replicas 1 ∷ []) (placed_task 3 1 1 state.Starting ∷ [])

reported_up : after_report 7 (record unreported { tables = starting }) 1 3
    ≡ record (calm (executor state.Running)) {
      tables = tables (node 1 ∷ []) (replicas 1 ∷ [])
          (record running { version = 7; since = 1000 } ∷ []);
    }
reported_up = refl

-- a state that isn't above the task's is told, and changes nothing
reported_behind : after_report 7 (calm (record (executor state.Starting) { reported = None })) 1 3
    ≡ calm (executor state.Starting)
reported_behind = refl

-- Forget.

no_forget_of_running : agents (calm (record (executor state.Running) { gone = true; stopping = Some 2000 })) ≡ []
no_forget_of_running = refl

forgotten : after_forget (calm (executor state.Running)) 1 3
    ≡ world (sent_so desired.Running ∷ []) (agent None []) calm_tables
forgotten = refl

-- Sessions first, then the inbox, then executors, reports and what is forgotten.

abbrev other : ℕ → Executor → Executor
other task e = record e { task = task }

in_order : agents (record (at_time 5000 (calm (executor state.Running))) {
  sent = sent_so desired.Ready ∷ [];
  agents = agent None (
      record (executor state.Running) { reported = None }
      ∷ other 4 (executor state.Accepted)
      ∷ record (other 5 (executor state.Failed)) { gone = true }
      ∷ []) ∷ [];
}) ≡ duty.Beat 1 ∷ duty.Pull 1 ∷ duty.Exec 1 4 ∷ duty.Report 1 3 ∷ duty.Forget 1 5 ∷ []
in_order = refl
