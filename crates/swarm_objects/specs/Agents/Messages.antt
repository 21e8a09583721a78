-- What a node is to have, what it is sent, and what its agent makes of that.
use Rattle.std.specs.Prelude.{Bool, List, None, Option, Some, false, not, ℕ, ◌&&◌, ◌==◌, nat_le, filter, map, [], if◌then◌else◌, ◌∷◌, ◌++◌, ◌+◌, flat_map, true, fold}
use Rattle.std.specs.List.{list_any}
use Rattle.swarm_objects.specs.Rows.{rising, has_row, sent_node, row_at, with_row, executor_task, change_row}
use Rattle.swarm_objects.specs.Same.{same_workload}
use Rattle.swarm_objects.specs.Tasks.Words.{is_on}
use Rattle.swarm_objects.specs.Values.Ranks.{rank, desired_rank}
use Rattle.swarm_objects.specs.World.{Tables, World}
use Rattle.swarm_objects.specs.declared.agents.Executor.{Executor}
use Rattle.swarm_objects.specs.declared.messages.AssignChange.{AssignChange}
use Rattle.swarm_objects.specs.declared.messages.AssignChange.TheVariants as assign
use Rattle.swarm_objects.specs.declared.messages.Assigned.{Assigned}
use Rattle.swarm_objects.specs.declared.messages.Message.{Message}
use Rattle.swarm_objects.specs.declared.messages.NodeSent.{NodeSent}
use Rattle.swarm_objects.specs.declared.tasks.Task.{Task}
use Rattle.swarm_objects.specs.declared.tasks.TaskState.TheVariants as state

-- The due set and the next message.

abbrev pub is_assigned_on : ℕ → Task → Bool
is_assigned_on node x = nat_le (rank state.Assigned) (rank x.state) && is_on node x

abbrev pub assigned : Task → Assigned
assigned x = record { task = x.id; desired = x.desired; workload = x.template.workload }

-- the tasks of the node from ASSIGNED on, by rising id
abbrev pub due_set : Tables → ℕ → List Assigned
due_set t node = map assigned (filter (is_assigned_on node) t.tasks)

abbrev pub assigned_task : Assigned → ℕ
assigned_task a = a.task

abbrev pub same_assigned : Assigned → Assigned → Bool
same_assigned a b =
    a.task == b.task && desired_rank a.desired == desired_rank b.desired && same_workload a.workload b.workload

-- what one of them says is sent already
abbrev pub is_sent : List Assigned → Assigned → Bool
is_sent sent a = list_any (same_assigned a) sent

-- the update of a task that isn't sent so
abbrev pub update_of : List Assigned → ℕ → List AssignChange
update_of [] task = []
update_of (a ∷ rest) task = if a.task == task then assign.Update a ∷ [] else update_of rest task

-- the task is due in this way, isn't due any more, or was sent so
abbrev pub change_of : List Assigned → List Assigned → ℕ → List AssignChange
change_of sent due task =
    if not (has_row assigned_task task due) then assign.Remove task ∷ []
    else update_of (filter (λ a. not (is_sent sent a)) due) task

-- the numbers of the tasks in either, rising
abbrev pub tasks_of_either : List Assigned → List Assigned → List ℕ
tasks_of_either sent due = rising (map assigned_task (sent ++ due))

-- the difference, by rising task
abbrev pub changes_of : List Assigned → List Assigned → List AssignChange
changes_of sent due = flat_map (change_of sent due) (tasks_of_either sent due)

abbrev pub complete_message : List Assigned → Message
complete_message due = record { complete = true; applies_to = 0; results_in = 1; changes = map assign.Update due }

abbrev pub difference_message : ℕ → List AssignChange → Message
difference_message count changes =
    record { complete = false; applies_to = count; results_in = count + 1; changes = changes }

abbrev pub message_with : ℕ → List AssignChange → Option Message
message_with count [] = None
message_with count (c ∷ cs) = Some (difference_message count (c ∷ cs))

-- the first message of a session has all that is due; a later one has the difference from what was sent, where there
-- is one
abbrev pub next_message : Option NodeSent → List Assigned → Option Message
next_message None due = Some (complete_message due)
next_message (Some s) due = message_with s.count (changes_of s.tasks due)

abbrev pub sent_of : World → ℕ → Option NodeSent
sent_of w node = row_at sent_node node w.sent

abbrev pub message_for : World → ℕ → Option Message
message_for w node = next_message (sent_of w node) (due_set w.tables node)

-- after the message the node was sent what is due
abbrev pub with_sent : World → ℕ → Message → World
with_sent w node m =
    let sent : NodeSent = record { node = node; count = m.results_in; tasks = due_set w.tables node } in
    record w { sent = with_row sent_node sent w.sent }

-- Applying a message.

abbrev pub new_executor : ℕ → Assigned → Executor
new_executor clock a = record {
  task = a.task;
  desired = a.desired;
  workload = a.workload;
  state = state.Accepted;
  since = clock;
  stopping = None;
  reported = None;
  gone = false;
}

abbrev pub change_executor : ℕ → (Executor → Executor) → List Executor → List Executor
change_executor task change executors = change_row executor_task task change executors

abbrev pub gone_executor : Executor → Executor
gone_executor e = record e { gone = true }

-- an executor that is there gets its desired state, and another one comes
abbrev pub updated : ℕ → List Executor → Assigned → List Executor
updated clock executors a =
    if has_row executor_task a.task executors
    then change_executor a.task (λ e. record e { desired = a.desired }) executors
    else with_row executor_task (new_executor clock a) executors

abbrev pub apply_change : ℕ → List Executor → AssignChange → List Executor
apply_change clock executors (assign.Update a) = updated clock executors a
apply_change clock executors (assign.Remove task) = change_executor task gone_executor executors

abbrev pub names : ℕ → AssignChange → Bool
names task (assign.Update a) = a.task == task
names task (assign.Remove gone) = false

-- an executor that no update of a complete message names is gone
abbrev pub left_out : Message → Executor → Executor
left_out m e = if m.complete && not (list_any (names e.task) m.changes) then gone_executor e else e

abbrev pub applied : ℕ → Message → List Executor → List Executor
applied clock m executors = map (left_out m) (fold (apply_change clock) executors m.changes)

-- it has only changes, and they don't begin where the agent is
abbrev pub is_stale : ℕ → Message → Bool
is_stale applied m = not m.complete && not (m.applies_to == applied)
