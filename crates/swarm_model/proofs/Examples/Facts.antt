-- Tests that each world of the example histories passes. They are no laws: nothing says that every legal history passes them.
use Rattle.std.specs.Prelude.{Bool, not, true, ◌||◌, nat_lt, ◌&&◌, ◌==◌, List, is_none, ℕ, nat_le, None, Option, Some, [], if◌then◌else◌, ◌∷◌, false}
use Rattle.std.specs.List.{list_any, list_all}
use Rattle.swarm_objects.specs.Agents.Messages.{names, sent_of, assigned_task}
use Rattle.swarm_objects.specs.Nodes.Words.{is_node_and}
use Rattle.swarm_objects.specs.Rows.{on_row, row_at, service_id, is_some_and, has_row, task_id, is_row_and, executor_task}
use Rattle.swarm_objects.specs.Same.{same_place}
use Rattle.swarm_objects.specs.Services.Words.{is_clean, is_service_and}
use Rattle.swarm_objects.specs.Tasks.New.{goal_of}
use Rattle.swarm_objects.specs.Tasks.Places.{place_at, place_number, newest, place_tasks, place_numbers, tasks_of_place}
use Rattle.swarm_objects.specs.Tasks.Words.{is_placed, is_task, is_live, is_kept}
use Rattle.swarm_objects.specs.Values.Ranks.{desired_rank, rank}
use Rattle.swarm_objects.specs.World.{Tables, World}
use Rattle.swarm_objects.specs.declared.agents.Executor.{Executor}
use Rattle.swarm_objects.specs.declared.agents.NodeAgent.{NodeAgent}
use Rattle.swarm_objects.specs.declared.messages.AssignChange.{AssignChange}
use Rattle.swarm_objects.specs.declared.messages.AssignChange.TheVariants as assign
use Rattle.swarm_objects.specs.declared.messages.Assigned.{Assigned}
use Rattle.swarm_objects.specs.declared.messages.Message.{Message}
use Rattle.swarm_objects.specs.declared.messages.NodeSent.{NodeSent}
use Rattle.swarm_objects.specs.declared.services.Service.{Service}
use Rattle.swarm_objects.specs.declared.tasks.Desired.{Desired}
use Rattle.swarm_objects.specs.declared.tasks.Desired.TheVariants as desired
use Rattle.swarm_objects.specs.declared.tasks.Task.{Task}

-- Tasks.

-- a task from ASSIGNED to RUNNING has a node that is there
abbrev pub has_its_node : Tables → Task → Bool
has_its_node t x = not (is_placed x) || is_node_and t (λ n. true) x

-- a task's goal is RUNNING or COMPLETE
abbrev pub has_a_goal : Task → Bool
has_a_goal x =
    nat_lt (desired_rank desired.Ready) (desired_rank x.goal)
    && nat_lt (desired_rank x.goal) (desired_rank desired.Shutdown)

-- a task is COMPLETE exactly where its service is a job
abbrev pub has_goal_of : Task → Service → Bool
has_goal_of x s = desired_rank x.goal == desired_rank (goal_of s.spec.mode)

-- a task is made for a kind of place, by its service's mode
abbrev pub has_place_of : Task → Service → Bool
has_place_of x s = same_place x.place (place_at s.spec.mode (place_number x.place))

abbrev pub is_of_its_service : Tables → Task → Bool
is_of_its_service t x = on_row true (λ s. has_goal_of x s && has_place_of x s) (row_at service_id x.service t.services)

-- Places.

abbrev pub is_closed_only : List Task → Task → Bool
is_closed_only tasks x =
    is_none x.closed || not (is_some_and (is_task x.id) (newest tasks)) || not (list_any is_live tasks)

-- a cause stands on an older task, or on a newest one without live tasks
abbrev pub has_right_causes : List Task → Bool
has_right_causes tasks = list_all (is_closed_only tasks) tasks

-- where the newest task is to be removed, every one is
abbrev pub is_removed_whole : List Task → Bool
is_removed_whole tasks = on_row true (λ x. is_kept x || not (list_any is_kept tasks)) (newest tasks)

abbrev pub is_place_sane : Tables → Service → ℕ → Bool
is_place_sane t s k = has_right_causes (place_tasks t s k) && is_removed_whole (place_tasks t s k)

abbrev pub is_service_sane : Tables → Service → Bool
is_service_sane t s = list_all (is_place_sane t s) (place_numbers t s)

-- every new task of a service that is there is clean, and its place's newest
abbrev pub is_new_one_right : Tables → Task → Service → Bool
is_new_one_right t x s = is_clean s x && is_some_and (is_task x.id) (newest (tasks_of_place s x.place t.tasks))

abbrev pub is_old_or_right : Tables → Tables → Task → Bool
is_old_or_right old new x = has_row task_id x.id old.tasks || is_service_and new (is_new_one_right new x) x

abbrev pub are_new_ones_right : Tables → Tables → Bool
are_new_ones_right old new = list_all (is_old_or_right old new) new.tasks

-- Agents.

-- a task's state that its node reports is at most its executor's
abbrev pub is_behind_executor : List Task → Executor → Bool
is_behind_executor tasks e =
    on_row true (λ x. not (is_placed x) || nat_le (rank x.state) (rank e.state)) (row_at task_id e.task tasks)

-- the desired state of the task in a message, where it is updated there
abbrev pub desired_in : ℕ → List AssignChange → Option Desired
desired_in task [] = None
desired_in task (assign.Update a ∷ rest) = if a.task == task then Some a.desired else desired_in task rest
desired_in task (assign.Remove gone ∷ rest) = desired_in task rest

abbrev pub same_desired : Desired → Desired → Bool
same_desired a b = desired_rank a == desired_rank b

abbrev pub executor_desires : List Executor → Assigned → Bool
executor_desires executors a =
    is_row_and executor_task (λ e. same_desired e.desired a.desired && not e.gone) executors a.task

-- the inbox decides where it names the task or is complete; else the executor has the desired state
abbrev pub is_told_of : NodeAgent → Option Message → Assigned → Bool
is_told_of a None sent = executor_desires a.executors sent
is_told_of a (Some m) sent =
    on_row (not m.complete && executor_desires a.executors sent) (same_desired sent.desired)
    (desired_in sent.task m.changes)

-- what was sent in a live or dead session of the node has come to its agent, or stands in its inbox
abbrev pub is_told : World → NodeAgent → Bool
is_told w a = on_row true (λ (s : NodeSent). list_all (is_told_of a a.inbox) s.tasks) (sent_of w a.node)

abbrev pub takes : ℕ → AssignChange → Bool
takes task (assign.Update a) = false
takes task (assign.Remove gone) = gone == task

-- the message says that the node has the task no more
abbrev pub is_taken_by : ℕ → Message → Bool
is_taken_by task m = if m.complete then not (list_any (names task) m.changes) else list_any (takes task) m.changes

-- the next message will say so, as what was sent has the task, or nothing was sent
abbrev pub is_to_be_taken : ℕ → Option NodeSent → Bool
is_to_be_taken task None = true
is_to_be_taken task (Some s) = has_row assigned_task task s.tasks

-- an executor without a task is gone, or its agent is about to be told so
abbrev pub has_task_or_goes : World → NodeAgent → Executor → Bool
has_task_or_goes w a e =
    has_row task_id e.task w.tables.tasks || e.gone || on_row false (is_taken_by e.task) a.inbox
    || is_to_be_taken e.task (sent_of w a.node)

abbrev pub is_agent_sane : World → NodeAgent → Bool
is_agent_sane w a =
    list_all (is_behind_executor w.tables.tasks) a.executors && is_told w a
    && list_all (has_task_or_goes w a) a.executors

-- All.

abbrev pub is_sane : World → Bool
is_sane w =
    list_all (has_its_node w.tables) w.tables.tasks && list_all has_a_goal w.tables.tasks
    && list_all (is_of_its_service w.tables) w.tables.tasks
    && list_all (is_service_sane w.tables) w.tables.services && list_all (is_agent_sane w) w.agents
