-- Where all is settled, executors match specifications. No word of duties, of the settle test or of times stands in it.
use Rattle.std.specs.Prelude.{Bool, ◌&&◌, ℕ, ◌||◌, not, length, nat_le, ◌==◌, false, is_none, List, [], ◌∷◌, filter, map, Some, nat_lt, true, ◌≡◌}
use Rattle.std.specs.Cmp.Lexicographic.{pointwise}
use Rattle.std.specs.List.{list_all, list_any}
use Rattle.std.specs.Option.{option_eq}
use Rattle.swarm_model.specs.Closing.{Closing, closing}
use Rattle.swarm_model.specs.Content.{same_cause}
use Rattle.swarm_model.specs.History.{replay}
use Rattle.swarm_objects.specs.Agents.Executors.{is_early, is_late}
use Rattle.swarm_objects.specs.Loops.Allocator.{same_note}
use Rattle.swarm_objects.specs.Loops.Global.{wants_here}
use Rattle.swarm_objects.specs.Nodes.Filters.{admits, refusal_counts, tested_nodes}
use Rattle.swarm_objects.specs.Nodes.Words.{is_pause, meets_all, is_ready, is_drain, is_node_and}
use Rattle.swarm_objects.specs.Rows.{is_row_and, node_id, executor_task, agent_node, task_id, is_some_and}
use Rattle.swarm_objects.specs.Same.{same_bool, same_number}
use Rattle.swarm_objects.specs.Services.Ports.{unnumbered_ports, free_port}
use Rattle.swarm_objects.specs.Services.Words.{is_clean, is_service_and}
use Rattle.swarm_objects.specs.Tasks.Addresses.{free_address}
use Rattle.swarm_objects.specs.Tasks.Places.{held_places, is_held_place, live_places, place_tasks, has_live, counts_for, is_held, newest}
use Rattle.swarm_objects.specs.Tasks.Words.{is_running, is_pending, is_new, is_live, is_on}
use Rattle.swarm_objects.specs.Values.Ranks.{rank, desired_rank}
use Rattle.swarm_objects.specs.World.{Tables, World}
use Rattle.swarm_objects.specs.declared.agents.Executor.{Executor}
use Rattle.swarm_objects.specs.declared.agents.NodeAgent.{NodeAgent}
use Rattle.swarm_objects.specs.declared.calls.Entry.{Entry}
use Rattle.swarm_objects.specs.declared.nodes.Node.{Node}
use Rattle.swarm_objects.specs.declared.services.Mode.{Mode}
use Rattle.swarm_objects.specs.declared.services.Mode.TheVariants as mode
use Rattle.swarm_objects.specs.declared.services.Service.{Service}
use Rattle.swarm_objects.specs.declared.tasks.Note.{Note}
use Rattle.swarm_objects.specs.declared.tasks.Note.TheVariants as note
use Rattle.swarm_objects.specs.declared.tasks.Task.{Task}
use Rattle.swarm_objects.specs.declared.tasks.TaskState.TheVariants as state

-- Places.

abbrev pub all_nodes : Tables → (Node → Bool) → Bool
all_nodes t test = list_all test t.nodes

-- a node on PAUSE that meets the constraints
abbrev pub may_keep : Service → Node → Bool
may_keep s n = is_ready n.state && is_pause n.availability && meets_all s.spec.template.constraints n

-- every place that is held is of a node that is to have one, or may keep it
abbrev pub has_right_node : Tables → Service → ℕ → Bool
has_right_node t s k = is_row_and node_id (λ n. wants_here s n || may_keep s n) t.nodes k

abbrev pub matches_nodes : Tables → Service → Bool
matches_nodes t s =
    all_nodes t (λ n. not (wants_here s n) || is_held_place t s n.id) && list_all (has_right_node t s) (held_places t s)

-- as many places are held as are wanted
abbrev pub matches_mode : Tables → Service → Mode → Bool
matches_mode t s (mode.Replicated replicas) = length (held_places t s) == replicas
matches_mode t s mode.Global = matches_nodes t s
matches_mode t s (mode.Job concurrent total) =
    nat_le (length (held_places t s)) total && nat_le (length (live_places t s)) concurrent
    && (length (held_places t s) == total || length (live_places t s) == concurrent)

-- Running.

abbrev pub is_executor_running : Executor → Bool
is_executor_running e = rank e.state == rank state.Running

abbrev pub runs_task : ℕ → NodeAgent → Bool
runs_task task a = is_row_and executor_task is_executor_running a.executors task

-- where the node is inside, the task's executor runs
abbrev pub is_executed : World → Task → Node → Bool
is_executed w x n = n.remote || is_row_and agent_node (runs_task x.id) w.agents n.id

abbrev pub runs_well_on : World → Service → Task → Node → Bool
runs_well_on w s x n =
    is_ready n.state && not (is_drain n.availability) && meets_all s.spec.template.constraints n && is_executed w x n

abbrev pub runs_well : World → Service → Task → Bool
runs_well w s x = is_running x && is_node_and w.tables (runs_well_on w s x) x

-- Unmet.

-- PENDING where no node admits it, and the note says why
abbrev pub is_unplaceable : Tables → Task → Bool
is_unplaceable t x =
    is_pending x.state && not (list_any (admits t x) (tested_nodes t x))
    && same_note (note.Filters (refusal_counts t x)) x.note

abbrev pub is_open_of : Service → Bool → Bool
is_open_of s udp = list_any (λ p. same_bool p.udp udp) (unnumbered_ports s)

-- the note names an open port without a free number, or a network without a free address
abbrev pub says_exhausted : Tables → Service → Task → Note → Bool
says_exhausted t s x note.Empty = false
says_exhausted t s x (note.Filters counts) = false
says_exhausted t s x (note.NoPort udp) = is_open_of s udp && is_none (free_port t udp)
says_exhausted t s x (note.NoAddress network) =
    list_any (same_number network) x.template.networks && is_none (free_address t network)

abbrev pub is_unprovided : Tables → Service → Task → Bool
is_unprovided t s x = is_new x.state && says_exhausted t s x x.note

-- A place with a live task.

abbrev pub is_aimed : Task → Bool
is_aimed x = desired_rank x.desired == desired_rank x.goal

-- the one live task of the place is clean, has its goal as desired state, and runs or names why it doesn't
abbrev pub is_well : World → Service → Task → Bool
is_well w s x =
    is_clean s x && is_aimed x && (runs_well w s x || is_unplaceable w.tables x || is_unprovided w.tables s x)

abbrev pub is_one_well : World → Service → List Task → Bool
is_one_well w s [] = false
is_one_well w s (x ∷ []) = is_well w s x
is_one_well w s (x ∷ y ∷ more) = false

abbrev pub live_tasks : Tables → Service → ℕ → List Task
live_tasks t s k = filter is_live (place_tasks t s k)

-- the place has no live task, or its one is well
abbrev pub is_place_well : World → Service → ℕ → Bool
is_place_well w s k = not (has_live w.tables s k) || is_one_well w s (live_tasks w.tables s k)

-- Nothing else.

abbrev pub stands_in : Tables → Task → Service → Bool
stands_in t x s = counts_for s x && is_held s x.place t.tasks

abbrev pub stands_somewhere : Tables → Task → Bool
stands_somewhere t x = not (is_live x) || is_service_and t (stands_in t x) x

-- Executors.

-- from ACCEPTED to RUNNING
abbrev pub is_in_hand : Executor → Bool
is_in_hand e = is_early e.state || is_late e.state

abbrev pub tasks_in_hand : NodeAgent → List ℕ
tasks_in_hand a = map executor_task (filter is_in_hand a.executors)

abbrev pub is_run_on : ℕ → Task → Bool
is_run_on node x = is_live x && is_running x && is_on node x

abbrev pub tasks_run_on : Tables → ℕ → List ℕ
tasks_run_on t node = map task_id (filter (is_run_on node) t.tasks)

-- the executors from ACCEPTED to RUNNING all run, and are one for each live task that is observed RUNNING there
abbrev pub matches_agent : Tables → NodeAgent → Bool
matches_agent t a =
    list_all is_executor_running (filter is_in_hand a.executors)
    && pointwise same_number (tasks_in_hand a) (tasks_run_on t a.node)

abbrev pub is_matched_node : World → Node → Bool
is_matched_node w n = not (is_ready n.state) || n.remote || is_row_and agent_node (matches_agent w.tables) w.agents n.id

-- All that a world alone shows.

abbrev pub is_matched_service : World → Service → Bool
is_matched_service w s = matches_mode w.tables s s.spec.mode && list_all (is_place_well w s) (held_places w.tables s)

abbrev pub matches_world : World → Bool
matches_world w =
    list_all (is_matched_service w) w.tables.services
    && list_all (stands_somewhere w.tables) w.tables.tasks
    && list_all (is_matched_node w) w.tables.nodes

-- the task carries the closing's cause, and is clean or the closing is later than the service's template
abbrev pub is_closed_by : Service → Task → Closing → Bool
is_closed_by s x c = option_eq same_cause x.closed (Some c.cause) && (is_clean s x || nat_lt s.template_version c.entry)

abbrev pub is_rightly_closed : List Entry → Service → Task → Bool
is_rightly_closed h s x = is_some_and (is_closed_by s x) (closing h x.id)

abbrev pub is_closing_right : List Entry → Tables → Service → ℕ → Bool
is_closing_right h t s k = has_live t s k || is_some_and (is_rightly_closed h s) (newest (place_tasks t s k))

abbrev pub are_closings_right : List Entry → Tables → Service → Bool
are_closings_right h t s = list_all (is_closing_right h t s) (held_places t s)

abbrev pub matches : List Entry → Bool
matches h = matches_world (replay h) && list_all (are_closings_right h (replay h).tables) (replay h).tables.services

abbrev pub Matches : List Entry → Type 0
Matches h = matches h ≡ true
