-- The scheduler, computed.
use Rattle.std.specs.Prelude.{List, Some, [], codes, false, refl, ℕ, ◌∷◌, ◌≡◌}
use Rattle.swarm_objects.proofs.Examples.Rows.{global_service, in_zone, node, placed_task, replicas, tables, task, template, with_desired, with_template}
use Rattle.swarm_objects.specs.Loops.Scheduler.{after_drop, after_explain, after_place, scheduler}
use Rattle.swarm_objects.specs.Nodes.Filters.{refusal_counts}
use Rattle.swarm_objects.specs.World.{Tables}
use Rattle.swarm_objects.specs.declared.duties.Duty.TheVariants as duty
use Rattle.swarm_objects.specs.declared.nodes.Availability.TheVariants as availability
use Rattle.swarm_objects.specs.declared.nodes.Node.{Node}
use Rattle.swarm_objects.specs.declared.tasks.Desired.TheVariants as desired
use Rattle.swarm_objects.specs.declared.tasks.Note.TheVariants as note
use Rattle.swarm_objects.specs.declared.tasks.Place.TheVariants.{On, Slot}
use Rattle.swarm_objects.specs.declared.tasks.Task.{Task}
use Rattle.swarm_objects.specs.declared.tasks.TaskState.TheVariants as state
use Rattle.swarm_objects.specs.declared.templates.Key.TheVariants as key
use Rattle.swarm_objects.specs.declared.templates.Template.{Template}

abbrev waiting : Task
waiting = task 3 (Slot 1) state.Pending

abbrev on_nodes : List Node → List Task → Tables
on_nodes nodes tasks = tables nodes (replicas 9 ∷ []) tasks

-- Tasks that aren't wanted before they have a node.

drop_unwanted : scheduler (on_nodes [] (with_desired desired.Shutdown waiting ∷ [])) ≡ duty.Drop 3 ∷ []
drop_unwanted = refl

no_drop_once_assigned : scheduler (on_nodes [] (with_desired desired.Shutdown (placed_task 3 1 1 state.Assigned) ∷ []))
    ≡ []
no_drop_once_assigned = refl

dropped : after_drop 7 (on_nodes [] (with_desired desired.Shutdown waiting ∷ [])) 3
    ≡ on_nodes []
    (record (with_desired desired.Shutdown waiting) { version = 7; state = state.Shutdown; since = 1000 } ∷ [])
dropped = refl

-- Placing.

place_pending : scheduler (on_nodes (node 1 ∷ []) (waiting ∷ [])) ≡ duty.Place 3 1 ∷ []
place_pending = refl

-- whether or not its service is there
place_without_service : scheduler (tables (node 1 ∷ []) [] (waiting ∷ [])) ≡ duty.Place 3 1 ∷ []
place_without_service = refl

no_place_of_new : scheduler (on_nodes (node 1 ∷ []) (task 3 (Slot 1) state.New ∷ [])) ≡ []
no_place_of_new = refl

placed_there : after_place 7
    (on_nodes (node 1 ∷ []) (record waiting { note = note.Filters (1 ∷ 0 ∷ 0 ∷ 0 ∷ 0 ∷ 0 ∷ []) } ∷ [])) 3 1
    ≡ on_nodes (node 1 ∷ []) (record waiting { version = 7; node = Some 1; state = state.Assigned; since = 1000 } ∷ [])
placed_there = refl

-- The best node.

-- another service's task that runs on the node
abbrev other : ℕ → ℕ → Task
other id on = record (placed_task id 1 on state.Running) { service = 5 }

best_is_least_loaded : scheduler (on_nodes (node 1 ∷ node 10 ∷ []) (other 2 1 ∷ waiting ∷ [])) ≡ duty.Place 3 10 ∷ []
best_is_least_loaded = refl

-- tasks that are to stop are no load
best_without_stopping : scheduler
    (on_nodes (node 1 ∷ node 10 ∷ [])
    (other 2 1 ∷ waiting ∷ with_desired desired.Shutdown (other 4 10) ∷ with_desired desired.Shutdown (other 5 10)
    ∷ []))
    ≡ duty.Place 3 10 ∷ []
best_without_stopping = refl

-- the service's own tasks on a node come before its whole load
best_has_fewer_of_its_own : scheduler
    (on_nodes (node 1 ∷ node 10 ∷ []) (placed_task 2 2 1 state.Running ∷ waiting ∷ other 4 10 ∷ other 5 10 ∷ []))
    ≡ duty.Place 3 10 ∷ []
best_has_fewer_of_its_own = refl

abbrev in_b : ℕ → Node
in_b id = record (node id) { labels = (codes "zone", codes "b") ∷ [] }

abbrev spread_over_zones : Task → Task
spread_over_zones x = record x { template = record template { spread = key.Label (codes "zone") ∷ [] } }

-- zone a has the service's task, so zone b is next, however loaded
best_by_zone : scheduler
    (on_nodes (node 1 ∷ node 10 ∷ in_b 11 ∷ [])
    (placed_task 2 2 1 state.Running ∷ spread_over_zones waiting ∷ other 4 11 ∷ []))
    ≡ duty.Place 3 11 ∷ []
best_by_zone = refl

-- of two branches without a task the lesser value comes first, whatever the ids
best_by_value : scheduler (on_nodes (in_b 1 ∷ node 10 ∷ []) (spread_over_zones waiting ∷ [])) ≡ duty.Place 3 10 ∷ []
best_by_value = refl

abbrev at_rack : ℕ → List ℕ → List ℕ → Node
at_rack id zone rack = record (node id) { labels = (codes "zone", zone) ∷ (codes "rack", rack) ∷ [] }

abbrev spread_over_racks : Task → Task
spread_over_racks x = record x {
  template = record template { spread = key.Label (codes "zone") ∷ key.Label (codes "rack") ∷ [] };
}

-- the branches of the second preference are parted by the first: that rack 1 of zone b has a task doesn't matter
rack_within_zone : scheduler
    (on_nodes
    (at_rack 1 (codes "a") (codes "1")
    ∷ at_rack 10 (codes "a") (codes "2")
    ∷ at_rack 11 (codes "b") (codes "1") ∷ [])
    (placed_task 2 2 11 state.Running ∷ spread_over_racks waiting ∷ []))
    ≡ duty.Place 3 1 ∷ []
rack_within_zone = refl

-- Filters.

abbrev refusing : Node → Task → List ℕ
refusing n x = refusal_counts (on_nodes (n ∷ []) (placed_task 2 2 1 state.Running ∷ x ∷ [])) x

refused_for_pause : refusing (record (node 1) { availability = availability.Pause }) waiting
    ≡ 1 ∷ 0 ∷ 0 ∷ 0 ∷ 0 ∷ 0 ∷ []
refused_for_pause = refl

refused_for_resources : refusing (record (node 1) { cpu = 199 }) waiting ≡ 0 ∷ 1 ∷ 0 ∷ 0 ∷ 0 ∷ 0 ∷ []
refused_for_resources = refl

fits_in_resources : refusing (record (node 1) { cpu = 200 }) waiting ≡ 0 ∷ 0 ∷ 0 ∷ 0 ∷ 0 ∷ 0 ∷ []
fits_in_resources = refl

-- with a task of 100 bytes there
abbrev in_memory : ℕ → List ℕ
in_memory bytes =
    refusal_counts
    (on_nodes (record (node 1) { mem = bytes } ∷ [])
    (with_template (record template { mem = 100 }) (placed_task 2 2 1 state.Running) ∷ []))
    (with_template (record template { mem = 100 }) waiting)

refused_for_memory : in_memory 199 ≡ 0 ∷ 1 ∷ 0 ∷ 0 ∷ 0 ∷ 0 ∷ []
refused_for_memory = refl

fits_in_memory : in_memory 200 ≡ 0 ∷ 0 ∷ 0 ∷ 0 ∷ 0 ∷ 0 ∷ []
fits_in_memory = refl

refused_for_constraints : refusing (in_b 1)
    (with_template (record template { constraints = in_zone (codes "a") ∷ [] }) waiting) ≡ 0 ∷ 0 ∷ 1 ∷ 0 ∷ 0 ∷ 0 ∷ []
refused_for_constraints = refl

refused_for_platform : refusing (node 1)
    (with_template (record template { platforms = record { os = codes "linux"; arch = codes "arm64" } ∷ [] }) waiting)
    ≡ 0 ∷ 0 ∷ 0 ∷ 1 ∷ 0 ∷ 0 ∷ []
refused_for_platform = refl

refused_for_os : refusing (node 1)
    (with_template (record template { platforms = record { os = codes "windows"; arch = codes "amd64" } ∷ [] }) waiting)
    ≡ 0 ∷ 0 ∷ 0 ∷ 1 ∷ 0 ∷ 0 ∷ []
refused_for_os = refl

abbrev publishing : Template
publishing = record template { host_ports = record { target = 80; number = Some 80; udp = false } ∷ [] }

refused_for_host_port : refusal_counts
    (on_nodes (node 1 ∷ []) (with_template publishing (placed_task 2 2 1 state.Running) ∷ []))
    (with_template publishing waiting)
    ≡ 0 ∷ 0 ∷ 0 ∷ 0 ∷ 1 ∷ 0 ∷ []
refused_for_host_port = refl

refused_for_most : refusing (node 1) (with_template (record template { max_replicas = 1 }) waiting)
    ≡ 0 ∷ 0 ∷ 0 ∷ 0 ∷ 0 ∷ 1 ∷ []
refused_for_most = refl

-- A node counts for the first filter that refuses it.

abbrev demanding : Template
demanding = record publishing {
  constraints = in_zone (codes "a") ∷ [];
  platforms = record { os = codes "linux"; arch = codes "amd64" } ∷ [];
  max_replicas = 1;
}

-- 2 and 3 are refused by all filters from resources and from constraints on, with a task of the service on each
abbrev full_one : ℕ → ℕ → Node
full_one id cpu = record (in_b id) { cpu = cpu; arch = codes "arm64" }

abbrev there : ℕ → ℕ → Task
there id on = with_template publishing (placed_task id id on state.Running)

by_first_filter : refusal_counts
    (on_nodes
    (record (full_one 1 199) { availability = availability.Pause }
    ∷ full_one 2 199
    ∷ full_one 3 1000
    ∷ record (node 4) { arch = codes "arm64" }
    ∷ node 5
    ∷ node 6
    ∷ [])
    (there 11 1 ∷ there 12 2 ∷ there 13 3 ∷ there 14 4 ∷ there 15 5 ∷ placed_task 16 16 6 state.Running ∷ []))
    (with_template demanding waiting) ≡ 1 ∷ 1 ∷ 1 ∷ 1 ∷ 1 ∷ 1 ∷ []
by_first_filter = refl

-- the session is dead, though the node is still READY
refused_without_session : scheduler (record (on_nodes (node 1 ∷ []) (waiting ∷ [])) { clock = 6000 })
    ≡ duty.Explain 3 ∷ []
refused_without_session = refl

-- Explaining.

explain_where_none : scheduler (on_nodes (record (node 1) { cpu = 0 } ∷ []) (waiting ∷ [])) ≡ duty.Explain 3 ∷ []
explain_where_none = refl

abbrev says : List ℕ → Task → Task
says counts x = record x { note = note.Filters counts }

no_explain_twice : scheduler
    (on_nodes (record (node 1) { cpu = 0 } ∷ []) (says (0 ∷ 1 ∷ 0 ∷ 0 ∷ 0 ∷ 0 ∷ []) waiting ∷ [])) ≡ []
no_explain_twice = refl

explained_there : after_explain 7 (on_nodes (record (node 1) { cpu = 0 } ∷ []) (waiting ∷ [])) 3
    ≡ on_nodes (record (node 1) { cpu = 0 } ∷ [])
    (record (says (0 ∷ 1 ∷ 0 ∷ 0 ∷ 0 ∷ 0 ∷ []) waiting) { version = 7 } ∷ [])
explained_there = refl

-- a task whose place is a node is tested there alone
place_bound : scheduler
    (tables (node 1 ∷ node 10 ∷ []) (global_service ∷ [])
    (other 2 10 ∷ record (task 3 (On 10) state.Pending) { node = Some 10 } ∷ [])) ≡ duty.Place 3 10 ∷ []
place_bound = refl

-- By task, whatever the kind.

by_task : scheduler
    (on_nodes (node 1 ∷ [])
    (waiting ∷ with_desired desired.Shutdown (record waiting { id = 4 }) ∷ record waiting { id = 5 } ∷ []))
    ≡ duty.Place 3 1 ∷ duty.Drop 4 ∷ duty.Place 5 1 ∷ []
by_task = refl
