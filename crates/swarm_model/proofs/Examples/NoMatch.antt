-- Worlds that don't match: of a settled one a thing is taken, or it isn't settled.
use Rattle.std.specs.Prelude.{None, Some, [], false, map, refl, take, true, ℕ, ◌∷◌, ◌≡◌}
use Rattle.std.specs.List.{list_all}
use Rattle.swarm_model.proofs.Examples.Journals.ClosedPlace as closed_place
use Rattle.swarm_model.proofs.Examples.Journals.DoneJob as done_job
use Rattle.swarm_model.proofs.Examples.Journals.EveryNode as every_node
use Rattle.swarm_model.proofs.Examples.Journals.FullNetwork as full_network
use Rattle.swarm_model.proofs.Examples.Journals.FullNode as full_node
use Rattle.swarm_model.proofs.Examples.Journals.TwoReplicas as two_replicas
use Rattle.swarm_model.specs.Closing.{closing}
use Rattle.swarm_model.specs.Laws.Matches.{are_closings_right, matches, matches_world}
use Rattle.swarm_objects.specs.Changes.{change_task, with_tables}
use Rattle.swarm_objects.specs.Rows.{drop_row, executor_task, task_id}
use Rattle.swarm_objects.specs.World.{World}
use Rattle.swarm_objects.specs.declared.agents.NodeAgent.{NodeAgent}
use Rattle.swarm_objects.specs.declared.nodes.Availability.TheVariants as availability
use Rattle.swarm_objects.specs.declared.nodes.Node.{Node}
use Rattle.swarm_objects.specs.declared.services.Service.{Service}
use Rattle.swarm_objects.specs.declared.tasks.Closed.TheVariants as closed
use Rattle.swarm_objects.specs.declared.tasks.Desired.TheVariants as desired
use Rattle.swarm_objects.specs.declared.tasks.Note.TheVariants as note
use Rattle.swarm_objects.specs.declared.tasks.Task.{Task}
use Rattle.swarm_objects.specs.declared.tasks.TaskState.TheVariants as state

abbrev with_agents : (NodeAgent → NodeAgent) → World → World
with_agents change w = record w { agents = map change w.agents }

abbrev with_task : ℕ → (Task → Task) → World → World
with_task id change w = with_tables w (change_task id change w.tables)

abbrev without_task : ℕ → World → World
without_task id w = with_tables w (record w.tables { tasks = drop_row task_id id w.tables.tasks })

-- Two replicas that run.

all_there : matches_world two_replicas.world ≡ true
all_there = refl

no_executor : matches_world
    (with_agents (λ a. record a { executors = drop_row executor_task 3 a.executors }) two_replicas.world) ≡ false
no_executor = refl

-- an executor that runs for no task
one_executor_more : matches_world (without_task 3 two_replicas.world) ≡ false
one_executor_more = refl

not_running : matches_world (with_task 3 (λ x. record x { state = state.Starting }) two_replicas.world) ≡ false
not_running = refl

no_place : matches_world
    (with_agents (λ a. record a { executors = drop_row executor_task 3 a.executors })
    (without_task 3 two_replicas.world)) ≡ false
no_place = refl

other_template : matches_world
    (with_task 3 (λ x. record x { template = record x.template { cpu = 1 } }) two_replicas.world) ≡ false
other_template = refl

on_drained_node : matches_world (record two_replicas.world {
  tables = record two_replicas.world.tables {
    nodes = map (λ (n : Node). record n { availability = availability.Drain }) two_replicas.world.tables.nodes;
  };
}) ≡ false
on_drained_node = refl

-- it runs, and is only to get ready
not_aimed : matches_world (with_task 3 (λ x. record x { desired = desired.Ready }) two_replicas.world) ≡ false
not_aimed = refl

-- a task of another service that is gone
task_without_service : matches_world (with_task 3 (λ x. record x { service = 9 }) two_replicas.world) ≡ false
task_without_service = refl

unsettled : matches (take 20 two_replicas.history) ≡ false
unsettled = refl

-- A task that waits says why.

says_why : matches_world full_node.world ≡ true
says_why = refl

says_nothing : matches_world (with_task 8 (λ x. record x { note = note.Empty }) full_node.world) ≡ false
says_nothing = refl

says_another : matches_world
    (with_task 8 (λ x. record x { note = note.Filters (2 ∷ 0 ∷ 0 ∷ 0 ∷ 0 ∷ 0 ∷ []) }) full_node.world) ≡ false
says_another = refl

no_address : matches_world (with_task 9 (λ x. record x { note = note.Empty }) full_network.world) ≡ false
no_address = refl

-- A closed place.

is_closed : matches_world closed_place.world ≡ true
is_closed = refl

no_cause : matches_world (with_task 6 (λ x. record x { closed = None }) closed_place.world) ≡ false
no_cause = refl

-- the place's cause is that of its closing, which the history has
closing_of_place : closing closed_place.history 6 ≡ Some (record { entry = 76; cause = closed.Attempts 2 })
closing_of_place = refl

closings_right : list_all
    (are_closings_right closed_place.history closed_place.world.tables) closed_place.world.tables.services ≡ true
closings_right = refl

other_cause : list_all
    (are_closings_right closed_place.history
    (with_task 6
    (λ x. record x { closed = Some closed.Condition }) closed_place.world).tables)
    closed_place.world.tables.services
    ≡ false
other_cause = refl

-- a closed place whose task is dirty matches where the closing came after the template
abbrev with_version : ℕ → Service → Service
with_version version s = record s {
  template_version = version;
  spec = record s.spec { template = record s.spec.template { cpu = 9 } };
}

closed_after_template :
    list_all (are_closings_right closed_place.history closed_place.world.tables)
    (map (with_version 75) closed_place.world.tables.services)
    ≡ true
closed_after_template = refl

closed_before_template :
    list_all (are_closings_right closed_place.history closed_place.world.tables)
    (map (with_version 76) closed_place.world.tables.services)
    ≡ false
closed_before_template = refl

-- and without a closing there is none
never_closed : list_all
    (are_closings_right (take 60 closed_place.history) closed_place.world.tables) closed_place.world.tables.services
    ≡ false
never_closed = refl

done_once : matches_world done_job.world ≡ true
done_once = refl

job_without_a_slot : matches_world (without_task 6 done_job.world) ≡ false
job_without_a_slot = refl

-- A global service.

node_without_task : matches_world (without_task 7 every_node.world) ≡ false
node_without_task = refl
