-- Two live tasks of one slot with one template: the law refuses them, whether their service is there or gone.
use Rattle.std.proofs.Common.{List, [], false, refl, true, ◌∷◌, ◌≡◌}
use Rattle.swarm_model.specs.Laws.OneTemplate.{are_alike}
use Rattle.swarm_objects.proofs.Examples.Rows.{node, placed_task, replicas, tables, with_desired}
use Rattle.swarm_objects.specs.Rules.Services.{has_alike}
use Rattle.swarm_objects.specs.World.{Tables}
use Rattle.swarm_objects.specs.declared.services.Service.{Service}
use Rattle.swarm_objects.specs.declared.tasks.Desired.TheVariants as desired
use Rattle.swarm_objects.specs.declared.tasks.Task.{Task}
use Rattle.swarm_objects.specs.declared.tasks.TaskState.TheVariants as state

abbrev running : Task
running = placed_task 3 1 1 state.Running

abbrev with_another : Task → List Service → Tables
with_another other services = tables (node 1 ∷ []) services (running ∷ other ∷ [])

two_of_a_slot : (let t = with_another (placed_task 4 1 1 state.Ready) (replicas 1 ∷ []) in has_alike (are_alike t) t.tasks) ≡ true
two_of_a_slot = refl

two_of_a_gone_service : (let t = with_another (placed_task 4 1 1 state.Ready) [] in has_alike (are_alike t) t.tasks) ≡ true
two_of_a_gone_service = refl

-- in two slots; and where one of the two is to stop
two_slots : (let t = with_another (placed_task 4 2 1 state.Ready) [] in has_alike (are_alike t) t.tasks) ≡ false
two_slots = refl

one_stops : (let t = with_another (with_desired desired.Shutdown (placed_task 4 1 1 state.Ready)) [] in has_alike (are_alike t) t.tasks) ≡ false
one_stops = refl

-- other iterations are tasks apart where the service is a job or gone, and none of a service that is no job
abbrev of_a_later_iteration : Task
of_a_later_iteration = record (placed_task 4 1 1 state.Ready) { iteration = 1 }

two_iterations : (let t = with_another of_a_later_iteration [] in has_alike (are_alike t) t.tasks) ≡ false
two_iterations = refl

two_iterations_of_no_job : (let t = with_another of_a_later_iteration (replicas 1 ∷ []) in has_alike (are_alike t) t.tasks) ≡ true
two_iterations_of_no_job = refl
