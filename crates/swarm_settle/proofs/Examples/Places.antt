-- Places that match, and places that don't.
use Rattle.std.specs.Prelude.{List, Some, [], codes, false, refl, true, ℕ, ◌∷◌, ◌≡◌}
use Rattle.swarm_settle.proofs.Examples.Worlds.{running, running_on}
use Rattle.swarm_model.specs.Laws.Matches.{matches_world, stands_in}
use Rattle.swarm_objects.proofs.Examples.Rows.{global_service, in_zone, job, node, placed_task, replicas, tables, task, template, templated, with_desired, with_template}
use Rattle.swarm_objects.specs.Changes.{with_tables}
use Rattle.swarm_objects.specs.World.{World}
use Rattle.swarm_objects.specs.declared.nodes.Availability.{Availability}
use Rattle.swarm_objects.specs.declared.nodes.Availability.TheVariants as availability
use Rattle.swarm_objects.specs.declared.nodes.Node.{Node}
use Rattle.swarm_objects.specs.declared.nodes.NodeState.TheVariants as node_state
use Rattle.swarm_objects.specs.declared.services.Service.{Service}
use Rattle.swarm_objects.specs.declared.tasks.Desired.TheVariants as desired
use Rattle.swarm_objects.specs.declared.tasks.Place.TheVariants.{On}
use Rattle.swarm_objects.specs.declared.tasks.Task.{Task}
use Rattle.swarm_objects.specs.declared.tasks.TaskState.TheVariants as state

-- A task that runs, in its slot on node 1.

abbrev up : ℕ → ℕ → Task
up id slot = placed_task id slot 1 state.Running

one_in_a_place : matches_world (running (replicas 1) (up 3 1 ∷ [])) ≡ true
one_in_a_place = refl

two_in_a_place : matches_world (running (replicas 1) (up 3 1 ∷ up 4 1 ∷ [])) ≡ false
two_in_a_place = refl

one_in_each_place : matches_world (running (replicas 2) (up 3 1 ∷ up 4 2 ∷ [])) ≡ true
one_in_each_place = refl

one_place_too_many : matches_world (running (replicas 1) (up 3 1 ∷ up 4 2 ∷ [])) ≡ false
one_place_too_many = refl

one_place_too_few : matches_world (running (replicas 2) (up 3 1 ∷ [])) ≡ false
one_place_too_few = refl

-- A global service, whose tasks are to be on nodes of zone a.

abbrev in_zone_a : Service
in_zone_a = templated (record template { constraints = in_zone (codes "a") ∷ [] }) global_service

abbrev here : Task
here = record (task 3 (On 1) state.Running) {
  node = Some 1;
  template = record template { constraints = in_zone (codes "a") ∷ [] };
}

abbrev held_on : Node → World
held_on n = running_on n in_zone_a (here ∷ [])

abbrev unheld_on : Node → World
unheld_on n = running_on n in_zone_a []

abbrev available : Availability → Node
available a = record (node 1) { availability = a }

abbrev in_zone_b : Node → Node
in_zone_b n = record n { labels = (codes "zone", codes "b") ∷ [] }

held_on_active : matches_world (held_on (node 1)) ≡ true
held_on_active = refl

unheld_on_active : matches_world (unheld_on (node 1)) ≡ false
unheld_on_active = refl

-- a node on PAUSE keeps its task, and needs none
held_on_pause : matches_world (held_on (available availability.Pause)) ≡ true
held_on_pause = refl

unheld_on_pause : matches_world (unheld_on (available availability.Pause)) ≡ true
unheld_on_pause = refl

held_on_drain : matches_world (held_on (available availability.Drain)) ≡ false
held_on_drain = refl

unheld_on_drain : matches_world (unheld_on (available availability.Drain)) ≡ true
unheld_on_drain = refl

-- on PAUSE or not, a node that doesn't meet the constraints has no task
held_elsewhere : matches_world (held_on (in_zone_b (node 1))) ≡ false
held_elsewhere = refl

held_on_pause_elsewhere : matches_world (held_on (in_zone_b (available availability.Pause))) ≡ false
held_on_pause_elsewhere = refl

unheld_elsewhere : matches_world (unheld_on (in_zone_b (node 1))) ≡ true
unheld_elsewhere = refl

-- nor has one that isn't READY, or is gone
held_on_down : matches_world (held_on (record (available availability.Pause) { state = node_state.Down })) ≡ false
held_on_down = refl

held_on_none : matches_world
    (with_tables (held_on (node 1)) (record (held_on (node 1)).tables { nodes = [] })) ≡ false
held_on_none = refl

-- A task of a replicated service, which is to run on a node of zone a.

abbrev slot_in : Node → World
slot_in n =
    running_on n (templated (record template { constraints = in_zone (codes "a") ∷ [] }) (replicas 1))
    (with_template (record template { constraints = in_zone (codes "a") ∷ [] }) (up 3 1) ∷ [])

runs_in_zone : matches_world (slot_in (node 1)) ≡ true
runs_in_zone = refl

runs_elsewhere : matches_world (slot_in (in_zone_b (node 1))) ≡ false
runs_elsewhere = refl

-- A task stands only in a place that is held.

stands_nowhere : stands_in (tables [] (replicas 1 ∷ []) []) (up 3 1) (replicas 1) ≡ false
stands_nowhere = refl

stands_in_its_place : stands_in (tables [] (replicas 1 ∷ []) (up 3 1 ∷ [])) (up 3 1) (replicas 1) ≡ true
stands_in_its_place = refl

-- A job of so many tasks at a time and in all.

abbrev done : ℕ → ℕ → Task
done id slot = record (with_desired desired.Complete (up id slot)) { goal = desired.Complete }

abbrev at_work : ℕ → ℕ → List Task → World
at_work concurrent total tasks = running (job concurrent total) tasks

as_many_at_a_time : matches_world (at_work 2 3 (done 3 0 ∷ done 4 1 ∷ [])) ≡ true
as_many_at_a_time = refl

too_many_at_a_time : matches_world (at_work 1 3 (done 3 0 ∷ done 4 1 ∷ [])) ≡ false
too_many_at_a_time = refl

-- also where these are all
all_at_a_time : matches_world (at_work 1 2 (done 3 0 ∷ done 4 1 ∷ [])) ≡ false
all_at_a_time = refl

too_few_at_a_time : matches_world (at_work 3 3 (done 3 0 ∷ done 4 1 ∷ [])) ≡ false
too_few_at_a_time = refl

as_many_in_all : matches_world (at_work 3 2 (done 3 0 ∷ done 4 1 ∷ [])) ≡ true
as_many_in_all = refl

too_many_in_all : matches_world (at_work 2 1 (done 3 0 ∷ done 4 1 ∷ [])) ≡ false
too_many_in_all = refl

-- Iterations of a job.

abbrev at_work_again : List Task → World
at_work_again tasks = running (record (job 1 1) { iteration = 1 }) tasks

abbrev again : Task → Task
again x = record x { iteration = 1 }

of_this_iteration : matches_world (at_work_again (again (done 3 0) ∷ [])) ≡ true
of_this_iteration = refl

of_an_old_iteration : matches_world (at_work_again (done 3 0 ∷ [])) ≡ false
of_an_old_iteration = refl

-- beside the one that is to be there, too
old_beside_new : matches_world (at_work_again (done 3 0 ∷ again (done 4 0) ∷ [])) ≡ false
old_beside_new = refl
