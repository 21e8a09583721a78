-- Global services, computed.
use Rattle.std.specs.Prelude.{Some, [], codes, refl, ◌∷◌, ◌≡◌}
use Rattle.swarm_objects.proofs.Examples.Rows.{down_node, global_service, in_zone, node, tables, task, template, templated, with_desired}
use Rattle.swarm_objects.specs.Loops.Global.{after_global_create, after_leave, global}
use Rattle.swarm_objects.specs.World.{Tables}
use Rattle.swarm_objects.specs.declared.duties.Duty.TheVariants as duty
use Rattle.swarm_objects.specs.declared.nodes.Availability.{Availability}
use Rattle.swarm_objects.specs.declared.nodes.Availability.TheVariants as availability
use Rattle.swarm_objects.specs.declared.nodes.Node.{Node}
use Rattle.swarm_objects.specs.declared.nodes.NodeState.TheVariants as node_state
use Rattle.swarm_objects.specs.declared.services.Service.{Service}
use Rattle.swarm_objects.specs.declared.tasks.Desired.TheVariants as desired
use Rattle.swarm_objects.specs.declared.tasks.Place.TheVariants.{On}
use Rattle.swarm_objects.specs.declared.tasks.Task.{Task}
use Rattle.swarm_objects.specs.declared.tasks.TaskState.{TaskState}
use Rattle.swarm_objects.specs.declared.tasks.TaskState.TheVariants as state

abbrev in_zone_a : Service
in_zone_a = templated (record template { constraints = in_zone (codes "a") ∷ [] }) global_service

abbrev of_node : TaskState → Task
of_node s = record (task 3 (On 1) s) { node = Some 1 }

abbrev with_task_of : Node → Tables
with_task_of n = tables (n ∷ []) (in_zone_a ∷ []) (of_node state.Running ∷ [])

abbrev in_availability : Availability → Node
in_availability a = record (node 1) { availability = a }

abbrev elsewhere : Node
elsewhere = record (node 1) { labels = (codes "zone", codes "b") ∷ [] }

-- A node that may not have a task any more.

leave_where_down : global (with_task_of (down_node 1 0)) ≡ duty.Leave 2 1 ∷ []
leave_where_down = refl

leave_where_drained : global (with_task_of (in_availability availability.Drain)) ≡ duty.Leave 2 1 ∷ []
leave_where_drained = refl

leave_where_unmet : global (with_task_of elsewhere) ≡ duty.Leave 2 1 ∷ []
leave_where_unmet = refl

leave_where_removed : global (record (with_task_of (node 1)) { nodes = [] }) ≡ duty.Leave 2 1 ∷ []
leave_where_removed = refl

-- a task that is stopping holds no place
no_leave_of_stopping : global
    (tables (down_node 1 0 ∷ []) (in_zone_a ∷ []) (with_desired desired.Shutdown (of_node state.Running) ∷ [])) ≡ []
no_leave_of_stopping = refl

-- a node on PAUSE keeps its task
no_leave_on_pause : global (with_task_of (in_availability availability.Pause)) ≡ []
no_leave_on_pause = refl

no_leave_where_right : global (with_task_of (node 1)) ≡ []
no_leave_where_right = refl

left : after_leave 7 (with_task_of elsewhere) 2 1
    ≡ tables (elsewhere ∷ []) (in_zone_a ∷ [])
    (record (of_node state.Running) { version = 7; desired = desired.Remove } ∷ [])
left = refl

-- A node that is to have one.

abbrev without_task : Node → Tables
without_task n = tables (n ∷ []) (in_zone_a ∷ []) []

come_where_missing : global (without_task (node 1)) ≡ duty.GlobalCreate 2 1 ∷ []
come_where_missing = refl

no_come_on_pause : global (without_task (in_availability availability.Pause)) ≡ []
no_come_on_pause = refl

no_come_before_ready : global (without_task (record (node 1) { state = node_state.Unknown })) ≡ []
no_come_before_ready = refl

no_come_where_unmet : global (without_task elsewhere) ≡ []
no_come_where_unmet = refl

-- bound to the node from the start
came : after_global_create 7 (without_task (node 1)) 2 1
    ≡ record (tables (node 1 ∷ []) (in_zone_a ∷ []) (
    record (task 50 (On 1) state.New) {
      version = 7;
      template = record template { constraints = in_zone (codes "a") ∷ [] };
      node = Some 1;
      since = 1000;
      created = 1000;
      raise_at = 1000;
    } ∷ [])) { next_id = 51 }
came = refl

-- Leaving comes first.

leaves_first : global
    (tables (node 1 ∷ down_node 4 0 ∷ []) (in_zone_a ∷ [])
    (record (task 3 (On 4) state.Running) { node = Some 4 } ∷ []))
    ≡ duty.Leave 2 4 ∷ duty.GlobalCreate 2 1 ∷ []
leaves_first = refl
