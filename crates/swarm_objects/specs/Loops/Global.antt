-- The duties on global services.
use Rattle.std.specs.Prelude.{Bool, ◌&&◌, not, ℕ, List, [], filter, map, flat_map, ◌++◌}
use Rattle.swarm_objects.specs.Changes.{on_service, with_new, without_place}
use Rattle.swarm_objects.specs.Loops.Words.{duty_where}
use Rattle.swarm_objects.specs.Nodes.Words.{meets_all, is_active, is_ready, is_valid_node}
use Rattle.swarm_objects.specs.Rows.{is_row_and, node_id}
use Rattle.swarm_objects.specs.Tasks.Places.{is_held_place, place_numbers}
use Rattle.swarm_objects.specs.World.{Tables}
use Rattle.swarm_objects.specs.declared.duties.Duty.{Duty}
use Rattle.swarm_objects.specs.declared.duties.Duty.TheVariants as duty
use Rattle.swarm_objects.specs.declared.nodes.Node.{Node}
use Rattle.swarm_objects.specs.declared.services.Mode.{Mode}
use Rattle.swarm_objects.specs.declared.services.Mode.TheVariants as mode
use Rattle.swarm_objects.specs.declared.services.Service.{Service}
use Rattle.swarm_objects.specs.declared.tasks.Desired.TheVariants as desired

-- the node is READY and ACTIVE, and meets the constraints of the service's template
abbrev pub wants_here : Service → Node → Bool
wants_here s n = is_ready n.state && is_active n.availability && meets_all s.spec.template.constraints n

-- the node is valid, and meets them
abbrev pub may_stay : Service → Node → Bool
may_stay s n = is_valid_node n && meets_all s.spec.template.constraints n

-- the place is held, though its node is invalid or doesn't meet them
abbrev pub is_to_leave : Tables → Service → ℕ → Bool
is_to_leave t s k = is_held_place t s k && not (is_row_and node_id (may_stay s) t.nodes k)

abbrev pub leave_duties : Tables → Service → Mode → List Duty
leave_duties t s (mode.Replicated replicas) = []
leave_duties t s mode.Global = map (duty.Leave s.id) (filter (is_to_leave t s) (place_numbers t s))
leave_duties t s (mode.Job concurrent total) = []

-- the node is to have a task of the service, and its place isn't held
abbrev pub is_missing : Tables → Service → Node → Bool
is_missing t s n = wants_here s n && not (is_held_place t s n.id)

abbrev pub come_duties : Tables → Service → Mode → List Duty
come_duties t s (mode.Replicated replicas) = []
come_duties t s mode.Global = duty_where (is_missing t s) (λ n. duty.GlobalCreate s.id n.id) t.nodes
come_duties t s (mode.Job concurrent total) = []

abbrev pub global : Tables → List Duty
global t =
    flat_map (λ s. leave_duties t s s.spec.mode) t.services ++ flat_map (λ s. come_duties t s s.spec.mode) t.services

-- What they do.

abbrev pub after_leave : ℕ → Tables → ℕ → ℕ → Tables
after_leave version t s n = on_service t s (λ v. without_place version t v n)

abbrev pub after_global_create : ℕ → Tables → ℕ → ℕ → Tables
after_global_create version t s n = on_service t s (λ v. with_new version desired.Running t v n)
