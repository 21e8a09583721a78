-- The duties on replicated services, and on tasks whose service is gone.
use Rattle.std.specs.Prelude.{Bool, not, ◌&&◌, ℕ, None, Option, Some, count_by, filter, fold, map, max, List, [], if◌then◌else◌, length, nat_lt, option_to_list, flat_map, ◌++◌}
use Rattle.std.specs.List.{list_any}
use Rattle.std.specs.Option.{option_map}
use Rattle.std.specs.Ordering.{nat_cmp, ordering_then}
use Rattle.std.specs.declared.cmp.Ordering.{Ordering}
use Rattle.swarm_objects.specs.Changes.{change_task, on_service, wanted, with_new, without_place}
use Rattle.swarm_objects.specs.Kinds.{bit}
use Rattle.swarm_objects.specs.Loops.Words.{when, duty_where}
use Rattle.swarm_objects.specs.Rows.{least_by, first_gap}
use Rattle.swarm_objects.specs.Services.Words.{has_service}
use Rattle.swarm_objects.specs.Tasks.Places.{place_tasks, held_places}
use Rattle.swarm_objects.specs.Tasks.Words.{is_kept, is_running, is_live, is_of, is_on}
use Rattle.swarm_objects.specs.World.{Tables}
use Rattle.swarm_objects.specs.declared.duties.Duty.{Duty}
use Rattle.swarm_objects.specs.declared.duties.Duty.TheVariants as duty
use Rattle.swarm_objects.specs.declared.services.Mode.{Mode}
use Rattle.swarm_objects.specs.declared.services.Mode.TheVariants as mode
use Rattle.swarm_objects.specs.declared.services.Service.{Service}
use Rattle.swarm_objects.specs.declared.tasks.Desired.TheVariants as desired
use Rattle.swarm_objects.specs.declared.tasks.Task.{Task}

abbrev pub is_gone : Tables → Task → Bool
is_gone t x = not (has_service t x) && is_kept x

-- a live task that runs stands in the place
abbrev pub is_up : Tables → Service → ℕ → Bool
is_up t s k = list_any (λ x. is_live x && is_running x) (place_tasks t s k)

-- the service's live tasks on the node; none where there is no node
abbrev pub crowd : Tables → Service → Option ℕ → ℕ
crowd t s None = 0
crowd t s (Some node) = count_by (λ x. is_of s.id x && is_live x && is_on node x) t.tasks

-- the most of these on a node of the place's live tasks
abbrev pub place_crowd : Tables → Service → ℕ → ℕ
place_crowd t s k = fold max 0 (map (λ x. crowd t s x.node) (filter is_live (place_tasks t s k)))

-- which of two places is given up first: one without a running task, then one on a fuller node, then the greater slot
abbrev pub down_cmp : Tables → Service → ℕ → ℕ → Ordering
down_cmp t s a b =
    ordering_then (nat_cmp (bit (is_up t s a)) (bit (is_up t s b)))
    (ordering_then (nat_cmp (place_crowd t s b) (place_crowd t s a)) (nat_cmp b a))

abbrev pub first_to_go : Tables → Service → Option ℕ
first_to_go t s = least_by (down_cmp t s) None (held_places t s)

abbrev pub down_duty : Tables → Service → Mode → List Duty
down_duty t s (mode.Replicated replicas) =
    if nat_lt replicas (length (held_places t s))
    then option_to_list (option_map (duty.Down s.id) (first_to_go t s)) else []
down_duty t s mode.Global = []
down_duty t s (mode.Job concurrent total) = []

-- a new task in the least slot from 1 that isn't held, where fewer slots are held than there are to be replicas
abbrev pub create_duty : Tables → Service → Mode → List Duty
create_duty t s (mode.Replicated replicas) =
    when (nat_lt (length (held_places t s)) replicas) (duty.ReplicatedCreate s.id (first_gap 1 (held_places t s)))
create_duty t s mode.Global = []
create_duty t s (mode.Job concurrent total) = []

abbrev pub replicated : Tables → List Duty
replicated t =
    duty_where (is_gone t) (λ x. duty.Gone x.id) t.tasks
    ++ flat_map (λ s. down_duty t s s.spec.mode) t.services
    ++ flat_map (λ s. create_duty t s s.spec.mode) t.services

-- What they do.

abbrev pub after_gone : ℕ → Tables → ℕ → Tables
after_gone version t x = change_task x (wanted version desired.Remove) t

abbrev pub after_down : ℕ → Tables → ℕ → ℕ → Tables
after_down version t s k = on_service t s (λ v. without_place version t v k)

abbrev pub after_replicated_create : ℕ → Tables → ℕ → ℕ → Tables
after_replicated_create version t s k = on_service t s (λ v. with_new version desired.Running t v k)
