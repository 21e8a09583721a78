-- Replicated services, computed.
use Rattle.std.specs.Prelude.{List, Some, [], refl, ℕ, ◌∷◌, ◌≡◌}
use Rattle.swarm_objects.proofs.Examples.Rows.{node, placed_task, replicas, tables, task, with_desired}
use Rattle.swarm_objects.specs.Loops.Replicated.{after_down, after_gone, after_replicated_create, replicated}
use Rattle.swarm_objects.specs.World.{Tables}
use Rattle.swarm_objects.specs.declared.duties.Duty.TheVariants as duty
use Rattle.swarm_objects.specs.declared.tasks.Closed.TheVariants as closed
use Rattle.swarm_objects.specs.declared.tasks.Desired.TheVariants as desired
use Rattle.swarm_objects.specs.declared.tasks.Place.TheVariants.{Slot}
use Rattle.swarm_objects.specs.declared.tasks.Task.{Task}
use Rattle.swarm_objects.specs.declared.tasks.TaskState.TheVariants as state

abbrev with_tasks : ℕ → List Task → Tables
with_tasks k tasks = tables (node 1 ∷ node 10 ∷ []) (replicas k ∷ []) tasks

-- a task that runs in its slot on a node
abbrev up : ℕ → ℕ → ℕ → Task
up id slot on = placed_task id slot on state.Running

-- Tasks whose service is gone.

abbrev without_service : Task → Tables
without_service x = tables (node 1 ∷ []) [] (x ∷ [])

gone_without_service : replicated (without_service (up 3 1 1)) ≡ duty.Gone 3 ∷ []
gone_without_service = refl

not_gone_twice : replicated (without_service (with_desired desired.Remove (up 3 1 1))) ≡ []
not_gone_twice = refl

not_gone_with_service : replicated (with_tasks 1 (up 3 1 1 ∷ [])) ≡ []
not_gone_with_service = refl

gone : after_gone 7 (without_service (up 3 1 1)) 3
    ≡ without_service (record (up 3 1 1) { version = 7; desired = desired.Remove })
gone = refl

-- Places that are too many.

-- the greater slot goes first
down_the_greater : replicated (with_tasks 1 (up 3 1 1 ∷ up 4 2 10 ∷ [])) ≡ duty.Down 2 2 ∷ []
down_the_greater = refl

-- but a slot that doesn't run goes before one that does
down_the_idle : replicated (with_tasks 1 (placed_task 3 1 1 state.Ready ∷ up 4 2 10 ∷ [])) ≡ duty.Down 2 1 ∷ []
down_the_idle = refl

-- and one on a fuller node before the others
down_the_crowded : replicated (with_tasks 2 (up 3 1 1 ∷ up 4 2 1 ∷ up 5 3 10 ∷ [])) ≡ duty.Down 2 2 ∷ []
down_the_crowded = refl

-- a live task that has ended, and isn't made anew yet, counts for its node
down_where_one_ended : replicated (with_tasks 1 (up 3 1 1 ∷ placed_task 4 1 1 state.Failed ∷ up 5 2 10 ∷ []))
    ≡ duty.Down 2 1 ∷ []
down_where_one_ended = refl

-- a task that runs and is only to stop doesn't make its slot run
down_the_stopping : replicated
    (with_tasks 1 (with_desired desired.Shutdown (up 3 1 1) ∷ placed_task 4 1 1 state.Ready ∷ up 5 2 10 ∷ []))
    ≡ duty.Down 2 1 ∷ []
down_the_stopping = refl

-- nor does it make its node fuller
crowd_without_stopping : replicated
    (with_tasks 1 (up 3 1 1 ∷ with_desired desired.Shutdown (up 4 3 1) ∷ up 5 2 10 ∷ [])) ≡ duty.Down 2 2 ∷ []
crowd_without_stopping = refl

-- nor do tasks of another service
crowd_of_its_own : replicated
    (tables (node 1 ∷ node 10 ∷ []) (replicas 1 ∷ record (replicas 2) { id = 8 } ∷ [])
    (up 3 1 1 ∷ up 4 2 10 ∷ record (up 6 1 1) { service = 8 } ∷ record (up 7 2 1) { service = 8 } ∷ []))
    ≡ duty.Down 2 2 ∷ []
crowd_of_its_own = refl

no_down_at_the_number : replicated (with_tasks 2 (up 3 1 1 ∷ up 4 2 10 ∷ [])) ≡ []
no_down_at_the_number = refl

-- every task of the slot that isn't to be removed
downed : after_down 7 (with_tasks 0 (with_desired desired.Shutdown (up 3 1 1) ∷ up 4 1 1 ∷ up 5 2 1 ∷ [])) 2 1
    ≡ with_tasks 0
    (record (up 3 1 1) { version = 7; desired = desired.Remove }
    ∷ record (up 4 1 1) { version = 7; desired = desired.Remove } ∷ up 5 2 1 ∷ [])
downed = refl

-- Places that are too few.

create_least : replicated (with_tasks 2 (up 3 2 1 ∷ [])) ≡ duty.ReplicatedCreate 2 1 ∷ []
create_least = refl

create_behind : replicated (with_tasks 2 (up 3 1 1 ∷ [])) ≡ duty.ReplicatedCreate 2 2 ∷ []
create_behind = refl

-- a closed slot is held
no_create_where_closed : replicated
    (with_tasks 1
    (record (up 3 1 1) { state = state.Failed; desired = desired.Shutdown; closed = Some closed.Condition } ∷ []))
    ≡ []
no_create_where_closed = refl

create_where_stopped : replicated (with_tasks 1 (with_desired desired.Shutdown (up 3 1 1) ∷ []))
    ≡ duty.ReplicatedCreate 2 1 ∷ []
create_where_stopped = refl

created : after_replicated_create 7 (with_tasks 1 []) 2 1
    ≡ record (with_tasks 1
    (record (task 50 (Slot 1) state.New) { version = 7; since = 1000; created = 1000; raise_at = 1000 }
    ∷ [])) { next_id = 51 }
created = refl

-- Gone ones come first.

gone_first : replicated (with_tasks 2 (record (up 3 1 1) { service = 8 } ∷ []))
    ≡ duty.Gone 3 ∷ duty.ReplicatedCreate 2 1 ∷ []
gone_first = refl
