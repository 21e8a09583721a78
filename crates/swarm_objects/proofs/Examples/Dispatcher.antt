-- The dispatcher, computed.
use Rattle.std.specs.Prelude.{[], refl, ℕ, ◌∷◌, ◌≡◌}
use Rattle.swarm_objects.proofs.Examples.Rows.{down_node, node, placed_task, replicas, session, tables}
use Rattle.swarm_objects.specs.Defaults.{usual_settings}
use Rattle.swarm_objects.specs.Loops.Dispatcher.{after_expire, after_orphan, dispatcher}
use Rattle.swarm_objects.specs.World.{Tables}
use Rattle.swarm_objects.specs.declared.duties.Duty.TheVariants as duty
use Rattle.swarm_objects.specs.declared.tasks.Task.{Task}
use Rattle.swarm_objects.specs.declared.tasks.TaskState.TheVariants as state

abbrev one_node : ℕ → Tables
one_node clock = record (tables (node 1 ∷ []) [] []) { clock = clock }

-- A session ends at its deadline.

expire_at_deadline : dispatcher (one_node 6000) ≡ duty.Expire 1 ∷ []
expire_at_deadline = refl

no_expire_before : dispatcher (one_node 5999) ≡ []
no_expire_before = refl

expire_without_session : dispatcher (record (one_node 0) { sessions = [] }) ≡ duty.Expire 1 ∷ []
expire_without_session = refl

no_expire_of_down : dispatcher (record (one_node 6000) { nodes = down_node 1 6000 ∷ [] }) ≡ []
no_expire_of_down = refl

expired : after_expire 7 (one_node 6000) 1
    ≡ record (one_node 6000) { nodes = record (down_node 1 6000) { version = 7 } ∷ [] }
expired = refl

-- A task of a node that is down for the orphan time, which is 600 here.

abbrev long_down : ℕ → Task → Tables
long_down clock x = record (tables (down_node 1 400 ∷ []) (replicas 1 ∷ []) (x ∷ [])) {
  clock = clock;
  settings = record usual_settings { orphan = 600 };
}

abbrev lost : Task
lost = placed_task 3 1 1 state.Running

orphan_at_its_time : dispatcher (long_down 1000 lost) ≡ duty.Orphan 3 ∷ []
orphan_at_its_time = refl

no_orphan_before : dispatcher (long_down 999 lost) ≡ []
no_orphan_before = refl

no_orphan_that_ended : dispatcher (long_down 1000 (placed_task 3 1 1 state.Failed)) ≡ []
no_orphan_that_ended = refl

no_orphan_elsewhere : dispatcher (record (long_down 1000 lost) { nodes = node 1 ∷ []; sessions = session 1 ∷ [] }) ≡ []
no_orphan_elsewhere = refl

orphaned : after_orphan 7 (long_down 1000 lost) 3
    ≡ long_down 1000 (record lost { version = 7; state = state.Orphaned; since = 1000 })
orphaned = refl

-- Nodes come before tasks.

nodes_first : dispatcher (record (long_down 1000 lost) { nodes = down_node 1 400 ∷ node 4 ∷ [] })
    ≡ duty.Expire 4 ∷ duty.Orphan 3 ∷ []
nodes_first = refl
