-- What putting a changed node makes of the tables.
use Rattle.std.proofs.Common.{◌≡◌, ℕ, List, refl}
use Rattle.swarm_objects.specs.Loops.Dispatcher.{after_expire, fallen}
use Rattle.swarm_objects.specs.Rows.{node_id, row_at}
use Rattle.swarm_objects.specs.Sound.{IsSound}
use Rattle.swarm_objects.specs.World.{Tables}
use Rattle.swarm_objects.specs.declared.rows.Change.{Change}
use Rattle.swarm_objects.proofs.Applied.{node_found_makes}
use Rattle.swarm_objects.specs.ChangeLists.{Makes, put_node_found}

pub falls_make : (version id : ℕ) (t : Tables) (cs : List Change) → IsSound t
    → cs ≡ put_node_found (fallen version t.clock) (row_at node_id id t.nodes) → Makes t cs (after_expire version t id)
falls_make version id t cs sound list = node_found_makes (fallen version t.clock) id t cs sound (λ n. refl) list
