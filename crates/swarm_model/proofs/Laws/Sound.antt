-- The rows of every world of a legal history rise, with ids below the next one.
use Rattle.std.proofs.Common.{ℕ, ◌+◌, ◌<◌, List, [], ◌∷◌, arith}
use Rattle.swarm_model.proofs.Laws.Orderly.{orderly-replay}
use Rattle.swarm_model.proofs.Moves.Rows.{RisesBetween}
use Rattle.swarm_model.proofs.Moves.Worlds.{IsOrderly}
use Rattle.swarm_model.specs.History.{IsLegal, replay}
use Rattle.swarm_objects.proofs.Tests.{all-pass}
use Rattle.swarm_objects.specs.Rows.{IsBelow, RisesFrom, network_id, node_id, service_id, session_node, task_id, watcher_id}
use Rattle.swarm_objects.specs.Sound.{IsBelowNext, IsSound, is_subnet}
use Rattle.swarm_objects.specs.World.{Tables, World}
use Rattle.swarm_objects.specs.declared.calls.Entry.{Entry}

pub rises-between : {X : Type 0} (key : X → ℕ) (least low high : ℕ) (xs : List X) → least < low → RisesBetween key low high xs →
    RisesFrom key least xs
rises-between key least low high [] less h = tt
rises-between key least low high (x ∷ xs) less h =
    (omega (arith, less, h.0), rises-between key (key x) (key x + 1) high xs (omega arith) h.2)

pub below-between : {X : Type 0} (key : X → ℕ) (low high : ℕ) (xs : List X) → RisesBetween key low high xs →
    IsBelow key high xs
below-between key low high [] h = tt
below-between key low high (x ∷ xs) h = (h.1, below-between key (key x + 1) high xs h.2)

-- the rows of the tables that have ids rise
pub record RowsRise (t : Tables) : Type 0 where
  pub nodes : RisesFrom node_id 0 t.nodes
  pub services : RisesFrom service_id 0 t.services
  pub tasks : RisesFrom task_id 0 t.tasks
  pub networks : RisesFrom network_id 0 t.networks

pub rows-rise : (w : World) → IsOrderly w → RowsRise w.tables
rows-rise w is = record {
  nodes = rises-between node_id 0 1 w.tables.next_id w.tables.nodes (omega arith) is.nodes;
  services = rises-between service_id 0 1 w.tables.next_id w.tables.services (omega arith) is.services;
  tasks = rises-between task_id 0 1 w.tables.next_id w.tables.tasks (omega arith) is.tasks;
  networks = rises-between network_id 0 1 w.tables.next_id w.tables.networks (omega arith) is.networks;
}

pub rows-below : (w : World) → IsOrderly w → IsBelowNext w.tables
rows-below w is = record {
  nodes = below-between node_id 1 w.tables.next_id w.tables.nodes is.nodes;
  services = below-between service_id 1 w.tables.next_id w.tables.services is.services;
  tasks = below-between task_id 1 w.tables.next_id w.tables.tasks is.tasks;
  networks = below-between network_id 1 w.tables.next_id w.tables.networks is.networks;
}

pub watchers-rise : (w : World) → IsOrderly w →
    RisesFrom watcher_id 0 w.watchers × IsBelow watcher_id w.tables.next_id w.watchers
watchers-rise w is = (
  rises-between watcher_id 0 1 w.tables.next_id w.watchers (omega arith) is.watchers,
  below-between watcher_id 1 w.tables.next_id w.watchers is.watchers,
)

pub rows-rise-replay : (h : List Entry) → IsLegal h → RowsRise (replay h).tables
rows-rise-replay h legal = rows-rise (replay h) (orderly-replay h legal)

pub rows-below-replay : (h : List Entry) → IsLegal h → IsBelowNext (replay h).tables
rows-below-replay h legal = rows-below (replay h) (orderly-replay h legal)

-- an orderly world is sound
pub sound : (w : World) → IsOrderly w → IsSound w.tables
sound w is =
    let rows = rows-rise w is in
    record {
      ordered = record {
        nodes = rows.nodes;
        services = rows.services;
        tasks = rows.tasks;
        networks = rows.networks;
        sessions = rises-between session_node 0 1 w.tables.next_id w.tables.sessions (omega arith) is.sessions;
      };
      below = rows-below w is;
      subnets = all-pass is_subnet w.tables.networks is.subnets;
    }
