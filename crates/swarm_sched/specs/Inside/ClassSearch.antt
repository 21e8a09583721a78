-- The best node of one class, whose nodes are gone through by rising live tasks.
use Rattle.std.specs.Borrow.{Bor}
use Rattle.std.specs.Ordering.{is_lt, nat_cmp, ordering_then}
use Rattle.std.specs.Prelude.{None, Option, Some, false, true, ℕ, ◌≡◌}
use Rattle.std.specs.declared.cmp.Ordering.TheVariants.{Equal}
use Rattle.std.specs.declared.cmp.Ordering.{Ordering}
use Rattle.swarm_filters.specs.Tested.{is_open}
use Rattle.swarm_objects.specs.Rows.{Has}
use Rattle.swarm_objects.specs.World.{Tables}
use Rattle.swarm_objects.specs.declared.nodes.Node.{Node}
use Rattle.swarm_objects.specs.declared.tasks.Task.{Task}
use Rattle.swarm_sched.specs.Inside.Placing.{comes_first}
use Rattle.swarm_sched.specs.declared.class_search.Leader.{Leader}
use Rattle.swarm_sched.specs.declared.placing.NodeLoad.{NodeLoad}
use Rattle.swarm_timers.specs.Timers.{time_cmp}

-- the node that was found with its tasks
abbrev pub found_node : Option (Bor Node × NodeLoad) → Option Node
found_node None = None
found_node (Some r) = Some r.0.now

-- what was found leads, where anything was, and then the nodes of the class are its equals by the preferences
abbrev pub IsLed : Leader → Option (Bor Node × NodeLoad) → Leader → Type 0
IsLed first None l = l ≡ first
IsLed first (Some r) l =
    l ≡ record { node = Some r.0; held = r.1; standing = record { spread = Equal; has_none = first.standing.has_none } }

-- no node comes before the leader that has so many live tasks and such an id, or follows one that has
abbrev pub IsBehind : Option Node → NodeLoad → Ordering → ℕ → ℕ → Type 0
IsBehind None held spread load node = ⊥
IsBehind (Some b) held spread load node =
    (here more id : ℕ) → is_lt (time_cmp (more, id) (load, node)) ≡ false →
    is_lt (ordering_then spread (ordering_then (nat_cmp here held.here)
    (ordering_then (nat_cmp more held.load) (nat_cmp id b.id)))) ≡ false

-- the node with this id, which is open and comes before the leader, with which it compares so
pub record IsBetter (t : Tables) (x : Task) (spread : Ordering) (lead : Option Node) (id : ℕ) (n : Node) : Type 0 where
  pub row : Has t.nodes n
  pub same : n.id ≡ id
  pub is_open : is_open t x n ≡ true
  pub first : comes_first t x.service spread n.id lead ≡ true

-- no open node with this id comes before the leader
pub record IsPassed (t : Tables) (x : Task) (spread : Ordering) (lead : Option Node) (id : ℕ) : Type 0 where
  pub each : (n : Node) → Has t.nodes n → n.id ≡ id → is_open t x n ≡ true →
      comes_first t x.service spread n.id lead ≡ false
