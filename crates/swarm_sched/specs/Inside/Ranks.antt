-- The nodes of each class by rising live tasks.
use Rattle.std.specs.Ordering.{is_lt}
use Rattle.std.specs.Prelude.{IfSome, List, None, Option, Some, [], false, get_or, length, true, ℕ, ⊤, ◌≡◌, ◌≤◌, ◌⊎◌}
use Rattle.std.specs.declared.cmp.Ordering.TheVariants.{Equal}
use Rattle.std.specs.declared.cmp.Ordering.{Ordering}
use Rattle.swarm_filters.specs.Tested.{is_open}
use Rattle.swarm_objects.specs.ChangeLists.{apply_change}
use Rattle.swarm_objects.specs.Nodes.BestNode.{load, node_cmp}
use Rattle.swarm_objects.specs.Rows.{Has, IsRising, has_row}
use Rattle.swarm_objects.specs.World.{Tables}
use Rattle.swarm_objects.specs.declared.nodes.Node.{Node}
use Rattle.swarm_objects.specs.declared.rows.Change.{Change}
use Rattle.swarm_objects.specs.declared.tasks.Task.{Task}
use Rattle.swarm_sched.specs.Inside.Placing.{comes_first}
use Rattle.swarm_sched.specs.Inside.Touching.{IsSpared}
use Rattle.swarm_sched.specs.declared.classes.ClassedNode.{ClassedNode}
use Rattle.swarm_sched.specs.declared.classes.TheConstants.{CLASSES}
use Rattle.swarm_timers.specs.Timers.{Timer, timer_owner, with_time}

-- the nodes of each class, with how many live tasks each has, and those that may have another number by now
pub record Ranking : Type 0 where
  pub classes : List (List Timer)
  pub stale : List ℕ

abbrev pub of_class : Ranking → ℕ → List Timer
of_class r class = get_or r.classes class []

-- each of the nodes has a number in its class, and no other has one
pub record AreRanked (nodes : List ClassedNode) (r : Ranking) : Type 0 where
  pub there : (c : ClassedNode) → Has nodes c → has_row timer_owner c.id (of_class r c.class) ≡ true
  pub own : (class : ℕ) (m : Timer) → Has (of_class r class) m → Has nodes (record { id = m.owner; class = class })

-- a node that isn't stale has so many live tasks
pub record AreRight (t : Tables) (r : Ranking) : Type 0 where
  pub each : (class : ℕ) (m : Timer) → Has (of_class r class) m → Has r.stale m.owner ⊎ (m.at ≡ load t m.owner)

abbrev pub AreRanks : Tables → List ClassedNode → Ranking → Type 0
AreRanks t nodes r = AreRanked nodes r × AreRight t r

-- of one class: each node has so many live tasks
pub record AreCurrent (t : Tables) (ranked : List Timer) : Type 0 where
  pub each : (m : Timer) → Has ranked m → m.at ≡ load t m.owner

-- A node's number, and the stale ones.

-- no node has a number, and none is stale
pub record AreUnranked (r : Ranking) : Type 0 where
  pub none : (class : ℕ) → of_class r class ≡ []
  pub all : length r.classes ≡ CLASSES

-- in the class the node has this number, and all else is as it was
pub record IsNumbered (class node count : ℕ) (before after : Ranking) : Type 0 where
  pub own : of_class after class ≡ with_time node count (of_class before class)
  pub rises : IsRising timer_owner (of_class after class)
  pub others : (k : ℕ) → (k ≡ class → ⊥) → of_class after k ≡ of_class before k
  pub all : length after.classes ≡ length before.classes
  pub stale : after.stale ≡ before.stale

-- more nodes are stale, and all else is as it was
pub record AreStaler (before after : Ranking) : Type 0 where
  pub classes : after.classes ≡ before.classes
  pub stale : (m : ℕ) → Has before.stale m → Has after.stale m

-- the node is in its class, and stale
pub record IsPut (c : ClassedNode) (before after : Ranking) : Type 0 where
  pub middle : Ranking
  pub numbered : IsNumbered c.class c.id 0 before middle
  pub staler : AreStaler middle after
  pub stale : Has after.stale c.id

-- the nodes up to here are in their classes, where these are left
pub record AreRanking (nodes left : List ClassedNode) (r : Ranking) : Type 0 where
  pub among : (c : ClassedNode) → Has left c → Has nodes c
  pub there : (c : ClassedNode) → Has nodes c → Has left c ⊎ (has_row timer_owner c.id (of_class r c.class) ≡ true)
  pub own : (class : ℕ) (m : Timer) → Has (of_class r class) m → Has nodes (record { id = m.owner; class = class })
  pub stale : (class : ℕ) (m : Timer) → Has (of_class r class) m → Has r.stale m.owner
  pub all : length r.classes ≡ CLASSES

-- so many live tasks the node has, whatever class it is in
pub record IsRight (t : Tables) (node : ℕ) (r : Ranking) : Type 0 where
  pub each : (class : ℕ) (m : Timer) → Has (of_class r class) m → m.owner ≡ node → m.at ≡ load t node

-- What changes make of it.

-- the node is stale, where there is one
abbrev pub IsStale : Option ℕ → List ℕ → Type 0
IsStale None stale = ⊤
IsStale (Some node) stale = Has stale node

-- no other node has fewer live tasks after the change
pub record IsLeft (t : Tables) (c : Change) (node : Option ℕ) : Type 0 where
  pub each : (m : ℕ) → (node ≡ Some m → ⊥) → load t m ≤ load (apply_change t c) m

-- no other node has more
pub record IsEntered (t : Tables) (c : Change) (node : Option ℕ) : Type 0 where
  pub each : (m : ℕ) → (node ≡ Some m → ⊥) → load (apply_change t c) m ≤ load t m

-- each node that isn't stale has as many live tasks
pub record HaveSame (t u : Tables) (stale : List ℕ) : Type 0 where
  pub each : (m : ℕ) → Has stale m ⊎ (load t m ≡ load u m)

-- each node is stale, or the changes that aren't left spare it
pub record AreTouching (t : Tables) (cs left : List Change) (stale : List ℕ) : Type 0 where
  pub each : (m : ℕ) (c : Change) → Has cs c → Has left c ⊎ (Has stale m ⊎ IsSpared t m c)

-- What is found of a class, whose nodes compare so with the best one so far by the placement preferences.

-- the node isn't before the one that was found; where none was, it isn't before the best one so far
abbrev pub IsPast : Tables → ℕ → Ordering → Option Node → Option Node → ℕ → Type 0
IsPast t service spread best None node = comes_first t service spread node best ≡ false
IsPast t service spread best (Some f) node = comes_first t service Equal node (Some f) ≡ false

-- an open node of the class that comes before the best one so far
pub record IsLeader (t : Tables) (x : Task) (ranks : List Timer) (spread : Ordering) (best : Option Node) (n : Node) :
    Type 0 where
  pub row : Has t.nodes n
  pub ranked : has_row timer_owner n.id ranks ≡ true
  pub is_open : is_open t x n ≡ true
  pub first : comes_first t x.service spread n.id best ≡ true

-- the first of its open nodes that come before the best one so far, or that there is none
pub record IsFound (t : Tables) (x : Task) (ranked : List Timer) (spread : Ordering) (best found : Option Node) :
    Type 0 where
  pub leads : IfSome found (IsLeader t x ranked spread best)
  pub others : (n : Node) → Has t.nodes n → has_row timer_owner n.id ranked ≡ true → is_open t x n ≡ true →
      IsPast t x.service spread best found n.id

-- there is a best node, and the node doesn't come before it
abbrev pub Trails : Tables → Task → Option Node → Node → Type 0
Trails t x None n = ⊥
Trails t x (Some b) n = is_lt (node_cmp t x n b) ≡ false
