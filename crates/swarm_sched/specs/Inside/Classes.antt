-- Nodes sorted by their values for placement preferences.
use Rattle.std.specs.Borrow.{Bor}
use Rattle.std.specs.Prelude.{Bool, IfSome, List, None, Option, Some, [], false, get_or, if◌then◌else◌, length, map}
use Rattle.std.specs.Prelude.{nat_le, true, ℕ, ◌++◌, ◌-◌, ◌<◌, ◌==◌, ◌∷◌, ◌≡◌, ◌≤◌, ◌⊎◌}
use Rattle.std.specs.declared.cmp.Ordering.TheVariants.{Less}
use Rattle.std.specs.declared.cmp.Ordering.{Ordering}
use Rattle.swarm_objects.specs.Nodes.BestNode.{agrees, spread_cmp}
use Rattle.swarm_objects.specs.Rows.{Has, node_id}
use Rattle.swarm_objects.specs.World.{Tables}
use Rattle.swarm_objects.specs.declared.nodes.Node.{Node}
use Rattle.swarm_objects.specs.declared.rows.Change.TheVariants as change
use Rattle.swarm_objects.specs.declared.rows.Change.{Change}
use Rattle.swarm_objects.specs.declared.templates.Key.{Key}
use Rattle.swarm_sched.specs.Inside.Branches.{Preferences}
use Rattle.swarm_sched.specs.Inside.ClassTable.{value_order}
use Rattle.swarm_sched.specs.Inside.Ranks.{AreRanks, Ranking}
use Rattle.swarm_sched.specs.declared.classes.Asked.{Asked}
use Rattle.swarm_sched.specs.declared.classes.ClassedNode.{ClassedNode}
use Rattle.swarm_sched.specs.declared.classes.Sorting.TheVariants as sorting
use Rattle.swarm_sched.specs.declared.classes.Sorting.{Sorting}
use Rattle.swarm_sched.specs.declared.classes.TheConstants.{CLASSES}

-- preferences, the nodes sorted by them into so many classes, how the values of these compare, and the nodes of each by
-- rising live tasks
pub record Classes : Type 0 where
  pub keys : List Key
  pub nodes : List ClassedNode
  pub count : ℕ
  pub values : List (List Ordering)
  pub ranks : Ranking

abbrev pub sorted_by : List Key → Sorting → Option Classes
sorted_by keys sorting.NotYet = None
sorted_by keys (sorting.Done s) = Some (record {
  keys = keys;
  nodes = s.nodes;
  count = s.table.count;
  values = s.table.values;
  ranks = s.ranks;
})
sorted_by keys sorting.InVain = None

abbrev pub classes : Asked → Option Classes
classes a = sorted_by a.keys a.sorting

abbrev pub shown : Option Asked → Option Classes
shown None = None
shown (Some a) = classes a

abbrev pub entry_id : ClassedNode → ℕ
entry_id c = c.id

-- the entry of the node
pub record IsEntry (nodes : List Node) (sorted : List ClassedNode) (c : ClassedNode) (n : Node) : Type 0 where
  pub there : Has sorted c
  pub row : Has nodes n
  pub same : n.id ≡ c.id

-- each class is one of so many
abbrev pub AreBelow : ℕ → List ClassedNode → Type 0
AreBelow count sorted = (c : ClassedNode) → Has sorted c → c.class < count

abbrev pub AreFew : List ClassedNode → Type 0
AreFew = AreBelow CLASSES

-- they are of so many, which aren't too many
abbrev pub HaveClasses : ℕ → List ClassedNode → Type 0
HaveClasses count sorted = AreBelow count sorted × (count ≤ CLASSES)

-- these are the nodes, in order, and those of one class have the same values for the keys; where there are keys, no
-- others have them
pub record AreSorted (nodes : List Node) (keys : List Key) (sorted : List ClassedNode) : Type 0 where
  pub ids : map entry_id sorted ≡ map node_id nodes
  pub few : AreFew sorted
  pub alike : (c d : ClassedNode) (n m : Node) → IsEntry nodes sorted c n → IsEntry nodes sorted d m →
      c.class ≡ d.class → agrees keys n m ≡ true
  pub apart : (keys ≡ [] → ⊥) → (c d : ClassedNode) (n m : Node) → IsEntry nodes sorted c n → IsEntry nodes sorted d m →
      agrees keys n m ≡ true → c.class ≡ d.class

-- where there is one key, the values of the nodes compare as those of their classes do
pub record AreValues (nodes : List Node) (keys : List Key) (sorted : List ClassedNode) (values : List (List Ordering)) :
    Type 0 where
  pub each : (k : Key) → keys ≡ k ∷ [] → (c d : ClassedNode) (n m : Node) → IsEntry nodes sorted c n →
      IsEntry nodes sorted d m → get_or (get_or values d.class []) c.class Less ≡ value_order k n m

-- so are those that are kept
abbrev pub AreClasses : Tables → Option Classes → Type 0
AreClasses t o =
    IfSome o (λ k. AreSorted t.nodes k.keys k.nodes × AreRanks t k.nodes k.ranks × HaveClasses k.count k.nodes
    × AreValues t.nodes k.keys k.nodes k.values)

-- what is sorted by these keys is sorted by those
abbrev pub IsServed : List Key → List Key → Type 0
IsServed by keys = (keys ≡ by) ⊎ (keys ≡ [])

-- the node agrees with the first one of its class, and with none of those before
pub record IsOf (keys : List Key) (heads : List (Bor Node)) (class : ℕ) (n : Node) : Type 0 where
  pub there : class < length heads
  pub alike : (head : Bor Node) → agrees keys (get_or heads class head).now n ≡ true
  pub first : (k : ℕ) (head : Bor Node) → k < class → agrees keys (get_or heads k head).now n ≡ false

-- what is of a class stays so
pub record IsMore (keys : List Key) (before after : List (Bor Node)) : Type 0 where
  pub each : (class : ℕ) (n : Node) → IsOf keys before class n → IsOf keys after class n

-- the nodes that are sorted so far, where these are left
pub record AreSorting (nodes : List Node) (keys : List Key) (heads : List (Bor Node)) (sorted : List ClassedNode)
    (left : List Node) : Type 0 where
  pub ids : map entry_id sorted ++ map node_id left ≡ map node_id nodes
  pub among : (n : Node) → Has left n → Has nodes n
  pub few : length heads ≤ CLASSES
  pub small : AreFew sorted
  pub each : (c : ClassedNode) (n : Node) → IsEntry nodes sorted c n → IsOf keys heads c.class n

-- a node is put
abbrev pub puts_node : Change → Bool
puts_node (change.PutNode n) = true
puts_node (change.PutService s) = false
puts_node (change.PutTask x) = false
puts_node (change.DropTask id) = false
puts_node (change.Keep a) = false

-- so the node compares with the best one by the preferences, and as less where there is none
abbrev pub IsOrder : Preferences → Ordering → Node → Option Node → Type 0
IsOrder p o n None = o ≡ Less
IsOrder p o n (Some b) = o ≡ spread_cmp p.tables p.service [] p.keys n b

-- so do all nodes of each class for which it is known
pub record AreOrders
    (p : Preferences) (sorted : List ClassedNode) (orders : List (Option Ordering)) (best : Option Node) :
    Type 0 where
  pub each : (c : ClassedNode) (n : Node) → IsEntry p.tables.nodes sorted c n →
      IfSome (get_or orders c.class None) (λ o. IsOrder p o n best)

-- the class whose turn it is, where this one is the first
abbrev pub class_in_turn : ℕ → ℕ → ℕ
class_in_turn lead turn = if turn == 0 then lead else if nat_le turn lead then turn - 1 else turn
