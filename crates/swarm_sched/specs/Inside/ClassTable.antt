-- How classes of nodes compare, where their nodes need not be asked.
use Rattle.std.specs.Borrow.{Bor}
use Rattle.std.specs.Cmp.Lexicographic.{slice_cmp}
use Rattle.std.specs.Ordering.{nat_cmp, ordering_then}
use Rattle.std.specs.Prelude.{List, None, Option, Some, [], get_or, length, ℕ, ◌<◌, ◌∷◌, ◌≡◌, ◌≤◌}
use Rattle.std.specs.declared.cmp.Ordering.TheVariants.{Equal, Less}
use Rattle.std.specs.declared.cmp.Ordering.{Ordering}
use Rattle.swarm_objects.specs.Nodes.Constraints.{key_value}
use Rattle.swarm_objects.specs.declared.nodes.Node.{Node}
use Rattle.swarm_objects.specs.declared.templates.Key.{Key}
use Rattle.swarm_sched.specs.declared.classes.TheConstants.{CLASSES}

-- by the nodes' values for the key
abbrev pub value_order : Key → Node → Node → Ordering
value_order k n m = slice_cmp nat_cmp (key_value n k) (key_value m k)

-- so the first nodes of so many classes compare with this one
pub record IsRow (k : Key) (heads : List (Bor Node)) (n : Node) (count : ℕ) (row : List Ordering) : Type 0 where
  pub each : (class : ℕ) (d : Bor Node) → class < count →
      get_or row class Less ≡ value_order k (get_or heads class d).now n
  pub all : length row ≡ CLASSES

-- so all of them do with those of so many
pub record AreRows (k : Key) (heads : List (Bor Node)) (count : ℕ) (rows : List (List Ordering)) : Type 0 where
  pub each : (class : ℕ) (d : Bor Node) → class < count →
      IsRow k heads (get_or heads class d).now (length heads) (get_or rows class [])
  pub all : length rows ≡ CLASSES

-- a class compares so with the best node's by these keys: by one, as their tasks do, or else as their values; by more it
-- isn't told
abbrev pub IsTold : List Key → List ℕ → List Ordering → ℕ → ℕ → Ordering → Type 0
IsTold [] loads values best class o = o ≡ Equal
IsTold (k ∷ []) loads values best class o =
    o ≡ ordering_then (nat_cmp (get_or loads class 0) (get_or loads best 0)) (get_or values class Less)
IsTold (k ∷ l ∷ keys) loads values best class o = ⊥

-- so many classes compare by their tasks with one that has so many, or else as these values say, and of the others
-- nothing is known
pub record AreTold (loads : List ℕ) (load : ℕ) (values : List Ordering) (count : ℕ) (each : List (Option Ordering)) :
    Type 0 where
  pub told : (class : ℕ) → class < count →
      get_or each class None ≡ Some (ordering_then (nat_cmp (get_or loads class 0) load) (get_or values class Less))
  pub left : (class : ℕ) → count ≤ class → get_or each class None ≡ None
  pub all : length each ≡ CLASSES
