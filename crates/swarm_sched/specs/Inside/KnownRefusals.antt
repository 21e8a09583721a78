-- What is remembered of nodes that refused waiting tasks.
use Rattle.std.specs.Prelude.{IfSome, List, None, Option, Some, Vec, [], find, get_or, if◌then◌else◌, is_some, length, map}
use Rattle.std.specs.Prelude.{not, set, true, ℕ, ◌%◌, ◌==◌, ◌≡◌, ◌≤◌, ◌∷◌}
use Rattle.swarm_objects.specs.Nodes.Filters.{passes}
use Rattle.swarm_objects.specs.Rows.{Has}
use Rattle.swarm_objects.specs.World.{Tables}
use Rattle.swarm_objects.specs.declared.nodes.Node.{Node}
use Rattle.swarm_objects.specs.declared.rows.Change.{Change}
use Rattle.swarm_objects.specs.declared.tasks.Task.{Task}
use Rattle.swarm_objects.specs.declared.templates.Template.{Template}
use Rattle.swarm_sched.specs.Inside.Touching.{touched}
use Rattle.swarm_sched.specs.declared.known_refusals.Noted.{Noted}
use Rattle.swarm_sched.specs.declared.known_refusals.Refusal.{Refusal}

-- the first filter to refuse the task the node, of those that read the node's row and its tasks alone
abbrev pub refused_later : Tables → Task → Node → Option ℕ
refused_later t x n = find (λ k. not (passes t x n k)) (1 ∷ 2 ∷ 3 ∷ 4 ∷ 5 ∷ [])

-- what is remembered for the tasks of a service by a template
pub record Refusals : Type 0 where
  pub service : ℕ
  pub template : Template
  pub slots : List (Option Refusal)

-- the groups, where there is a place for them
abbrev pub shown : {Z : Type 0} → Option (Vec (Option Refusals) Z) → List (Option Refusals)
shown None = []
shown (Some groups) = groups.items

-- what stands in the slot, where it was remembered in this round
abbrev pub of_round : ℕ → Option Noted → Option Refusal
of_round round None = None
of_round round (Some n) = if n.round == round then Some n.refusal else None

-- all was remembered by this round
pub record AreSoFar (round : ℕ) (slots : List (Option Noted)) : Type 0 where
  pub each : (n : Noted) → Has slots (Some n) → n.round ≤ round

-- what stands in the node's slot
abbrev pub in_slot : List (Option Refusal) → ℕ → Option Refusal
in_slot slots node = get_or slots (node % length slots) None

-- this stands in the node's slot
abbrev pub set_slot : List (Option Refusal) → ℕ → Option Refusal → List (Option Refusal)
set_slot slots node o = set slots (node % length slots) o

-- the filter in the slot, where it is of this node
abbrev pub filter_of : ℕ → Option Refusal → Option ℕ
filter_of node None = None
filter_of node (Some r) = if r.node == node then Some r.filter else None

-- the filter that is remembered of the node
abbrev pub recalled : Refusals → ℕ → Option ℕ
recalled g node = filter_of node (in_slot g.slots node)

-- the task is one of them
abbrev pub IsIn : Refusals → Task → Type 0
IsIn g x = (x.service ≡ g.service) × (x.template ≡ g.template)

-- this filter refuses them the node
abbrev pub IsRefusal : Tables → Refusals → ℕ → ℕ → Type 0
IsRefusal t g node filter =
    (n : Node) (x : Task) → Has t.nodes n → n.id ≡ node → IsIn g x → refused_later t x n ≡ Some filter

-- whatever is remembered for them is so
pub record KnowsGroup (t : Tables) (g : Refusals) : Type 0 where
  pub each : (node : ℕ) → IfSome (recalled g node) (IsRefusal t g node)

-- one is remembered for them of the node
abbrev pub IsRefused : Option Refusals → ℕ → Type 0
IsRefused None node = ⊥
IsRefused (Some g) node = is_some (recalled g node) ≡ true

-- so it is for all groups
pub record KnowsRefusals (t : Tables) (all : List (Option Refusals)) : Type 0 where
  pub each : (g : Refusals) → Has all (Some g) → KnowsGroup t g

-- the group is the task's, and what is remembered for it is so
abbrev pub KnowsOwn : Tables → Task → Option Refusals → Type 0
KnowsOwn t x o = IfSome o (λ g. IsIn g x × KnowsGroup t g)

-- the same of the group's slots
abbrev pub put : Refusals → ℕ → Option Refusal → Refusals
put g node o = record g { slots = set_slot g.slots node o }

-- the node is forgotten
abbrev pub without : ℕ → Option Refusals → Option Refusals
without node None = None
without node (Some g) = Some (put g node None)

abbrev pub forget : Option ℕ → List (Option Refusals) → List (Option Refusals)
forget None all = all
forget (Some node) all = map (without node) all

-- the nodes that these changes touch are forgotten
abbrev pub forget_each : Tables → List Change → List (Option Refusals) → List (Option Refusals)
forget_each t [] all = all
forget_each t (c ∷ cs) all = forget_each t cs (forget (touched t c).1 (forget (touched t c).0 all))
