-- What is remembered of the tasks on nodes.
use Rattle.std.specs.Prelude.{Bool, IfSome, List, None, Option, Some, Vec, [], false, get_or, if◌then◌else◌, length}
use Rattle.std.specs.Prelude.{true, ℕ, ◌%◌, ◌==◌, ◌≡◌, ◌⊎◌, ◌+◌, ◌&&◌, ◌∷◌}
use Rattle.swarm_objects.specs.Nodes.Filters.{here}
use Rattle.swarm_objects.specs.Nodes.Holdings.{is_placed_on, task_cpu, task_mem}
use Rattle.swarm_objects.specs.Rows.{Has, row_at, task_id}
use Rattle.swarm_objects.specs.Tasks.Words.{is_live, is_of, is_on, is_placed}
use Rattle.swarm_objects.specs.World.{Tables}
use Rattle.swarm_objects.specs.declared.rows.Change.{Change}
use Rattle.swarm_objects.specs.declared.rows.Change.TheVariants as change
use Rattle.swarm_objects.specs.declared.tasks.Task.{Task}
use Rattle.swarm_sched.specs.Inside.Totals.{AreTotals}
use Rattle.swarm_sched.specs.declared.known.Moved.{Moved}
use Rattle.swarm_sched.specs.declared.known.NodeTotals.{NodeTotals}

-- the slots, where they are there and hold what is true
abbrev pub shown : {Z : Type 0} → Bool → Option (Vec (Option NodeTotals) Z) → List (Option NodeTotals)
shown true (Some slots) = slots.items
shown true None = []
shown false slots = []

-- what the slot holds, where it is of this node
abbrev pub if_of : ℕ → Option NodeTotals → Option NodeTotals
if_of node None = None
if_of node (Some k) = if k.node == node then Some k else None

-- what is remembered of the node
abbrev pub recalled : List (Option NodeTotals) → ℕ → Option NodeTotals
recalled all node = if_of node (get_or all (node % length all) None)

-- these are the node's, and its service's own tasks are so many
abbrev pub AreCounted : Tables → ℕ → NodeTotals → Type 0
AreCounted t node k = (k.here ≡ here t node k.service) × AreTotals t node k.totals

-- whatever is remembered of a node is so
pub record Knows (t : Tables) (all : List (Option NodeTotals)) : Type 0 where
  pub each : (node : ℕ) → IfSome (recalled all node) (AreCounted t node)

-- what the task adds to such a sum over the node's tasks
abbrev pub adds : (Task → ℕ) → ℕ → Task → ℕ
adds f node x = if is_placed_on node x then f x else 0

abbrev pub one_if : (Task → Bool) → Task → ℕ
one_if p x = if p x then 1 else 0

-- the same with one task in the place of another one
pub record IsExchanged (k : NodeTotals) (old new : Task) (r : NodeTotals) : Type 0 where
  pub node : r.node ≡ k.node
  pub service : r.service ≡ k.service
  pub cpu : r.totals.cpu + adds task_cpu k.node old ≡ k.totals.cpu + adds task_cpu k.node new
  pub mem : r.totals.mem + adds task_mem k.node old ≡ k.totals.mem + adds task_mem k.node new
  pub load : r.totals.load + adds (one_if is_live) k.node old ≡ k.totals.load + adds (one_if is_live) k.node new
  pub here : let own = one_if (λ x. is_of k.service x && is_live x) in
      r.here + adds own k.node old ≡ k.here + adds own k.node new

-- the new task counts for every node as the old one
pub record CountsAlike (old new : Task) : Type 0 where
  pub node : new.node ≡ old.node
  pub service : new.service ≡ old.service
  pub placed : is_placed new ≡ is_placed old
  pub live : is_live new ≡ is_live old
  pub cpu : task_cpu new ≡ task_cpu old
  pub mem : task_mem new ≡ task_mem old
  pub ports : new.template.host_ports ≡ old.template.host_ports

-- the changes are one that puts a task which counts as the one that it replaces
pub record AreSpared (t : Tables) (cs : List Change) : Type 0 where
  pub old : Task
  pub new : Task
  pub one : cs ≡ change.PutTask new ∷ []
  pub row : row_at task_id new.id t.tasks ≡ Some old
  pub alike : CountsAlike old new

-- what will be known of the nodes that a task leaves and enters
pub record AreMoved (t : Tables) (m : Moved) : Type 0 where
  pub from : IfSome m.from (λ k. AreCounted t k.node k)
  pub to : IfSome m.to (λ k. AreCounted t k.node k)

-- what is remembered was remembered before
pub record AreFewer (before after : List (Option NodeTotals)) : Type 0 where
  pub each : (node : ℕ) → (recalled after node ≡ None) ⊎ (recalled after node ≡ recalled before node)

-- nothing is remembered of the node that this task is on
pub record Forgets (all : List (Option NodeTotals)) (o : Option Task) : Type 0 where
  pub each : (x : Task) (node : ℕ) → o ≡ Some x → is_on node x ≡ true → recalled all node ≡ None

-- nor of the nodes of the task that the change puts or drops, as it is and as it was
pub record ForgetsChange (t : Tables) (all : List (Option NodeTotals)) (c : Change) : Type 0 where
  pub put : (x : Task) → c ≡ change.PutTask x → Forgets all (Some x) × Forgets all (row_at task_id x.id t.tasks)
  pub drop : (id : ℕ) → c ≡ change.DropTask id → Forgets all (row_at task_id id t.tasks)

pub record ForgetsAll (t : Tables) (all : List (Option NodeTotals)) (cs : List Change) : Type 0 where
  pub each : (c : Change) → Has cs c → ForgetsChange t all c

-- so far, where these changes are left
pub record Forgetting (t : Tables) (cs left : List Change) (before after : List (Option NodeTotals)) : Type 0 where
  pub fewer : AreFewer before after
  pub each : (c : Change) → Has cs c → ForgetsChange t after c ⊎ Has left c
