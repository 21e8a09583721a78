-- What is known of the branches of placement preferences.
use Rattle.std.specs.Option.{IfSome}
use Rattle.std.specs.Prelude.{Bool, List, Option, [], take, ℕ, ◌&&◌, ◌∷◌, ◌≡◌, ◌⊎◌}
use Rattle.swarm_objects.specs.Nodes.BestNode.{agrees, branch_load}
use Rattle.swarm_objects.specs.Nodes.Constraints.{key_value}
use Rattle.swarm_objects.specs.Nodes.Words.{is_node_and}
use Rattle.swarm_objects.specs.Rows.{Has}
use Rattle.swarm_objects.specs.Tasks.Words.{is_live, is_placed}
use Rattle.swarm_objects.specs.World.{Tables}
use Rattle.swarm_objects.specs.declared.nodes.Node.{Node}
use Rattle.swarm_objects.specs.declared.tasks.Task.{Task}
use Rattle.swarm_objects.specs.declared.templates.Key.TheVariants as key
use Rattle.swarm_objects.specs.declared.templates.Key.{Key}
use Rattle.swarm_sched.specs.declared.branches.Known.{Known}

-- tables, a service, and its preferences
pub record Preferences : Type 0 where
  pub tables : Tables
  pub service : ℕ
  pub keys : List Key

-- those of the task
abbrev pub preferences : Tables → Task → Preferences
preferences t x = record { tables = t; service = x.service; keys = x.template.spread }

-- the task counts on a node that agrees with this one on the keys
abbrev pub is_of_branch : Tables → List Key → Node → Task → Bool
is_of_branch t keys n x = is_live x && is_placed x && is_node_and t (agrees keys n) x

-- the branch of the node by so many preferences
abbrev pub load_at : Preferences → ℕ → Node → ℕ
load_at p depth n = branch_load p.tables p.service (take depth p.keys) n

-- so many tasks are in it
abbrev pub IsLoad : Preferences → Known → Type 0
IsLoad p k = k.load ≡ load_at p k.depth k.node.now

-- there is one key, and it isn't the node's id
pub record IsToldByText (keys : List Key) : Type 0 where
  pub one : Key
  pub alone : keys ≡ one ∷ []
  pub other : one ≡ key.NodeId → ⊥

-- then the text is the node's value for it
abbrev pub HasText : List Key → Node → List ℕ → Type 0
HasText keys n text = (k : Key) → keys ≡ k ∷ [] → (k ≡ key.NodeId) ⊎ (text ≡ key_value n k)

-- what is remembered of a branch is so
pub record IsKnown (p : Preferences) (k : Known) : Type 0 where
  pub load : IsLoad p k
  pub text : HasText (take k.depth p.keys) k.node.now k.text.now

pub record AreKnown (p : Preferences) (all : List (Option Known)) : Type 0 where
  pub each : (o : Option Known) → Has all o → IfSome o (IsKnown p)
