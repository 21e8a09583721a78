-- What a list of changes touches: t has the rows before them. A world asks before it commits, with the rows as they
-- are; by the laws here the span then has what the lines' laws ask for in the tables that the changes make.
use Rattle.std.specs.Prelude.{ℕ, Bool, List, Some, ◌≡◌, ◌⊎◌, ◌<◌, true}
use Rattle.swarm_objects.specs.ChangeLists.{Makes}
use Rattle.swarm_objects.specs.Nodes.Words.{is_down, is_ready}
use Rattle.swarm_objects.specs.Rows.{Has, node_id, RisesFrom, row_at, service_id, task_id}
use Rattle.swarm_objects.specs.Tasks.Words.{is_beside, is_to_wait}
use Rattle.swarm_objects.specs.World.{Tables}
use Rattle.swarm_objects.specs.declared.nodes.Node.{Node}
use Rattle.swarm_objects.specs.declared.rows.Change.{Change}
use Rattle.swarm_objects.specs.declared.rows.Change.TheVariants as change
use Rattle.swarm_objects.specs.declared.services.Service.{Service}
use Rattle.swarm_objects.specs.declared.tasks.Task.{Task}
use Rattle.swarm_spans.specs.Kept.{IsAlike, KeepsOwnNodes}
use Rattle.swarm_spans.specs.Lines.{AlikeReady}
use Rattle.swarm_spans.specs.Spans.{is_in, IsWider}
use Rattle.swarm_spans.specs.declared.span.Span.{Span}

-- each task of the service, and on the node
pub record HasTasksOf (service : ℕ) (t : Tables) (wide : Span) : Type 0 where
  pub tasks : (x : Task) → Has t.tasks x → x.service ≡ service → is_in wide x.id ≡ true

pub record HasTasksOn (node : ℕ) (t : Tables) (wide : Span) : Type 0 where
  pub tasks : (x : Task) → Has t.tasks x → x.node ≡ Some node → is_in wide x.id ≡ true

-- each task to wait beside this one
pub record HasWaitingBeside (z : Task) (t : Tables) (wide : Span) : Type 0 where
  pub tasks : (x : Task) → Has t.tasks x → is_beside x z ≡ true → is_to_wait x ≡ true → is_in wide x.id ≡ true

-- each task on a node that is DOWN
pub record HasTasksOnDown (t : Tables) (wide : Span) : Type 0 where
  pub nodes : (n : Node) → Has t.nodes n → is_down n.state ≡ true → HasTasksOn n.id t wide

-- the task that is put has its id in the span, where it may have a duty and isn't like the former one
pub record TouchesTask (may : Task → Bool) (Alike : Task → Task → Type 0) (t : Tables) (wide : Span) (y : Task)
    : Type 0 where
  pub own : 0 < y.id → may y ≡ true → (is_in wide y.id ≡ true)
      ⊎ IsAlike Alike (row_at task_id y.id t.tasks) (Some y)

-- the tasks of the service that is put are in the span, where it isn't like the former one
pub record TouchesService (Alike : Service → Service → Type 0) (t : Tables) (wide : Span) (s : Service) : Type 0 where
  pub of : (a : Service) (x : Task) → row_at service_id s.id t.services ≡ Some a → Has t.tasks x → x.service ≡ s.id
      → (is_in wide x.id ≡ true) ⊎ Alike a s

-- the tasks on the node that is put are in the span, where it isn't like the former one
pub record TouchesNode (Alike : Node → Node → Type 0) (t : Tables) (wide : Span) (n : Node) : Type 0 where
  pub on : (a : Node) (x : Task) → row_at node_id n.id t.nodes ≡ Some a → Has t.tasks x → x.node ≡ Some n.id
      → (is_in wide x.id ≡ true) ⊎ Alike a n

-- what one change touches of a line over tasks
pub record Touches
    (may : Task → Bool) (AlikeTask : Task → Task → Type 0) (AlikeService : Service → Service → Type 0)
    (AlikeNode : Node → Node → Type 0) (t : Tables) (wide : Span) (c : Change) : Type 0 where
  pub task : (y : Task) → c ≡ change.PutTask y → TouchesTask may AlikeTask t wide y
  pub service : (s : Service) → c ≡ change.PutService s → TouchesService AlikeService t wide s
  pub node : (n : Node) → c ≡ change.PutNode n → TouchesNode AlikeNode t wide n

-- what each change touches
pub record TouchesAll
    (may : Task → Bool) (AlikeTask : Task → Task → Type 0) (AlikeService : Service → Service → Type 0)
    (AlikeNode : Node → Node → Type 0) (t : Tables) (wide : Span) (cs : List Change) : Type 0 where
  pub each : (c : Change) → Has cs c → Touches may AlikeTask AlikeService AlikeNode t wide c

-- one change after the other
pub record Touching (P : Change → Span → Type 0) (all left : List Change) (first span : Span) : Type 0 where
  pub wider : IsWider span first
  pub each : (c : Change) → Has all c → P c span ⊎ Has left c

-- each node that is put READY is in the span
pub record TouchesReady (wide : Span) (c : Change) : Type 0 where
  pub node : (m : Node) → c ≡ change.PutNode m → 0 < m.id → is_ready m.state ≡ true → is_in wide m.id ≡ true

pub record TouchesAllReady (wide : Span) (cs : List Change) : Type 0 where
  pub each : (c : Change) → Has cs c → TouchesReady wide c

-- then the law of nodes whose session is over has what it asks for of the nodes
abbrev pub ReadyLaw : Type 0
ReadyLaw =
    (t u : Tables) (cs : List Change) (wide : Span) → RisesFrom node_id 0 u.nodes → Makes t cs u
    → TouchesAllReady wide cs → KeepsOwnNodes (λ n. is_ready n.state) AlikeReady t u wide
