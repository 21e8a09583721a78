-- What a list of changes touches of the agents' loop: the nodes that are told something else of a task.
use Rattle.std.specs.Prelude.{List, None, Option, Some, if◌then◌else◌, true, ℕ, ◌<◌, ◌≡◌, ◌⊎◌}
use Rattle.swarm_objects.specs.Agents.Messages.{assigned, is_assigned_on}
use Rattle.swarm_objects.specs.Rows.{Has, row_at, task_id}
use Rattle.swarm_objects.specs.World.{Tables}
use Rattle.swarm_objects.specs.declared.messages.Assigned.{Assigned}
use Rattle.swarm_objects.specs.declared.rows.Change.TheVariants as change
use Rattle.swarm_objects.specs.declared.rows.Change.{Change}
use Rattle.swarm_objects.specs.declared.tasks.Task.{Task}
use Rattle.swarm_spans.specs.Spans.{IsWider, is_in}
use Rattle.swarm_spans.specs.declared.span.Span.{Span}
use Rattle.swarm_world.specs.declared.agent_spans.AgentSpans.{AgentSpans}

-- what the node is to be told of a task
abbrev pub told_on : ℕ → Option Task → Option Assigned
told_on node None = None
told_on node (Some x) = if is_assigned_on node x then Some (assigned x) else None

-- each node is told the same of the task as of the other one
abbrev pub IsToldAlike : Task → Option Task → Type 0
IsToldAlike y o = (node : ℕ) → told_on node (Some y) ≡ told_on node o

-- each node to which the task is assigned is in the span
pub record HasNodeOf (wide : Span) (o : Option Task) : Type 0 where
  pub has : (x : Task) (node : ℕ) → o ≡ Some x → 0 < node → is_assigned_on node x ≡ true → is_in wide node ≡ true

-- the node is in the span, or it is told the same after the change of one task
abbrev pub TellsSame : Tables → Span → ℕ → Option Task → Type 0
TellsSame t wide id after =
    (node : ℕ) → 0 < node → (is_in wide node ≡ true) ⊎ (told_on node after ≡ told_on node (row_at task_id id t.tasks))

-- the nodes on which the task is that is put or goes, or was, are in the span where they are told something else
pub record TouchesTold (t : Tables) (wide : Span) (c : Change) : Type 0 where
  pub put : (y : Task) → c ≡ change.PutTask y → TellsSame t wide y.id (Some y)
  pub drop : (id : ℕ) → c ≡ change.DropTask id → TellsSame t wide id None

pub record TouchesAllTold (t : Tables) (wide : Span) (cs : List Change) : Type 0 where
  pub each : (c : Change) → Has cs c → TouchesTold t wide c

-- the wider span has them, and what the former one had
pub record WidensTold (t : Tables) (span wide : Span) (cs : List Change) : Type 0 where
  pub wider : IsWider wide span
  pub touches : TouchesAllTold t wide cs

-- so does each of the first two. No change of rows gives an agent news: a task that comes is new, and has no executor.
-- And none gives an executor a step or a phase to come, or wakes an agent that isn't touched.
pub record AreTouched (t : Tables) (spans wide : AgentSpans) (cs : List Change) : Type 0 where
  pub duties : WidensTold t spans.duties wide.duties cs
  pub tells : WidensTold t spans.tells wide.tells cs
  pub news : wide.news ≡ spans.news
  pub waits : wide.waits ≡ spans.waits
  pub wakes : wide.wakes ≡ spans.wakes
  pub steps : wide.steps ≡ spans.steps
