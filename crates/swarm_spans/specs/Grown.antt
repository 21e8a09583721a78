-- Spans that get one row after the other.
use Rattle.std.specs.Prelude.{◌≡◌, ◌⊎◌, List, true}
use Rattle.swarm_objects.specs.Nodes.Words.{is_down}
use Rattle.swarm_objects.specs.Rows.{Has}
use Rattle.swarm_objects.specs.World.{Tables}
use Rattle.swarm_objects.specs.declared.nodes.Node.{Node}
use Rattle.swarm_objects.specs.declared.tasks.Task.{Task}
use Rattle.swarm_spans.specs.Spans.{is_in, IsWider}
use Rattle.swarm_spans.specs.Touched.{HasTasksOn}
use Rattle.swarm_spans.specs.declared.span.Span.{Span}

-- each of the tasks is in the span or among those that are left
pub record Adding (all left : List Task) (first span : Span) : Type 0 where
  pub wider : IsWider span first
  pub each : (y : Task) → Has all y → (is_in span y.id ≡ true) ⊎ Has left y
  pub fewer : (y : Task) → Has left y → Has all y

-- the tasks of each node that is DOWN are in the span, or the node is among those that are left
pub record AddingOnDown (t : Tables) (left span : Span) : Type 0 where
  pub each : (n : Node) → Has t.nodes n → is_down n.state ≡ true
      → HasTasksOn n.id t span ⊎ (is_in left n.id ≡ true)
