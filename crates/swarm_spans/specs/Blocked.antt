-- Changes that may let waiting tasks start, and what they touch.
use Rattle.std.specs.Option.{option_eq}
use Rattle.std.specs.Prelude.{Bool, List, ◌≡◌, ◌==◌, ◌&&◌, ◌<◌, not, true, false}
use Rattle.swarm_objects.specs.ChangeLists.{Makes}
use Rattle.swarm_objects.specs.Nodes.Words.{is_valid_node}
use Rattle.swarm_objects.specs.Rows.{Has, is_some_and, node_id, RisesFrom, row_at, task_id}
use Rattle.swarm_objects.specs.Same.{same_bool, same_number, same_place}
use Rattle.swarm_objects.specs.Tasks.Words.{is_to_wait}
use Rattle.swarm_objects.specs.World.{Tables}
use Rattle.swarm_objects.specs.declared.rows.Change.{Change}
use Rattle.swarm_objects.specs.declared.rows.Change.TheVariants as change
use Rattle.swarm_objects.specs.declared.tasks.Task.{Task}
use Rattle.swarm_spans.specs.Holding.{TouchesWhere}
use Rattle.swarm_spans.specs.Lines.{blocks, KeepsBlocked, KeepsBlockedOn, to_wait}
use Rattle.swarm_spans.specs.Spans.{CoversTasks, is_in, IsWider}
use Rattle.swarm_spans.specs.Touched.{HasWaitingBeside}
use Rattle.swarm_spans.specs.declared.span.Span.{Span}

-- it blocks the same place, and has the same node
abbrev pub still_blocks : Task → Task → Bool
still_blocks z y =
    blocks y && y.service == z.service && same_place y.place z.place && option_eq same_number y.node z.node

-- the task blocked its place, and by the change it doesn't any more
abbrev pub unblocks : Change → Task → Bool
unblocks (change.PutTask y) z = y.id == z.id && (blocks z && not (still_blocks z y))
unblocks (change.DropTask id) z = id == z.id && blocks z
unblocks (change.PutNode m) z = false
unblocks (change.PutService s) z = false
unblocks (change.Keep a) z = false

-- a node is put that is as valid as it wasn't
abbrev pub turns_node : Tables → Change → Bool
turns_node t (change.PutNode m) =
    is_some_and (λ a. not (same_bool (is_valid_node a) (is_valid_node m))) (row_at node_id m.id t.nodes)
turns_node t (change.PutService s) = false
turns_node t (change.PutTask y) = false
turns_node t (change.DropTask id) = false
turns_node t (change.Keep a) = false

-- the tasks to wait at a place that the change takes a task from are in the span
pub record TouchesPlace (t : Tables) (wide : Span) (c : Change) : Type 0 where
  pub tasks : (z : Task) → Has t.tasks z → unblocks c z ≡ true → HasWaitingBeside z t wide

-- and all that wait, where a node is as valid as it wasn't
pub record TouchesBlocked (t : Tables) (waiting wide : Span) (c : Change) : Type 0 where
  pub place : TouchesPlace t wide c
  pub node : turns_node t c ≡ true → IsWider wide waiting

-- so for each change, or all that wait are in the span anyway
abbrev pub TouchesAllBlocked : Tables → Span → Span → List Change → Type 0
TouchesAllBlocked t waiting wide cs = TouchesWhere (TouchesBlocked t waiting wide) cs waiting wide

-- the task is in the span, where it is to wait
pub record AddsToWait (x : Task) (span : Span) : Type 0 where
  pub own : 0 < x.id → is_to_wait x ≡ true → is_in span x.id ≡ true

-- where changes touch this, the law of the tasks to raise has what it asks for
abbrev pub BlockedLaw : Type 0
BlockedLaw =
    (t u : Tables) (cs : List Change) (waiting wide : Span) → RisesFrom task_id 0 t.tasks → Makes t cs u
    → CoversTasks to_wait t waiting → TouchesAllBlocked t waiting wide cs
    → KeepsBlocked t u wide × KeepsBlockedOn t u wide
