-- Changes that may move where tasks go: where there is one, all that wait for a node are touched.
use Rattle.std.specs.List.{list_any}
use Rattle.std.specs.Prelude.{Bool, List, ◌≡◌, ◌||◌, true, false}
use Rattle.swarm_objects.specs.ChangeLists.{Makes}
use Rattle.swarm_objects.specs.Rows.{is_some_and, RisesFrom, row_at, task_id}
use Rattle.swarm_objects.specs.Tasks.Words.{is_placed}
use Rattle.swarm_objects.specs.World.{Tables}
use Rattle.swarm_objects.specs.declared.rows.Change.{Change}
use Rattle.swarm_objects.specs.declared.rows.Change.TheVariants as change
use Rattle.swarm_spans.specs.Kept.{KeepsWhere}
use Rattle.swarm_spans.specs.Lines.{is_to_schedule, ScheduledAsBefore, to_schedule}
use Rattle.swarm_spans.specs.Spans.{CoversTasks, IsWider}
use Rattle.swarm_spans.specs.declared.span.Span.{Span}

-- a node is put, or a task that is placed or was
abbrev pub moves : Tables → Change → Bool
moves t (change.PutNode m) = true
moves t (change.PutService s) = false
moves t (change.PutTask y) = is_placed y || is_some_and is_placed (row_at task_id y.id t.tasks)
moves t (change.DropTask id) = is_some_and is_placed (row_at task_id id t.tasks)
moves t (change.Keep a) = false

-- where such a change touches all that wait, the scheduler's law has what it asks for
abbrev pub MovedLaw : Type 0
MovedLaw =
    (t u : Tables) (cs : List Change) (waiting wide : Span) → RisesFrom task_id 0 t.tasks
    → RisesFrom task_id 0 u.tasks → Makes t cs u → CoversTasks to_schedule t waiting
    → (list_any (moves t) cs ≡ true → IsWider wide waiting)
    → KeepsWhere is_to_schedule (ScheduledAsBefore t u) t wide
