use Rattle.std.proofs.Common.{◌≡◌, ◌++◌}
use Rattle.swarm_objects.specs.Changes.{wanted}
use Rattle.swarm_objects.specs.Tasks.Places.{place_tasks}
use Rattle.swarm_objects.specs.Tasks.Words.{is_kept}
use Rattle.swarm_objects.specs.declared.tasks.Desired.TheVariants as desired
use Rattle.swarm_objects.specs.ChangeLists.{put_each}
use Rattle.role_words.proofs.place_effects.removals.Given as goal

abbrev pub invariant-loop-task : goal.invariant-loop-task
invariant-loop-task g l =
    l.changes ++ put_each is_kept (wanted l.version desired.Remove) l.task-iterator
    ≡ put_each is_kept (wanted l.version desired.Remove) (place_tasks (g.R.Rows.tables l.rows) l.service l.number)
