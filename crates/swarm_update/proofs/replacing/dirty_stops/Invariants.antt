use Rattle.std.proofs.Common.{◌≡◌, ◌++◌}
use Rattle.swarm_objects.specs.Changes.{wanted}
use Rattle.swarm_objects.specs.Services.Words.{is_live_dirty}
use Rattle.swarm_objects.specs.Tasks.Places.{place_tasks}
use Rattle.swarm_objects.specs.declared.tasks.Desired.TheVariants as desired
use Rattle.swarm_objects.specs.ChangeLists.{put_each}
use Rattle.swarm_update.proofs.replacing.dirty_stops.Given as goal

abbrev pub invariant-loop-task : goal.invariant-loop-task
invariant-loop-task g l =
    let tasks = place_tasks (g.R.Rows.tables l.rows) l.service l.number in
    l.changes ++ put_each (is_live_dirty l.service) (wanted l.version desired.Shutdown) l.task-iterator
    ≡ put_each (is_live_dirty l.service) (wanted l.version desired.Shutdown) tasks
