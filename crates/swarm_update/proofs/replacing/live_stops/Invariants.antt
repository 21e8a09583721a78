use Rattle.std.proofs.Common.{◌≡◌, ◌++◌}
use Rattle.swarm_objects.specs.Changes.{wanted}
use Rattle.swarm_objects.specs.Tasks.Words.{is_live}
use Rattle.swarm_objects.specs.Tasks.Places.{place_tasks}
use Rattle.swarm_objects.specs.declared.tasks.Desired.TheVariants as desired
use Rattle.swarm_objects.specs.ChangeLists.{put_each}
use Rattle.swarm_update.proofs.replacing.live_stops.Given as goal

abbrev pub invariant-loop-task : goal.invariant-loop-task
invariant-loop-task g l =
    let tasks = place_tasks (g.R.Rows.tables l.rows) l.service l.number in
    l.changes ++ put_each is_live (wanted l.version desired.Shutdown) l.task-iterator
    ≡ put_each is_live (wanted l.version desired.Shutdown) tasks
