use Rattle.std.proofs.Common.{◌≡◌}
use Rattle.std.specs.List.{last_or}
use Rattle.std.specs.Option.{option_copied}
use Rattle.swarm_objects.specs.Tasks.Places.{newest, tasks_of_place}
use Rattle.role_words.proofs.places.newest.Given as goal

abbrev pub invariant-loop-task : goal.invariant-loop-task
invariant-loop-task g l =
    last_or (option_copied l.newest) l.task-iterator
    ≡ newest (tasks_of_place l.service l.fn.place (g.R.Rows.tables l.rows).tasks)
