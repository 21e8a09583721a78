use Rattle.std.proofs.Common.{◌≡◌, take}
use Rattle.std.specs.Option.{option_copied}
use Rattle.swarm_objects.specs.Tasks.Places.{newest, tasks_of_place}
use Rattle.swarm_plain.proofs.places.newest.Given as goal

abbrev pub invariant-loop-task : goal.invariant-loop-task
invariant-loop-task l =
    option_copied l.newest ≡ newest (tasks_of_place l.service l.place (take l.task-index l.tasks))
