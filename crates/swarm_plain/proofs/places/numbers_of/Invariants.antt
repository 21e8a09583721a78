use Rattle.std.proofs.Common.{◌≡◌, take}
use Rattle.swarm_objects.specs.Tasks.Places.{numbers_of}
use Rattle.swarm_plain.proofs.places.numbers_of.Given as goal

abbrev pub invariant-loop-task : goal.invariant-loop-task
invariant-loop-task l = l.numbers ≡ numbers_of l.service (take l.task-index l.tasks)
