use Rattle.std.proofs.Common.{◌≡◌, take}
use Rattle.std.specs.Prelude.{flat_map}
use Rattle.swarm_objects.specs.Loops.Scheduler.{schedule}
use Rattle.swarm_plain.specs.Plain.{world_of}
use Rattle.plain_placement.proofs.scheduler.scheduler_duties.Given as goal

abbrev pub invariant-loop-task : goal.invariant-loop-task
invariant-loop-task l = l.duties ≡ flat_map (schedule (world_of l.plain).tables) (take l.task-index l.task-items)
