use Rattle.std.proofs.Common.{◌≡◌, take}
use Rattle.std.specs.Prelude.{filter, map}
use Rattle.swarm_objects.specs.Shown.{task_shown}
use Rattle.swarm_objects.specs.Tasks.Words.{is_of}
use Rattle.swarm_plain.specs.Plain.{tables_of}
use Rattle.swarm_plain.proofs.Plain.tasks_of.Given as goal

abbrev pub invariant-loop-task : goal.invariant-loop-task
invariant-loop-task l =
    l.rows ≡ map (task_shown (tables_of l.self)) (filter (is_of l.service) (take l.task-index l.task-items))
