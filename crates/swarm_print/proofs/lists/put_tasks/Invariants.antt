use Rattle.std.proofs.Common.{◌≡◌, ◌++◌, take, flat_map, string_bytes}
use Rattle.swarm_print.specs.Lists.{task_line}
use Rattle.swarm_print.proofs.lists.put_tasks.Given as goal

abbrev pub invariant-loop-task : goal.invariant-loop-task
invariant-loop-task l = string_bytes l.text ≡ string_bytes l.initial.text ++ flat_map task_line (take l.task-index l.tasks)
