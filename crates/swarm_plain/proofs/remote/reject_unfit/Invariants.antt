use Rattle.std.proofs.Common.{◌≡◌, ◌++◌, drop, take}
use Rattle.swarm_objects.proofs.Within.{within}
use Rattle.swarm_plain.proofs.remote.reject_unfit.Given as goal

abbrev pub invariant-loop-task : goal.invariant-loop-task
invariant-loop-task l =
    take l.task-index l.tasks ++ within l.version l.clock l.node l.cpu_left l.mem_left (drop l.task-index l.tasks)
    ≡ within l.version l.clock l.node l.cpu l.mem l.initial.tasks
